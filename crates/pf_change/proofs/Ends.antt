-- How the making of a text is stopped.
use Rattle.std.specs.Prelude.{ℕ, Result}
use Rattle.pf_vocabulary.specs.declared.fault.fault.Fault.{Fault}
use Rattle.pf_vocabulary.specs.declared.fault.fault.Fault.TheVariants as why
use Rattle.pf_vocabulary.specs.Fault.Faults.{IsUnwritten}
use Rattle.pf_change.specs.Difference.{DiffTold}
use Rattle.pf_change.specs.Made.{Stops}

-- Use: nothing of it was written.
pub stops_unwritten : (change : Result DiffTold ℕ) (fault : Fault) → Stops change fault → IsUnwritten fault
stops_unwritten change (why.BadRecord number) h = tt
stops_unwritten change why.NoMemory h = tt
stops_unwritten change why.Read h = tt
stops_unwritten change why.Write h = absurd h
stops_unwritten change why.TooLong h = tt
stops_unwritten change (why.BadRange fault) h = tt
stops_unwritten change why.NoViewer h = tt
stops_unwritten change why.Unread h = tt
stops_unwritten change why.GateShut h = tt
