-- How a drill is stopped.
use Rattle.std.proofs.Common.{◌≡◌, ℕ}
use Rattle.pf_vocabulary.specs.declared.fault.fault.Fault.{Fault}
use Rattle.pf_vocabulary.specs.declared.fault.fault.Fault.TheVariants as why
use Rattle.pf_vocabulary.specs.Fault.Faults.{IsUnwritten}
use Rattle.pf_script_desk.specs.Asked.{Asked}
use Rattle.pf_drill.specs.Drilled.{Stops}

-- Use: nothing of it was written.
pub stops_unwritten : (shut : Type 0) (asked : Asked) (fault : Fault) → Stops shut asked fault → IsUnwritten fault
stops_unwritten shut asked (why.BadRecord number) h = tt
stops_unwritten shut asked why.Read h = tt
stops_unwritten shut asked why.Write h = absurd h
stops_unwritten shut asked why.TooLong h = tt
stops_unwritten shut asked (why.BadRange range) h = tt
stops_unwritten shut asked why.GateShut h = tt
stops_unwritten shut asked why.NoViewer h = tt
stops_unwritten shut asked why.Unread h = tt
stops_unwritten shut asked why.NoMemory h = tt
