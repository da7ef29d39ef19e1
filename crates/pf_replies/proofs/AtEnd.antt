-- What a script comes to at its end.
use Rattle.std.proofs.Common.{◌≡◌, ℕ, Result, Ok, Err}
use Rattle.std.specs.Prelude.{IfErr}
use Rattle.pf_desk.specs.Desk.{Shown}
use Rattle.pf_script.specs.Told.{Told}
use Rattle.pf_vocabulary.specs.declared.options.format.Format.{Format}
use Rattle.pf_vocabulary.specs.declared.fault.fault.Fault.{Fault}
use Rattle.pf_vocabulary.specs.declared.fault.fault.Fault.TheVariants as why
use Rattle.pf_vocabulary.specs.Fault.Faults.{IsUnwritten}
use Rattle.pf_replies.specs.Carried.{EndsBy, OpensReplies, StopsAt}
use Rattle.pf_replies.specs.Course.{ScriptCourse, outcome_told}

-- Use: the settings were not read.
pub unopened_stops : (format : Format) (t : Told) (fault : Fault) → OpensReplies format t (Err fault) → StopsAt (outcome_told t) fault
unopened_stops format t (why.BadRecord number) h = h.1
unopened_stops format t why.NoMemory h = tt
unopened_stops format t why.Read h = absurd h
unopened_stops format t why.Write h = absurd h
unopened_stops format t why.TooLong h = absurd h
unopened_stops format t (why.BadRange fault) h = absurd h
unopened_stops format t why.NoViewer h = absurd h
unopened_stops format t why.Unread h = absurd h
unopened_stops format t why.GateShut h = absurd h

-- Use: nothing was written.
pub stops_unwritten : (outcome : Result ScriptCourse ℕ) (fault : Fault) → StopsAt outcome fault → IsUnwritten fault
stops_unwritten outcome (why.BadRecord number) h = tt
stops_unwritten outcome why.NoMemory h = tt
stops_unwritten outcome why.Read h = absurd h
stops_unwritten outcome why.Write h = absurd h
stops_unwritten outcome why.TooLong h = absurd h
stops_unwritten outcome (why.BadRange fault) h = absurd h
stops_unwritten outcome why.NoViewer h = absurd h
stops_unwritten outcome why.Unread h = absurd h
stops_unwritten outcome why.GateShut h = absurd h

pub ends_unwritten : (outcome : Result ScriptCourse ℕ) (result : Result Shown Fault) → EndsBy outcome result → IfErr result IsUnwritten
ends_unwritten outcome (Ok desk) h = tt
ends_unwritten outcome (Err fault) h = stops_unwritten outcome fault h

-- Use: the commands left the script at what the desk there came to.
pub ends_left : (left outcome : Result ScriptCourse ℕ) (result : Result Shown Fault) → left ≡ outcome → EndsBy left result → EndsBy outcome result
ends_left left outcome (Ok desk) same h = rw (← same) h
ends_left left outcome (Err fault) same h = rw (← same) h
