-- What a drill of bytes answers, and what it writes.
use Rattle.std.specs.Prelude.{ℕ, ◌≡◌, ◌<◌, ◌⊎◌, List, length, Option, None, Some, Result, Ok, Err}
use Rattle.std.specs.Io.KnownBytes.{Appends, Keeps}
use Rattle.pf_board.specs.declared.quantum.Quantum.{Quantum}
use Rattle.pf_drill.specs.declared.worker.Worker.{Worker}
use Rattle.pf_drill.specs.Drilled.{Drills, IsHalt, Stops}
use Rattle.pf_vocabulary.specs.declared.fault.fault.Fault.{Fault}
use Rattle.pf_vocabulary.specs.declared.fault.fault.Fault.TheVariants as fault
use Rattle.pf_plain_script.specs.declared.origin.Origin.{Origin}
use Rattle.pf_plain_script.specs.Plain.{Plain, plain}
use Rattle.pf_script_desk.specs.Asked.{Asked, Whole, BadRecord, script_asked}
use Rattle.pf_stream.specs.Reading.{longest_script}
use Rattle.pf_stream.specs.Written.{TookFront}
use Rattle.pf_text.specs.Page.{table_text}
use Rattle.pf_cli.specs.Versions.{number_from}
use Rattle.pf_cli.specs.declared.run_fault.RunFault.{RunFault}
use Rattle.pf_cli.specs.declared.run_fault.RunFault.TheVariants as why

-- the same, with the number of the record that a bad one comes from
abbrev pub numbered_asked : List Origin → Asked → Asked
numbered_asked origins (Whole settings commands) = Whole settings commands
numbered_asked origins (BadRecord number) = BadRecord (number_from origins number)

abbrev pub plan_asked : Plain → Asked
plan_asked p = numbered_asked p.origins (script_asked (table_text p.records))

abbrev pub asked_of : List ℕ → Option Plain → Asked
asked_of bytes None = script_asked bytes
asked_of bytes (Some p) = plan_asked p

-- what the bytes of a script of any version ask for: a plan asks what the script of version 2 asks that belongs to it
abbrev pub drill_asked : List ℕ → Asked
drill_asked bytes = asked_of bytes (plain bytes)

abbrev pub IsTooLong : List ℕ → Option Plain → Type 0
IsTooLong bytes None = longest_script < length bytes
IsTooLong bytes (Some p) = (longest_script < length bytes) ⊎ (longest_script < length (table_text p.records))

-- why a drill of a plan was stopped before anything is written; a gate that was shut tells `shut`
abbrev pub StopsPlan : Type 0 → Plain → Fault → Type 0
StopsPlan shut p (fault.BadRecord number) = plan_asked p ≡ BadRecord number
StopsPlan shut p fault.TooLong = longest_script < length (table_text p.records)
StopsPlan shut p other = IsHalt shut other

abbrev pub StopsOf : Type 0 → List ℕ → Option Plain → Fault → Type 0
StopsOf shut bytes None other = Stops shut (script_asked bytes) other
StopsOf shut bytes (Some p) other = StopsPlan shut p other

-- the same of a script of any version
abbrev pub StopsDrill : Type 0 → List ℕ → Fault → Type 0
StopsDrill shut bytes why = StopsOf shut bytes (plain bytes) why ⊎ (why ≡ fault.NoMemory)

-- the writer took the text of a drill, in which each quantum was taken by the pass of its processor and its worker was let in;
-- before any other fault than of the writer nothing was written; a gate that was shut tells `shut`
abbrev pub DrillsAs : {A : Type 0} → (Worker → Quantum → Type 0) → Type 0 → List ℕ → Result A RunFault → Option (List ℕ) → Option (List ℕ) → Type 0
DrillsAs lets_in shut bytes (Ok done) old new = (text : List ℕ) × Drills lets_in (drill_asked bytes) text × Appends old new text
DrillsAs lets_in shut bytes (Err (why.BadLine number)) old new = (drill_asked bytes ≡ BadRecord number) × Keeps old new
DrillsAs lets_in shut bytes (Err why.ScriptTooLong) old new = IsTooLong bytes (plain bytes) × Keeps old new
DrillsAs lets_in shut bytes (Err (why.BadRange range)) old new = ⊥
DrillsAs lets_in shut bytes (Err why.ReadFault) old new = Keeps old new
DrillsAs lets_in shut bytes (Err why.WriteFault) old new = (text : List ℕ) × Drills lets_in (drill_asked bytes) text × TookFront old new text
DrillsAs lets_in shut bytes (Err why.NoMemory) old new = Keeps old new
DrillsAs lets_in shut bytes (Err why.NoViewer) old new = Keeps old new
DrillsAs lets_in shut bytes (Err why.Unread) old new = Keeps old new
DrillsAs lets_in shut bytes (Err why.GateShut) old new = shut × Keeps old new
