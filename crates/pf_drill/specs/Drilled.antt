-- The text of a drill, and what its answers say.
use Rattle.std.specs.Prelude.{ℕ, ◌≡◌, ◌<◌, ⊤, All, List, ◌++◌, length, map, codes, Option, Result, Ok, Err}
use Rattle.std.specs.Io.KnownBytes.{Appends, Keeps}
use Rattle.pf_scenario.specs.System.{System}
use Rattle.pf_run.specs.RunRows.{rows_in, denials_in}
use Rattle.pf_desk.specs.declared.command.Command.{Command}
use Rattle.pf_desk.specs.declared.entry.Entry.{Entry}
use Rattle.pf_desk.specs.Machine.{State}
use Rattle.pf_desk.specs.History.{IsLegal, last_state}
use Rattle.pf_desk.specs.Desk.{Seen}
use Rattle.pf_report.specs.Tables.{schedule_text}
use Rattle.pf_board.specs.declared.quantum.Quantum.{Quantum}
use Rattle.pf_board.specs.Quanta.{issues}
use Rattle.pf_share.specs.Histories.{numbered, quanta_of}
use Rattle.pf_script_desk.specs.Asked.{Asked, Whole, BadRecord, script_asked}
use Rattle.pf_stream.specs.Reading.{longest_script}
use Rattle.pf_stream.specs.Written.{TookFront}
use Rattle.pf_vocabulary.specs.declared.fault.fault.Fault.{Fault}
use Rattle.pf_vocabulary.specs.declared.fault.fault.Fault.TheVariants as why
use Rattle.pf_drill.specs.declared.worker.Worker.{Worker}
use Rattle.pf_drill.specs.Gates.{Arrived, SomeArrived}
use Rattle.pf_drill.specs.Taken.{taken_text_of}

-- what a desk shows that is in this state after so many entries
abbrev pub seen_in : ℕ → State → Seen
seen_in entries st = record { version = entries; state = st; rows = rows_in st.plan st.now; denials = denials_in st.plan st.now }

-- the schedule that was seen and what was taken, each after a line with its name
abbrev pub drill_text : Seen → List Quantum → List ℕ
drill_text seen taken = (codes "schedule\n" ++ schedule_text seen) ++ (codes "taken\n" ++ taken_text_of taken)

-- The text is that of a drill with these settings and commands, in which these quanta were taken: of the one history in which
-- the commands are answered as the desk machine does, it has the schedule at the end, and the quanta of all steps, by slot,
-- then by processor.
pub record IsDrill (settings : System) (commands : List Command) (taken : List Quantum) (text : List ℕ) : Type 0 where
  pub history : List Entry
  pub is_legal : IsLegal settings history
  pub commands_are : map (λ e. e.command) history ≡ commands
  pub taken_are : taken ≡ issues quanta_of (numbered history)
  pub text_is : text ≡ drill_text (seen_in (length history) (last_state settings history)) taken

-- the text is that of the drill of what was asked for, in which each quantum was taken by the pass of its processor, and
-- its worker was let in with it
pub record IsDrilled (lets_in : Worker → Quantum → Type 0) (settings : System) (commands : List Command) (text : List ℕ) : Type 0 where
  pub taken : List Quantum
  pub drill : IsDrill settings commands taken text
  pub arrived : All (Arrived lets_in) taken

abbrev pub Drills : (Worker → Quantum → Type 0) → Asked → List ℕ → Type 0
Drills lets_in (Whole settings commands) text = IsDrilled lets_in settings commands text
Drills lets_in (BadRecord number) text = ⊥

-- a fault that tells nothing of the script, and that comes before anything is written; a gate that was shut tells `shut`
abbrev pub IsHalt : Type 0 → Fault → Type 0
IsHalt shut (why.BadRecord number) = ⊥
IsHalt shut why.Read = ⊥
IsHalt shut why.Write = ⊥
IsHalt shut why.TooLong = ⊥
IsHalt shut why.GateShut = shut
IsHalt shut (why.BadRange range) = ⊥
IsHalt shut why.NoViewer = ⊤
IsHalt shut why.Unread = ⊤
IsHalt shut why.NoMemory = ⊤

-- the drill of what was asked for was stopped: by the first bad record, or by a halt
abbrev pub Stops : Type 0 → Asked → Fault → Type 0
Stops shut asked (why.BadRecord number) = asked ≡ BadRecord number
Stops shut asked fault = IsHalt shut fault
