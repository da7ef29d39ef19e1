-- What the planner of a shared desk gives, and its workers take.
use Rattle.std.specs.Prelude.{ℕ, ◌≡◌, ◌<◌, false, All, Option, None, Some, IfSome, IfNone, List, [], ◌∷◌, ◌++◌, length, map, slice_index_or}
use mathlib.Core.List.{IsPrefix}
use Rattle.atomic_table.specs.Seated.{TableId}
use Rattle.pf_scenario.specs.System.{System}
use Rattle.pf_desk.specs.declared.command.Command.{Command}
use Rattle.pf_desk.specs.declared.entry.Entry.{Entry}
use Rattle.pf_desk.specs.Machine.{reply_to}
use Rattle.pf_desk.specs.History.{IsLegal, last_state}
use Rattle.pf_desk.specs.Desk.{Seen, entry_of}
use Rattle.pf_board.specs.declared.quantum.Quantum.{Quantum}
use Rattle.pf_board.specs.Quanta.{times, issues}
use Rattle.pf_board.specs.Passes.{Passing}
use Rattle.pf_script_desk.specs.Asked.{commands_in}
use Rattle.pf_script.specs.Told.{LinesTold}
use Rattle.pf_share.specs.declared.done.Done.{Done}
use Rattle.pf_share.specs.Histories.{IsHistory, entries_of, quanta_of}
use Rattle.pf_drill.specs.Drilled.{seen_in}
use Rattle.pf_drill.specs.Gates.{Arrived}
use Rattle.pf_drill.specs.declared.worker.Worker.{Worker}
use Rattle.pf_drill.specs.declared.planner.Planner.{Planner}

-- a worker that took nothing yet
abbrev pub new_worker : Passing Entry System → Worker
new_worker pass = record { pass = pass; got = None; is_shut = false }

-- the pass took the quantum, which is of the processor of its number, was issued in the history that it has then seen, and
-- had not been taken by it
pub record Grabs (v : Passing Entry System) (q : Quantum) (w : Passing Entry System) : Type 0 where
  pub processor : q.processor ≡ v.me
  pub issued : 0 < times q (issues quanta_of w.seen)
  pub fresh : times q v.taken ≡ 0
  pub pass : w ≡ record v { seen = w.seen; taken = v.taken ++ q ∷ []; loads = w.loads }

-- the worker took a quantum, or none
pub record Works (v w : Worker) : Type 0 where
  pub some : IfSome w.got (λ q. Grabs v.pass q w.pass)
  pub none : IfNone w.got (w.pass ≡ record v.pass { loads = w.pass.loads })

-- each of these passes is of the board
abbrev pub AreOfBoard : TableId → List (Passing Entry System) → Type 0
AreOfBoard board passes = All (λ p. p.board ≡ board) passes

-- the pass's command was answered as the desk machine does after the history `before`, which begins with all that the pass
-- had seen, and its entry follows that history
pub record GoesOn (settings : System) (command : Command) (v : Passing Entry System) (done : Done) (w : Passing Entry System) : Type 0 where
  pub before : List (ℕ × Entry)
  pub begins : IsPrefix v.seen before
  pub answer : done.reply ≡ reply_to (last_state settings (entries_of before)) command
  pub seen : w.seen ≡ before ++ (v.me, entry_of v.me command done.reply) ∷ []
  pub history : IsHistory settings w.seen
  pub front : done.front ≡ length w.seen
  pub board : w.board ≡ v.board

-- the commands that a planner has given
abbrev pub commands_given : Planner → List Command
commands_given planner = map (λ x. x.1.command) planner.pass.seen

-- the history has the planner's entries alone, and the planner knows all that it issues
pub record IsInStep (board : TableId) (settings : System) (planner : Planner) : Type 0 where
  pub board_is : planner.pass.board ≡ board
  pub history : IsHistory settings planner.pass.seen
  pub answered : length planner.pass.seen ≡ planner.answered
  pub issued : planner.issued.items ≡ issues quanta_of planner.pass.seen

-- the planner gave what all lines ask for, and a worker was let in with each quantum that was issued
pub record HasGiven (lets_in : Worker → Quantum → Type 0) (board : TableId) (settings : System) (lines : LinesTold) (planner : Planner) : Type 0 where
  pub step : IsInStep board settings planner
  pub whole : lines.fault ≡ None
  pub commands : commands_given planner ≡ commands_in lines.lines
  pub arrived : All (Arrived lets_in) planner.issued.items

-- the snapshot shows what the planner's history makes of a desk with these settings
pub record ShowsPlan (settings : System) (planner : Planner) (seen : Seen) : Type 0 where
  pub is_legal : IsLegal settings (entries_of planner.pass.seen)
  pub shown : seen ≡ seen_in (length (entries_of planner.pass.seen)) (last_state settings (entries_of planner.pass.seen))
