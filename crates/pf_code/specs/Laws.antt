-- What holds of every table.
use Rattle.std.specs.Prelude.{◌≡◌, ◌≢◌, ℕ, ◌+◌, ◌%◌, ◌^◌, ◌<◌, ◌≤◌, true, List, All, AllPairs, map, slice_index_or}
use Rattle.pf_weight.specs.Share.{Share, IsShare}
use Rattle.pf_window.specs.Window.{release_of, deadline_of}
use Rattle.pf_order.specs.declared.pick.Pick.{Pick}
use Rattle.pf_scenario.specs.Edit.{IsScenario}
use Rattle.pf_run.specs.Inside.{Joined}
use Rattle.pf_run.specs.Record.{Slot}
use Rattle.pf_run.specs.Run.{IsRun}
use Rattle.pf_desk.specs.Desk.{Seen}
use Rattle.pf_vocabulary.specs.Names.Text.{is_text}
use Rattle.pf_vocabulary.specs.declared.names.named.Named.{Named}
use Rattle.pf_code.specs.Repetition.{repetition_of}
use Rattle.pf_code.specs.Tasks.{bound_of, symbol_of}
use Rattle.pf_code.specs.declared.repetition.Repetition.TheVariants.{Every}

-- the tasks that run in a slot of a run
abbrev pub tasks_at : List Slot → ℕ → Slot → List ℕ
tasks_at r t d = map (λ (p : Pick). p.task) (slice_index_or r t d).picks

-- A table repeats: where it says so, each slot of the run, however long it goes on, has the tasks of its row.
abbrev pub TableRepeats : Type 0
TableRepeats = (seen : Seen) (from to span : ℕ) → IsScenario seen.state.plan → repetition_of seen from to ≡ Every span →
    (n : ℕ) (r : List Slot) (t : ℕ) (d : Slot) → IsRun seen.state.plan n r → t < n → tasks_at r t d ≡ tasks_at r (t % span) d

-- Symbols differ: no two tasks have the same, where their numbers differ.
abbrev pub SymbolsDiffer : Type 0
SymbolsDiffer = (names : List Named) (tasks : List Joined) → All (λ named. is_text named.name ≡ true) names →
    All (λ j. j.task < 2 ^ 64) tasks → AllPairs (λ a b. a.task ≢ b.task) tasks →
    AllPairs (λ a b. symbol_of names tasks a ≢ symbol_of names tasks b) tasks

-- A name in a comment ends none: it has no `*`, no `/` and no line end.
abbrev pub NamesEndNoComment : Type 0
NamesEndNoComment = (name : List ℕ) → is_text name ≡ true → All (λ byte. (byte ≢ 42) × (byte ≢ 47) × (byte ≢ 10)) name

-- A job is done within its bound: where subtask i is released below slot s, the next ones, as many as a job has, are due a slot before
-- the bound of a job that has come by then.
abbrev pub JobsAreWithinBounds : Type 0
JobsAreWithinBounds = (w : Share) (i s : ℕ) → IsShare w → 1 ≤ i → release_of w i < s → deadline_of w (i + w.cost) + 1 ≤ s + bound_of w
