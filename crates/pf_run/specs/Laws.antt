-- The laws of runs, each the contract of a public function.
use Rattle.std.specs.Prelude.{◌≡◌, ◌≢◌, ◌↔◌, ℕ, ◌≤◌, List, AllPairs, take, filter, nat_lt}
use Rattle.pf_place.specs.Priority.{Priority}
use Rattle.pf_place.specs.First.{AreFirst, first_keys}
use Rattle.pf_scenario.specs.System.{System}
use Rattle.pf_scenario.specs.Event.{slot_of}
use Rattle.pf_scenario.specs.Scenario.{Plan}
use Rattle.pf_scenario.specs.Edit.{IsScenario}
use Rattle.pf_scenario.specs.declared.event.Numbered.{Numbered}
use Rattle.pf_run.specs.Record.{Slot}
use Rattle.pf_run.specs.Run.{IsRun}
use Rattle.pf_run.specs.Computed.{run_of}

-- One run: two runs of one scenario over n slots are equal.
abbrev pub OneRun : Type 0
OneRun = (s : Plan) (n : ℕ) (r q : List Slot) → IsScenario s → IsRun s n r → IsRun s n q → r ≡ q

-- Runs are causal: the first t slots of a run are the run over t.
abbrev pub RunsBegin : Type 0
RunsBegin = (s : Plan) (n t : ℕ) (r : List Slot) → IsRun s n r → t ≤ n → IsRun s t (take t r)

-- the events of the slots below n
abbrev pub events_below : ℕ → List Numbered → List Numbered
events_below n events = filter (λ x. nat_lt (slot_of x.event) n) events

-- settings that a run doesn't tell apart: all but the horizon
pub record AreAlike (s q : System) : Type 0 where
  pub processors : s.processors ≡ q.processors
  pub base : s.base ≡ q.base
  pub cap : s.cap ≡ q.cap

-- Runs are causal: a run over n slots rests on the settings, the horizon aside, and on the events of the slots below n
-- only.
abbrev pub RunsRestOnPast : Type 0
RunsRestOnPast = (s q : Plan) (n : ℕ) (r : List Slot) → AreAlike s.settings q.settings
    → events_below n s.events ≡ events_below n q.events → IsRun s n r → IsRun q n r

-- The first keys are computed: where no two keys are of one task, the first n of them are what `first` gives, and no
-- other list is.
abbrev pub FirstAreComputed : Type 0
FirstAreComputed = (n : ℕ) (keys chosen : List Priority) → AllPairs (λ x y. x.task ≢ y.task) keys →
    AreFirst n keys chosen ↔ (chosen ≡ first_keys n keys)

-- The computed run is the run.
abbrev pub RunIsComputed : Type 0
RunIsComputed = (s : Plan) (n : ℕ) → IsScenario s → IsRun s n (run_of s n)
