-- What a desk keeps: its scenario, the kept run, and its history; and what a command made ready keeps.
use Rattle.std.specs.Prelude.{◌≡◌, ℕ, List, [], ◌∷◌, ◌++◌}
use Rattle.pf_scenario.specs.Scenario.{Plan}
use Rattle.pf_timeline.specs.Timeline.{KeptRun, ReachesBack, StandsFor}
use Rattle.pf_desk.specs.declared.entry.Entry.{Entry}
use Rattle.pf_desk.specs.Machine.{State}
use Rattle.pf_desk.specs.History.{IsLegal, last_state}
use Rattle.pf_desk.specs.Desk.{Shown, Seen, Ready, seen_of}
use Rattle.pf_desk.specs.Recorded.{Recorded}

-- the state of a scenario with its kept run
abbrev pub state_of : Plan → KeptRun → State
state_of plan kept = record { plan = plan; now = kept.now }

-- what a desk of these parts shows
abbrev pub shown_by : Plan → KeptRun → List Entry → ℕ → Shown
shown_by plan kept history spare = record {
  state = state_of plan kept;
  rows = kept.rows;
  denials = kept.denials;
  history = history;
  every = kept.every;
  spare = spare;
}

-- the parts of a desk: the kept run stands for the scenario, with near checkpoints of its last slots, and the history is legal and ends there
pub record IsKeptDesk (plan : Plan) (kept : KeptRun) (history : List Entry) : Type 0 where
  pub stands : StandsFor plan kept.now kept
  pub near : ReachesBack kept.near kept.now
  pub legal : IsLegal plan.settings history
  pub last : last_state plan.settings history ≡ state_of plan kept

-- the parts of a desk with their history, each row of which has the processors of the settings
pub record ArePartsOfDesk (plan : Plan) (kept : KeptRun) (h : Recorded) : Type 0 where
  pub keeps : IsKeptDesk plan kept h.entries
  pub processors : h.processors ≡ plan.settings.processors

-- what a command made ready of these parts shows
abbrev pub ready_by : Plan → KeptRun → List Entry → Entry → Seen → Ready
ready_by plan kept history entry seen = record {
  settings = plan.settings;
  every = kept.every;
  history = history;
  entry = entry;
  seen = seen;
}

-- the parts of a command made ready: a desk with them keeps what it must, and the snapshot is of that desk
pub record IsMadeReady (plan : Plan) (kept : KeptRun) (history : List Entry) (entry : Entry) (shown : Seen) : Type 0 where
  pub keeps : IsKeptDesk plan kept (history ++ entry ∷ [])
  pub seen : shown ≡ seen_of (shown_by plan kept (history ++ entry ∷ []) 0)
