-- Plain edits that a desk is to make at once.
use Rattle.std.specs.Prelude.{◌≡◌, ◌≤◌, ℕ, List, length, take, All}
use Rattle.pf_scenario.specs.Edit.{IsScenario}
use Rattle.pf_timeline.specs.Timeline.{past_below}
use Rattle.pf_desk.specs.declared.batch.Batch.{Batch}
use Rattle.pf_desk.specs.declared.command.Command.{Command}
use Rattle.pf_desk.specs.History.{IsLegalFrom, state_behind}
use Rattle.pf_desk.specs.Desk.{Shown, AnswersAll}

-- the batch is of edits of this desk: each is answered as the machine does after those before it, the scenario is then
-- that of the machine, and it agrees with the desk's on the slots below `from`, which is not after now
pub record IsBatch (d : Shown) (b : Batch) : Type 0 where
  pub callers : All (λ e. e.caller ≡ b.caller) b.entries.items
  pub answers : IsLegalFrom d.state b.entries.items
  pub state : state_behind d.state b.entries.items ≡ record { plan = b.scenario; now = d.state.now }
  pub scenario : IsScenario b.scenario
  pub past : past_below b.from d.state.plan ≡ past_below b.from b.scenario
  pub within : b.from ≤ d.state.now

-- the desk answered the first k of a caller's commands
pub record AnswersFirst (k caller : ℕ) (commands : List Command) (before after : Shown) : Type 0 where
  pub some : 1 ≤ k
  pub within : k ≤ length commands
  pub answers : AnswersAll caller (take k commands) before after
