-- What reasons are told by.
use Rattle.std.specs.Prelude.{◌≡◌, ℕ, ◌<◌, ◌≤◌, List, take, drop, All}
use Rattle.pf_scenario.specs.Event.{slot_of}
use Rattle.pf_scenario.specs.Scenario.{past}
use Rattle.pf_scenario.specs.declared.event.Numbered.{Numbered}
use Rattle.pf_run.specs.RunRows.{AreOfRun}
use Rattle.pf_tally.specs.Standing.{AreNumbersOf}
use Rattle.pf_desk.specs.Desk.{Seen}

-- the events of the slots stepped, in run order, and the numbers of those that were denied
pub record AreReasons (seen : Seen) (events : List Numbered) (numbers : List ℕ) : Type 0 where
  pub of_run : AreOfRun seen.state.plan seen.state.now seen.rows seen.denials
  pub past : events ≡ past seen.state.plan seen.state.now
  pub denied : AreNumbersOf seen.denials numbers

-- these are the first of the events of the slots stepped
pub record IsFront (seen : Seen) (before : List Numbered) : Type 0 where
  pub count : ℕ
  pub front : before ≡ take count (past seen.state.plan seen.state.now)

-- these are those of them that come before a point of this slot
pub record IsPoint (seen : Seen) (before : List Numbered) (slot : ℕ) : Type 0 where
  pub is_front : IsFront seen before
  pub within : slot < seen.state.now
  pub early : All (λ x. slot_of x.event ≤ slot) before
  pub rest : All (λ x. slot ≤ slot_of x.event) (drop is_front.count (past seen.state.plan seen.state.now))
