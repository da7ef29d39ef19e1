-- A scenario's run that was walked over.
use Rattle.std.specs.Prelude.{◌≡◌, ℕ, ◌<◌, Option, List, length, filter_map, All, AllPairs, Contains}
use Rattle.pf_order.specs.declared.pick.Pick.{Pick}
use Rattle.pf_scenario.specs.Scenario.{Plan}
use Rattle.pf_run.specs.declared.denied.Denied.{Denied}
use Rattle.pf_run.specs.Inside.{Joined, join_of}
use Rattle.pf_run.specs.RunRows.{AreOfRun}
use Rattle.pf_scenario.specs.declared.settings.TheConstants.{WIDE_HORIZON}
use Rattle.pf_collections.specs.Table.Lists.{noted_of}
use Rattle.pf_tally.specs.Held.{CanTally, next_in, held_from}
use Rattle.pf_tally.specs.Journal.{IsJournal}
use Rattle.pf_tally.specs.Walk.{IsAt}
use Rattle.pf_tally.specs.declared.walked_run.WalkedRun.{WalkedRun}

-- the run of this scenario, which these are the rows and the denials of
pub record IsWalkOf (s : Plan) (rows : List (List (Option Pick))) (denials : List Denied) (run : WalkedRun) : Type 0 where
  pub of_run : AreOfRun s (length rows) rows denials
  pub journal : IsJournal s (length rows) run.journal
  pub walk : All (IsAt rows (length rows) run.journal.events.items run.walk) (filter_map (join_of run.journal.settings.base) run.journal.events.items)

-- the run of some scenario
pub record IsWalked (run : WalkedRun) : Type 0 where
  pub scenario : Plan
  pub rows : List (List (Option Pick))
  pub denials : List Denied
  pub is : IsWalkOf scenario rows denials run

-- what the figures of a task that ran in these slots rest on
pub record CanFigure (run : WalkedRun) (j : Joined) (ran : List ℕ) : Type 0 where
  pub walked : IsWalked run
  pub joined : Contains (filter_map (join_of run.journal.settings.base) run.journal.events.items) j
  pub can : CanTally j ran run.journal.events.items run.journal.now
  pub delays : noted_of run.walk.delays j.task ≡ held_from (next_in ran) j j.slot run.journal.events.items
  pub slots : All (λ t. t < WIDE_HORIZON) ran
  pub apart : AllPairs (λ a b. a < b) ran
