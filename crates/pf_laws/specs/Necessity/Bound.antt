-- Subtasks that have to run in some slots, and the quanta that these slots have.
use Rattle.std.specs.Prelude.{◌≡◌, ◌≢◌, ℕ, zero, suc, ◌+◌, ◌-◌, ◌≤◌, ◌==◌, ◌&&◌, Bool, true, max, List, length, filter_map, AllPairs, All, Contains, count_by}
use Rattle.std.specs.List.{list_any}
use Rattle.pf_order.specs.declared.pick.Pick.{Pick}
use Rattle.pf_scenario.specs.Scenario.{Plan}
use Rattle.pf_scenario.specs.Edit.{IsScenario}
use Rattle.pf_scenario.specs.declared.event.Numbered.{Numbered}
use Rattle.pf_run.specs.Record.{Slot}
use Rattle.pf_run.specs.Inside.{Joined, join_of, count_of}
use Rattle.pf_run.specs.Run.{events_in_force, IsRun}
use Rattle.pf_tally.specs.Clock.{release_at}
use Rattle.pf_tally.specs.Misses.{due_of, leaves_after, misses_of}

-- the quanta that the processors in use have in the k slots from a on
unfoldable pub quanta_from : Plan → List Slot → ℕ → ℕ → ℕ
quanta_from s r a zero = 0
quanta_from s r a (suc k) = quanta_from s r a k + count_of s.settings.processors (events_in_force s r (suc (a + k)))

-- the first slot in which subtask i may run
abbrev pub first_of : List Slot → List Numbered → Joined → ℕ → ℕ
first_of r xs j i = max j.slot (release_at r xs j i - j.early)

-- the subtask has to run in the slots from a up to but not including b: it may not run sooner, it is due by b, and its task
-- does not leave before it is due
pub record IsBound (s : Plan) (r : List Slot) (a b : ℕ) (x : Pick) : Type 0 where
  pub task : Joined
  pub joined : Contains (filter_map (join_of s.settings.base) (events_in_force s r (length r))) task
  pub number : task.task ≡ x.task
  pub some : 1 ≤ x.sub
  pub from : a ≤ first_of r (events_in_force s r (length r)) task x.sub
  pub due : due_of r (events_in_force s r (length r)) task x.sub ≤ b
  pub stays : leaves_after (events_in_force s r (length r)) task (due_of r (events_in_force s r (length r)) task x.sub) ≡ true

-- the subtask is among the misses
abbrev pub is_among_misses : Plan → List Slot → Pick → Bool
is_among_misses s r x = list_any (λ m. m.task == x.task && m.sub == x.sub) (misses_of s r)

-- More than fit is missed: of different subtasks that have to run in the k slots from a on, all but as many as these slots
-- have quanta are missed, at the least.
abbrev pub MoreThanFitIsMissed : Type 0
MoreThanFitIsMissed = (s : Plan) (n : ℕ) (r : List Slot) (a k : ℕ) (xs : List Pick) → IsScenario s → IsRun s n r →
    a + k ≤ n → AllPairs (λ x y. x ≢ y) xs → All (IsBound s r a (a + k)) xs →
    length xs ≤ quanta_from s r a k + count_by (is_among_misses s r) xs
