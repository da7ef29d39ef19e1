-- The laws of jobs, each the contract of a public function.
use Rattle.std.specs.Prelude.{◌≡◌, ℕ, ◌+◌, ◌≤◌, ◌+ℤ◌, ◌≤ℤ◌, pos, false, Some, List, [], length}
use Rattle.std.specs.Int.{div_ceil}
use Rattle.pf_scenario.specs.Scenario.{Plan}
use Rattle.pf_scenario.specs.Edit.{IsScenario}
use Rattle.pf_run.specs.Record.{Slot, done}
use Rattle.pf_run.specs.Inside.{Joined}
use Rattle.pf_run.specs.Run.{events_in_force, IsRun}
use Rattle.pf_tally.specs.Misses.{due_of, ran_in, is_missed, misses_of_task}
use Rattle.pf_laws.specs.Promise.Stay.{IsAdmitted, IsStay}
use Rattle.pf_laws.specs.Promise.Job.{last_of, response_in, delay_within}

-- Jobs are in time: a job whose last subtask ran and missed no window took no longer than the period and the delays that
-- fell into it.
abbrev pub JobsAreInTime : Type 0
JobsAreInTime = (s : Plan) (n : ℕ) (r : List Slot) (j : Joined) (k t : ℕ) → IsScenario s → IsRun s n r → IsAdmitted s r j →
    1 ≤ k → ran_in r j (last_of j k) ≡ Some t → is_missed r (events_in_force s r (length r)) j (last_of j k) ≡ false →
    response_in s r j k t ≤ℤ pos (j.weight.period + delay_within s r j k)

-- Jobs are not sooner: a job takes more than the period and the delays that fell into it, less the slots of its last
-- window, rounded up, and its early slots.
abbrev pub JobsAreNotSooner : Type 0
JobsAreNotSooner = (s : Plan) (n : ℕ) (r : List Slot) (j : Joined) (k t : ℕ) → IsScenario s → IsRun s n r → IsAdmitted s r j →
    1 ≤ k → ran_in r j (last_of j k) ≡ Some t →
    pos (j.weight.period + delay_within s r j k + 1) ≤ℤ (response_in s r j k t +ℤ pos (div_ceil j.weight.period j.weight.cost + j.early))

-- Due jobs are done: where a task missed no window, each job whose last subtask is due after t slots is done by then.
abbrev pub DueJobsAreDone : Type 0
DueJobsAreDone = (s : Plan) (n : ℕ) (r : List Slot) (j : Joined) (k t : ℕ) → IsScenario s → IsRun s n r → IsAdmitted s r j →
    IsStay s r j t → misses_of_task r (events_in_force s r (length r)) j ≡ [] →
    due_of r (events_in_force s r (length r)) j (last_of j k) ≤ t → last_of j k ≤ done r j.task t
