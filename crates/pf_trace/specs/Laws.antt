-- The laws of trace events.
use Rattle.std.specs.Prelude.{ℕ, ◌≡◌, ◌≤◌, Option, List, length}
use Rattle.pf_order.specs.declared.pick.Pick.{Pick}
use Rattle.pf_scenario.specs.Scenario.{Plan}
use Rattle.pf_scenario.specs.Edit.{IsScenario}
use Rattle.pf_scenario.specs.declared.event.Numbered.{Numbered}
use Rattle.pf_run.specs.Computed.{run_of}
use Rattle.pf_run.specs.Inside.{Joined}
use Rattle.pf_run.specs.Run.{events_in_force}
use Rattle.pf_tally.specs.Figures.{processors_in, scaled_at}
use Rattle.pf_tally.specs.Held.{CanTally}
use Rattle.pf_tally.specs.Own.{events_of_task}
use Rattle.pf_tally.specs.Quanta.{slots_of}
use Rattle.pf_courses.specs.Course.{window_of}
use Rattle.pf_trace.specs.Courses.{course_lag, course_window}
use Rattle.pf_trace.specs.Trace.{course_in}

-- the task's own events in force in the run over n slots
abbrev pub own_in_force : Plan → ℕ → Joined → List Numbered
own_in_force s n j = events_of_task j.task (events_in_force s (run_of s n) (length (run_of s n)))

-- the task joined in the run over n slots, and ran in it as the run says
pub record IsOfRun (s : Plan) (n : ℕ) (j : Joined) : Type 0 where
  pub scenario : IsScenario s
  pub slots : length (run_of s n) ≡ n
  pub can : CanTally j (slots_of (run_of s n) j.task) (own_in_force s n j) n

-- the course of a task has the windows and the lags that the run says
pub record CoursesAreOfTheRun : Type 0 where
  pub windows : (s : Plan) (n : ℕ) (rows : List (List (Option Pick))) (j : Joined) (i : ℕ) → IsOfRun s n j → 1 ≤ i →
      course_window (course_in s (run_of s n) rows j) i ≡ window_of (run_of s n) (processors_in rows j.task) (own_in_force s n j) j i
  pub lags : (s : Plan) (n : ℕ) (rows : List (List (Option Pick))) (j : Joined) (t : ℕ) → IsOfRun s n j → j.slot ≤ t →
      course_lag (course_in s (run_of s n) rows j) t ≡ scaled_at (run_of s n) (own_in_force s n j) j t
