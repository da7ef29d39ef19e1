-- What can be served at all, by any choice of quanta.
use Rattle.std.specs.Prelude.{◌≡◌, ℕ, ◌*◌, ◌≤◌, Bool, true, None, count_by, sum_by}
use Rattle.pf_weight.specs.Share.{IsBase}
use Rattle.pf_weight.specs.Weighed.{weight_fault}
use Rattle.pf_window.specs.Window.{deadline_of}
use Rattle.pf_laws.specs.StaticSets.Periodic.{Periodic, is_task_of, weight_of}
use Rattle.pf_laws.specs.StaticSets.Choice.{IsPD2, RunsInWindow}

-- each weight is one over the base
pub record IsWeighed (p : Periodic) : Type 0 where
  pub base : IsBase p.base
  pub weights : (t : ℕ) → is_task_of p t ≡ true → weight_fault p.base (p.cost t) (p.period t) ≡ None

-- a choice of quanta, of whatever kind, serves the tasks up to the base: in each slot at most as many tasks run as there
-- are processors, and each subtask that is due by then runs in its window
pub record Serves (p : Periodic) (runs : ℕ → ℕ → Bool) : Type 0 where
  pub few : (v : ℕ) → count_by (λ t. runs t v) p.tasks ≤ p.processors
  pub in_window : (t i : ℕ) → is_task_of p t ≡ true → 1 ≤ i → deadline_of (weight_of p t) i ≤ p.base →
      RunsInWindow p runs t i

-- What is served fits: where a choice of quanta serves the tasks, their weights come to no more than the processors.
abbrev pub EachServedFits : Type 0
EachServedFits = (p : Periodic) (runs : ℕ → ℕ → Bool) → IsWeighed p → Serves p runs →
    sum_by (λ t. (weight_of p t).units) p.tasks ≤ p.processors * p.base

-- PD2 serves whatever can be served: where any choice of quanta serves the tasks up to the base, each subtask of each
-- task runs in its window in every schedule of PD2, for ever.
abbrev pub ServedByPD2 : Type 0
ServedByPD2 = (p : Periodic) (any runs : ℕ → ℕ → Bool) (t i : ℕ) → IsWeighed p → Serves p any → IsPD2 p runs →
    is_task_of p t ≡ true → 1 ≤ i → RunsInWindow p runs t i
