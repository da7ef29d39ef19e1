-- Periodic tasks that all begin at slot 0, and never leave.
use Rattle.std.specs.Prelude.{◌≡◌, ℕ, ◌*◌, ◌≤◌, ◌==◌, Bool, true, None, List, sum_by}
use Rattle.std.specs.List.{list_any}
use Rattle.pf_weight.specs.Share.{Share, share_of, IsBase}
use Rattle.pf_weight.specs.Weighed.{weight_fault}

-- the tasks by number, the cost and the period of each, how many processors there are, and the base of the weights
pub record Periodic : Type 0 where
  pub tasks : List ℕ
  pub cost : ℕ → ℕ
  pub period : ℕ → ℕ
  pub processors : ℕ
  pub base : ℕ

abbrev pub is_task_of : Periodic → ℕ → Bool
is_task_of p t = list_any (λ u. t == u) p.tasks

abbrev pub weight_of : Periodic → ℕ → Share
weight_of p t = share_of p.base (p.cost t) (p.period t)

-- each weight is one over the base, and all together they come to no more than the processors
pub record IsFeasible (p : Periodic) : Type 0 where
  pub base : IsBase p.base
  pub weights : (t : ℕ) → is_task_of p t ≡ true → weight_fault p.base (p.cost t) (p.period t) ≡ None
  pub within : sum_by (λ t. (weight_of p t).units) p.tasks ≤ p.processors * p.base
