-- How much work a job of a task may take.
use Rattle.std.specs.Prelude.{ℕ, ◌-◌, ◌≤◌}
use Rattle.std.specs.Int.{div_ceil}
use Rattle.pf_convert.specs.declared.plan.Plan.{Plan}
use Rattle.pf_convert.specs.declared.quantum.Quantum.{Quantum}
use Rattle.pf_convert.specs.declared.slotted.Slotted.{Slotted}
use Rattle.pf_convert.specs.Margins.Fitting.{FitOver, task_at, with_task}

abbrev pub with_cost : Slotted → ℕ → Slotted
with_cost t cost = record t { cost = cost }

-- there is room for jobs of this work in place of those of the task at a place
abbrev pub HasRoomForWork : ℕ → Quantum → Plan → ℕ → ℕ → Type 0
HasRoomForWork processors q plan place work =
    FitOver processors plan.base (with_task plan place (with_cost (task_at plan place) (div_ceil work (q.length - q.switch))))

-- there is room for this work, and for none above it
pub record IsMostWork (processors : ℕ) (q : Quantum) (plan : Plan) (place work : ℕ) : Type 0 where
  pub some : 1 ≤ work
  pub room : HasRoomForWork processors q plan place work
  pub most : (w : ℕ) → HasRoomForWork processors q plan place w → w ≤ work

-- there is room for no work of a job
abbrev pub HasNoWork : ℕ → Quantum → Plan → ℕ → Type 0
HasNoWork processors q plan place = (w : ℕ) → 1 ≤ w → HasRoomForWork processors q plan place w → ⊥
