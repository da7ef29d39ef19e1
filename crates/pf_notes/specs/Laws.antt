-- The next slot in which a leave that was too early is let go, by the rule of leaves.
use Rattle.std.specs.Prelude.{◌≡◌, ℕ, ◌<◌, ◌≤◌, Option, None, Some, List}
use Rattle.pf_scenario.specs.Scenario.{Plan}
use Rattle.pf_admit.specs.Admission.{leave_denial}
use Rattle.pf_admit.specs.declared.denial.Denial.{Denial}
use Rattle.pf_admit.specs.declared.denial.Denial.TheVariants.{TooEarly}
use Rattle.pf_run.specs.Record.{Slot}
use Rattle.pf_run.specs.Inside.{Joined}
use Rattle.pf_notes.specs.Point.{member_in}
use Rattle.pf_notes.specs.Grounds.{leaves_in}

-- why the rule denies a leave of the task in slot t, as the record is before the events of t
abbrev pub leave_in : Plan → List Slot → Joined → ℕ → Option Denial
leave_in s r j t = leave_denial t (Some (member_in s r j t))

-- in each slot above `from` and below t the rule denies it
abbrev pub AreTooEarly : Plan → List Slot → Joined → ℕ → ℕ → Type 0
AreTooEarly s r j from t = (u : ℕ) → from < u → u < t → leave_in s r j u ≡ Some TooEarly

-- the slot is the first above `from` in which the rule lets the leave go
pub record IsNextLeave (s : Plan) (r : List Slot) (j : Joined) (from to t : ℕ) : Type 0 where
  pub above : from < t
  pub within : t ≤ to
  pub let_go : leave_in s r j t ≡ None
  pub before : AreTooEarly s r j from t

-- The slot that is told is the first above `from`, at most `to`, in which the rule of leaves lets the task go; where none is
-- told, it denies a leave in each of these slots.
pub record NextLeaveIsFirst : Type 0 where
  pub told : (s : Plan) (r : List Slot) (j : Joined) (from to t : ℕ) → from ≤ to → leaves_in s r j from to ≡ Some t → IsNextLeave s r j from to t
  pub none : (s : Plan) (r : List Slot) (j : Joined) (from to u : ℕ) → from ≤ to → leaves_in s r j from to ≡ None → from < u → u ≤ to →
      leave_in s r j u ≡ Some TooEarly
