-- What PD2 chooses: Anderson and Srinivasan, "Early-release fair scheduling", ECRTS 2000. Whether a task runs in a slot is
-- a test of the two, `runs`.
use Rattle.std.specs.Prelude.{◌≡◌, ℕ, zero, suc, ◌+◌, ◌<◌, ◌≤◌, Bool, true, false, ◌&&◌, if◌then◌else◌, count_by}
use Rattle.pf_window.specs.Window.{release_of, deadline_of}
use Rattle.pf_order.specs.Priority.{Priority, precedes}
use Rattle.pf_order.specs.KeyOf.{key_of}
use Rattle.pf_laws.specs.StaticSets.Periodic.{Periodic, is_task_of, weight_of}

-- in how many of the slots below v the task runs
unfoldable pub received_of : (ℕ → ℕ → Bool) → ℕ → ℕ → ℕ
received_of runs t zero = 0
received_of runs t (suc v) = received_of runs t v + (if runs t v then 1 else 0)

-- the subtask that is next in slot v, and its key
abbrev pub sub_at : (ℕ → ℕ → Bool) → ℕ → ℕ → ℕ
sub_at runs t v = suc (received_of runs t v)

abbrev pub key_at : Periodic → (ℕ → ℕ → Bool) → ℕ → ℕ → Priority
key_at p runs t v = key_of (weight_of p t) 0 (sub_at runs t v) t

-- PD2: in each slot only released subtasks of these tasks run, at most as many as there are processors; and where the
-- next subtask of a task is released and does not run, each processor has one that precedes it
pub record IsPD2 (p : Periodic) (runs : ℕ → ℕ → Bool) : Type 0 where
  pub known : (t v : ℕ) → runs t v ≡ true → is_task_of p t ≡ true
  pub released : (t v : ℕ) → runs t v ≡ true → release_of (weight_of p t) (sub_at runs t v) ≤ v
  pub few : (v : ℕ) → count_by (λ t. runs t v) p.tasks ≤ p.processors
  pub first : (t v : ℕ) → is_task_of p t ≡ true → release_of (weight_of p t) (sub_at runs t v) ≤ v → runs t v ≡ false →
      p.processors ≤ count_by (λ u. runs u v && precedes (key_at p runs u v) (key_at p runs t v)) p.tasks

-- subtask i of the task runs in its window
pub record RunsInWindow (p : Periodic) (runs : ℕ → ℕ → Bool) (t i : ℕ) : Type 0 where
  pub slot : ℕ
  pub ran : runs t slot ≡ true
  pub number : sub_at runs t slot ≡ i
  pub from : release_of (weight_of p t) i ≤ slot
  pub upto : slot < deadline_of (weight_of p t) i
