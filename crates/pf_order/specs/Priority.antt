-- The order of PD2: Anderson and Srinivasan, "Early-release fair scheduling", ECRTS 2000; ties go to the lower task
-- number.
use Rattle.std.specs.Prelude.{◌≡◌, ℕ, ◌<◌, ◌≤◌, ◌^◌, ◌⊎◌, Bool}
use Rattle.std.specs.declared.cmp.Ordering.{Ordering}
use Rattle.std.specs.Ordering.{nat_cmp, on, flip_args, then_cmp, is_lt}
use Rattle.pf_window.specs.TheConstants.{LARGEST_TASK}

-- what the order looks at of a subtask: its deadline, bit and group deadline, shifted, and its task and number
pub record Priority : Type 0 where
  pub deadline : ℕ
  pub bit : ℕ
  pub group : ℕ
  pub task : ℕ
  pub sub : ℕ

-- what holds of every key: the group deadline counts only beside the bit 1
pub record IsPriority (k : Priority) : Type 0 where
  pub bit : k.bit ≤ 1
  pub group : k.bit ≡ 0 → k.group ≡ 0
  pub task_some : 1 ≤ k.task
  pub task_within : k.task ≤ LARGEST_TASK
  pub sub_some : 1 ≤ k.sub
  pub sub_within : k.sub ≤ 2 ^ 24

-- x precedes y: by the earlier deadline; then by the greater bit; then, where both bits are 1, by the later group
-- deadline; and in all remaining ties by the lower task number
abbrev pub Precedes : Priority → Priority → Type 0
Precedes x y =
    (x.deadline < y.deadline)
    ⊎ ((x.deadline ≡ y.deadline) × (y.bit < x.bit))
    ⊎ ((x.deadline ≡ y.deadline) × (x.bit ≡ 1) × (y.bit ≡ 1) × (y.group < x.group))
    ⊎ ((x.deadline ≡ y.deadline) × (x.bit ≡ y.bit) × (x.bit ≡ 1 → x.group ≡ y.group) × (x.task < y.task))

-- the same as a comparison
unfoldable pub priority_cmp : Priority → Priority → Ordering
priority_cmp =
    then_cmp (on (λ k. k.deadline) nat_cmp)
    (then_cmp (flip_args (on (λ k. k.bit) nat_cmp))
    (then_cmp (flip_args (on (λ k. k.group) nat_cmp)) (on (λ k. k.task) nat_cmp)))

-- whether x precedes y
abbrev pub precedes : Priority → Priority → Bool
precedes x y = is_lt (priority_cmp x y)

-- the same order, told apart down to the subtask's number, so that only equal keys tie
abbrev pub key_cmp : Priority → Priority → Ordering
key_cmp = then_cmp priority_cmp (on (λ k. k.sub) nat_cmp)
