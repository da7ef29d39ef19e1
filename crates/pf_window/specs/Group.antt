-- Group deadlines: Anderson and Srinivasan, "Mixed Pfair/ERfair scheduling of asynchronous periodic tasks", JCSS 68,
-- 2004.
-- In a heavy task's run of short windows, one subtask scheduled in its last slot forces the next ones into theirs,
-- up to the group deadline, where the run ends.
use Rattle.std.specs.Prelude.{◌≡◌, ℕ, ◌+◌, ◌-◌, ◌*◌, ◌≤◌, ◌⊎◌, ◌==◌, true, false, if◌then◌else◌}
use Rattle.std.specs.Int.{div_ceil}
use Rattle.pf_weight.specs.Share.{Share, is_heavy}
use Rattle.pf_window.specs.Window.{release_of, deadline_of, bit_of}

-- subtask k ends a group at t: its window ends there and leaves the next one room,
-- or t is the last slot of its window of three
abbrev pub EndsGroup : Share → ℕ → ℕ → Type 0
EndsGroup w t k =
    ((t ≡ deadline_of w k) × (bit_of w k ≡ 0))
    ⊎ ((t + 1 ≡ deadline_of w k) × (deadline_of w k - release_of w k ≡ 3))

-- t is a group deadline of the task
pub record IsGroupDeadline (w : Share) (t : ℕ) : Type 0 where
  pub sub : ℕ
  pub first : 1 ≤ sub
  pub ends : EndsGroup w t sub

-- t is the least group deadline at or after the deadline of subtask i
pub record IsFirstGroupDeadline (w : Share) (i t : ℕ) : Type 0 where
  pub group : IsGroupDeadline w t
  pub after : deadline_of w i ≤ t
  pub least : (s : ℕ) → IsGroupDeadline w s → deadline_of w i ≤ s → t ≤ s

-- t is the group deadline of subtask i: 0 for a light task
pub record IsGroupOf (w : Share) (i t : ℕ) : Type 0 where
  pub light : is_heavy w ≡ false → t ≡ 0
  pub heavy : is_heavy w ≡ true → IsFirstGroupDeadline w i t

-- the least group deadline at or after d of a heavy weight below 1: what the task leaves free, its period less its
-- cost of each period, comes to a whole quantum there
abbrev pub group_from : Share → ℕ → ℕ
group_from w d = div_ceil (div_ceil (d * (w.period - w.cost)) w.period * w.period) (w.period - w.cost)

-- the group deadline of subtask i, computed
unfoldable pub group_of : Share → ℕ → ℕ
group_of w i =
    if is_heavy w
    then (if w.cost == w.period then deadline_of w i else group_from w (deadline_of w i))
    else 0
