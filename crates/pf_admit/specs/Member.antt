-- What admission looks at of a task that is inside.
use Rattle.std.specs.Prelude.{ℕ, ◌+◌, ◌^◌, ◌<◌, if◌then◌else◌, ◌==◌}
use Rattle.pf_window.specs.Share.{is_heavy}
use Rattle.pf_window.specs.Window.{release_of, deadline_of, bit_of}
use Rattle.pf_window.specs.Group.{group_of}
use Rattle.pf_admit.specs.declared.member.Member.{Member}

-- the numbers of a member are small enough to be added
pub record IsMember (m : Member) : Type 0 where
  pub done : m.done < 2 ^ 24
  pub shift : m.shift < 2 ^ 40
  pub last : m.last < 2 ^ 40

-- the shifted release of the next subtask
abbrev pub next_release : Member → ℕ
next_release m = release_of m.weight (m.done + 1) + m.shift

-- where the last subtask that ran lets the task go: its deadline, or for a heavy task its group deadline, shifted,
-- and a slot more where its bit is 1
abbrev pub due_of_last : Member → ℕ
due_of_last m =
    (if is_heavy m.weight then group_of m.weight m.done else deadline_of m.weight m.done) + m.last + bit_of m.weight m.done

-- the first slot in which the task may leave: any, where it never ran
abbrev pub free_from : Member → ℕ
free_from m = if m.done == 0 then 0 else due_of_last m
