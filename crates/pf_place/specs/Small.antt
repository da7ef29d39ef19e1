-- How a place lies in 32 bits: a task's number in the upper 12, and that of its subtask in the others.
use Rattle.std.specs.Prelude.{◌≡◌, ◌⊎◌, ℕ, ◌≤◌, ◌+◌, ◌*◌, ◌/◌, ◌%◌, ◌==◌, ◌&&◌, nat_lt, if◌then◌else◌, Option, Some, None}
use Rattle.pf_order.specs.declared.pick.Pick.{Pick}

-- who runs there
abbrev pub pick_in : ℕ → Option Pick
pick_in word = if word == 0 then None else Some (record { task = word / 1048576; sub = word % 1048576 })

-- the word of a place
abbrev pub word_of : Option Pick → ℕ
word_of None = 0
word_of (Some pick) = pick.task * 1048576 + pick.sub

-- a word of a place: no task has number 0
abbrev pub IsWord : ℕ → Type 0
IsWord word = (word ≡ 0) ⊎ (1048576 ≤ word)

-- the place, where its numbers are small
abbrev pub small_form : Option Pick → Option (Option Pick)
small_form None = Some None
small_form (Some pick) = if nat_lt pick.task 4096 && nat_lt pick.sub 1048576 then Some (Some pick) else None
