-- The windows of a periodic task: Baruah, Cohen, Plaxton and Varvel, "Proportionate progress: a notion of fairness in
-- resource allocation", Algorithmica 15, 1996.
-- Subtasks are numbered from 1. Times are slots, counted from the task's start.
use Rattle.std.specs.Prelude.{ℕ, ◌-◌, ◌*◌, ◌/◌}
use Rattle.std.specs.Int.{div_ceil}
use Rattle.pf_weight.specs.Share.{Share}

-- the release of subtask i: the first slot of its window
unfoldable pub release_of : Share → ℕ → ℕ
release_of w i = (i - 1) * w.period / w.cost

-- its deadline: the first slot after its window
unfoldable pub deadline_of : Share → ℕ → ℕ
deadline_of w i = div_ceil (i * w.period) w.cost

-- its bit: 1 where its window overlaps the next one, else 0
unfoldable pub bit_of : Share → ℕ → ℕ
bit_of w i = div_ceil (i * w.period) w.cost - i * w.period / w.cost
