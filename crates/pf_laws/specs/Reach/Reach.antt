-- Reach: how many slots past its deadline a subtask presses its task, where it runs in the last slot of its window.
use Rattle.std.specs.Prelude.{ℕ, ◌+◌, ◌*◌, ◌<◌}
use Rattle.pf_weight.specs.Share.{Share}
use Rattle.pf_window.specs.Window.{deadline_of}

-- subtask i reaches n slots past its deadline: the task's share of all slots up to there, cost / period of each, is more
-- than the i + n quanta that it has where i runs in the last slot of its window, and the next n in the slots after it
abbrev pub WindowsReach : Share → ℕ → ℕ → Type 0
WindowsReach w i n = (i + n) * w.period < (deadline_of w i + n) * w.cost
