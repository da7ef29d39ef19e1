-- The windows of a task's subtasks, one after another.
use Rattle.std.specs.Prelude.{◌≡◌, ℕ, ◌-◌, ◌*◌, ◌/◌, ◌%◌, ◌^◌, ◌<◌, ◌≤◌}
use Rattle.pf_weight.specs.Share.{Share, IsShare}

-- the windows of a weight, at a subtask
pub record Windowed : Type 0 where
  pub weight : Share
  pub sub : ℕ

-- what is kept of subtask i: its release, the quotient and the rest of i periods by the cost, and those of one period
pub record AreWindows (w : Share) (i release floor rest step part : ℕ) : Type 0 where
  pub share : IsShare w
  pub first : 1 ≤ i
  pub last : i < 2 ^ 32
  pub released : (i - 1) * w.period / w.cost ≡ release
  pub whole : i * w.period / w.cost ≡ floor
  pub left : i * w.period % w.cost ≡ rest
  pub periods : w.period / w.cost ≡ step
  pub over : w.period % w.cost ≡ part
