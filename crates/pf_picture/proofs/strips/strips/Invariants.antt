use Rattle.std.proofs.Common.{◌≡◌, ◌≤◌, drop}
use Rattle.pf_picture.specs.Strips.{strips_from}
use Rattle.pf_picture.proofs.strips.strips.Given as goal

-- the tasks so far and those that are left are all
abbrev pub invariant-loop-drawing : goal.invariant-loop-drawing
invariant-loop-drawing l = record {
  value : strips_from l.from l.to l.most (drop l.drawing-index l.drawings) ≡ strips_from l.from l.to 1 l.drawings;
  some : 1 ≤ l.most;
}
