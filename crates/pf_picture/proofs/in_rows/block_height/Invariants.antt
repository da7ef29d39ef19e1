use Rattle.std.proofs.Common.{◌≡◌, ◌≤◌, ◌+◌, ◌*◌, ◌^◌, drop}
use Rattle.std.specs.List.{fold}
use Rattle.pf_picture.specs.Rows.{block_height, height_of}
use Rattle.pf_picture.proofs.in_rows.block_height.Given as goal

-- the parts so far and those that are left are all
abbrev pub invariant-loop-drawing : goal.invariant-loop-drawing
invariant-loop-drawing l = record {
  value : fold (λ height drawing. height + height_of l.scale drawing) l.height (drop l.drawing-index l.drawings) ≡ block_height l.scale l.drawings;
  short : l.height ≤ 2 ^ 12 + 2 ^ 70 * l.drawing-index;
}
