use Rattle.std.proofs.Common.{◌≡◌, ◌≤◌, ◌+◌, ◌-◌, ◌*◌, ◌^◌}
use Rattle.std.specs.List.{range_with_len}
use Rattle.pf_picture.specs.Picture.{end_after, end_of_blocks}
use Rattle.pf_picture.specs.Scale.{blocks_of}
use Rattle.pf_picture.proofs.blocks.end_of_blocks.Given as goal

-- the blocks so far and those that are left are all
abbrev pub invariant-loop-block : goal.invariant-loop-block
invariant-loop-block l = record {
  value : end_after l.scale l.wrap l.drawings l.end (range_with_len l.block (blocks_of l.scale l.wrap - l.block)) ≡ end_of_blocks l.scale l.wrap l.drawings;
  short : l.end ≤ 24 + 2 ^ 83 * l.block;
}
