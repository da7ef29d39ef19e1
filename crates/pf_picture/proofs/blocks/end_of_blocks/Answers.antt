use Rattle.std.proofs.Common.{◌≡◌, ◌∙◌, ◌<◌, ◌+◌, ◌-◌, ap, sym, arith}
use Rattle.std.specs.List.{range_with_len}
use Rattle.pf_picture.specs.Picture.{end_after}
use Rattle.pf_picture.specs.Rows.{block_height}
use Rattle.pf_picture.specs.Scale.{block_of, blocks_of}
use Rattle.pf_picture.proofs.Greatest.{slot_next}
use Rattle.pf_picture.proofs.blocks.end_of_blocks.Goals as goal

pub loop-block-preserved : goal.loop-block-preserved
loop-block-preserved c =
    let s = c.args.scale in
    let wrap = c.args.wrap in
    let drawings = c.args.drawings.now in
    let k = c.loop-block.block in
    let some : k < blocks_of s wrap = omega (arith, c.loop-block-test.true, c.blocks-block-end.ensures.value) in
    let is : c.block_height-end.result ≡ block_height (block_of s wrap k) drawings =
    c.block_height-end.ensures.value ∙ ap (λ b. block_height b drawings) c.block.ensures in
    record {
      value = ap (λ h. end_after s wrap drawings (c.loop-block.end + h) (range_with_len (k + 1) (blocks_of s wrap - (k + 1)))) is
          ∙ sym (slot_next (λ end k. end + block_height (block_of s wrap k) drawings) c.loop-block.end k (blocks_of s wrap) some)
          ∙ c.loop-block.invariant.value;
      short = omega (arith, c.block_height-end.ensures.short, c.loop-block.invariant.short);
    }
