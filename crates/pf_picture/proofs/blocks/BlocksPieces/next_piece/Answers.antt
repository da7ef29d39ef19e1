use Rattle.std.proofs.Common.{◌≡◌, ◌<◌, ◌∙◌, ◌+◌, ◌++◌, ap, ap₂, sym, arith}
use Rattle.pf_picture.specs.Grid.{block_front}
use Rattle.pf_picture.specs.Left.{blocks_behind, blocks_left}
use Rattle.pf_picture.specs.Picture.{rows_text}
use Rattle.pf_picture.specs.Rows.{block_height}
use Rattle.pf_picture.specs.Scale.{block_of, blocks_of, first_top}
use Rattle.pf_picture.proofs.Sheets.{blocks_next, front_some}
use Rattle.pf_picture.proofs.blocks.BlocksPieces.next_piece.Goals as goal

pub returns-in_ok-text-in-None-clause-text : goal.returns-in_ok-text-in-None-clause-text
returns-in_ok-text-in-None-clause-text c =
    let all = c.self.inside in
    let seen = all.snapshot.now in
    let s = all.scale in
    let drawings = all.drawings in
    let block = block_of s all.wrap all.block in
    let behind = blocks_behind seen s all.wrap drawings (all.block + 1) (all.offset + block_height block drawings.shown) in
    let text = c.in_ok-text-in-None.text.items in
    let height : c.block_height-height.result ≡ block_height block drawings.shown =
    c.block_height-height.ensures.value ∙ ap₂ (λ b ds. block_height b ds) c.block-scale-in-None.ensures c.shown-in-None.ensures in
    let is : text ≡ block_front block all.offset (block_height block drawings.shown) =
    c.in_ok-text-in-None.ensures ∙ ap₂ (λ b h. block_front b all.offset h) c.block-scale-in-None.ensures height in
    let top : c.first_top.result ≡ first_top s = c.first_top.ensures.value ∙ ap (λ b. first_top b) c.block-scale-in-None.ensures in
    let some : all.block < blocks_of s all.wrap = omega (arith, c.if-self-blocks.false, c.blocks-in-None.ensures.value) in (
      sym c.self.view_is ∙ ap (λ b. blocks_left seen s all.wrap drawings all.block all.offset b) c.in-None.is
          ∙ blocks_next seen s all.wrap drawings all.block all.offset some
          ∙ ap (λ t. t ++ (rows_text seen block drawings 0 0 (first_top s) ++ behind)) (sym is)
          ∙ ap (λ t. text ++ (rows_text seen block drawings 0 0 t ++ behind)) (sym top),
      front_some block all.offset (block_height block drawings.shown) text is,
    )
