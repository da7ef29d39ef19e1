use Rattle.std.proofs.Common.{◌≡◌, ◌∙◌, ◌++◌, length, ap, ap₂}
use Rattle.pf_picture.specs.Frame.{front_text}
use Rattle.pf_picture.specs.Legend.{legend_text}
use Rattle.pf_picture.specs.Picture.{all_blocks, blocks_from, end_of_blocks, measures_of, summary_of, text_ended, text_with}
use Rattle.pf_picture.proofs.picture.pieces_of.Goals as goal

pub returns : goal.returns
returns c =
    let seen = c.args.snapshot.now in
    let slot = c.args.slot in
    let look = c.args.look.now in
    let from = c.args.from in
    let to = c.args.to in
    let drawings = c.args.drawings in
    let s = c.in_ok-scale.scale in
    let sum = c.in_ok-summary.summary in
    let wrap = c.get-wrap.result in
    let end = c.end_of_blocks-end.result in
    let blocks = blocks_from seen s wrap drawings 24 (all_blocks s wrap) in
    let front = c.new.ensures ∙ c.in_ok-front.ensures in
    let legend = c.new-2.ensures ∙ c.in_ok-legend.ensures in
    let text : c.new-4.result ≡ front_text s c.page_height.result sum ++ (blocks ++ legend_text s end) =
    c.new-4.ensures ∙ ap₂ (λ a b. a ++ b) front (c.new-3.ensures ∙ ap₂ (λ a b. a ++ b) c.new-blocks.ensures legend) in
    let of_shown : c.shown-shown.result.now ≡ drawings.shown = c.shown-shown.ensures in
    text
    ∙ ap (λ height. front_text s height sum ++ (blocks ++ legend_text s end)) c.page_height.ensures
    ∙ ap (text_ended seen wrap drawings s sum) (c.end_of_blocks-end.ensures.value ∙ ap (end_of_blocks s wrap) of_shown)
    ∙ ap (λ w. text_with seen w drawings s sum) c.get-wrap.ensures.value
    ∙ ap₂ (λ s sum. text_with seen look.wrap drawings s sum)
    (c.in_ok-scale.ensures.value ∙ ap (λ ds. measures_of seen slot ds from to look) of_shown)
    (c.in_ok-summary.ensures ∙ ap (λ ds. summary_of seen (length ds) c.args.listed from to) of_shown)
