use Rattle.std.proofs.Common.{◌≡◌, ◌∙◌, length, ap, ap₂, arith}
use Rattle.std.proofs.lemmas.Result.{IfOk-weaker}
use Rattle.pf_picture.specs.Picture.{picture_text_of, text_of, whole_text}
use Rattle.pf_picture.proofs.Whole.{few_drawings}
use Rattle.pf_picture.proofs.picture.picture_pieces.Goals as goal

pub pieces_of-requires-clause-few : goal.pieces_of-requires-clause-few
pieces_of-requires-clause-few c =
    let all = c.in_ok-drawings.drawings.items in
    let few = few_drawings c.args.snapshot.now c.args.titles.now.names all c.in_ok-drawings.ensures in
    omega (arith, few, ap (λ d. length d.shown) c.all-drawings.ensures)

pub returns : goal.returns
unfolding picture_text_of
returns c =
    let seen = c.args.snapshot.now in
    let slot = c.args.titles.now.slot in
    let look = c.args.look.now in
    let from = c.args.from in
    let to = c.args.to in
    let many : c.len-listed.result ≡ length c.in_ok-drawings.drawings.items = omega (arith, c.len-listed.ensures) in
    IfOk-weaker c.pieces_of.result _ _
    (λ pieces h. h ∙ ap₂ (text_of seen slot from to look) many c.all-drawings.ensures ∙ ap (whole_text seen slot from to look) c.in_ok-drawings.ensures)
    c.pieces_of.ensures
