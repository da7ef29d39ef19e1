use Rattle.std.proofs.Common.{◌≡◌, ◌∙◌, length, ap, ap₂, arith}
use Rattle.std.proofs.lemmas.Result.{IfOk-weaker}
use Rattle.pf_picture.specs.Picture.{part_text, task_picture_text_of, text_of}
use Rattle.pf_picture.proofs.Whole.{few_drawings, few_shown}
use Rattle.pf_picture.proofs.picture.task_picture_pieces.Goals as goal

pub pieces_of-requires-clause-few : goal.pieces_of-requires-clause-few
pieces_of-requires-clause-few c =
    let all = c.in_ok-drawings.drawings.items in
    let few = few_drawings c.args.snapshot.now c.args.titles.now.names all c.in_ok-drawings.ensures in
    few_shown c.args.tasks.now all c.in_ok-drawings-2.drawings c.in_ok-drawings-2.ensures few

pub returns : goal.returns
unfolding task_picture_text_of
returns c =
    let seen = c.args.snapshot.now in
    let slot = c.args.titles.now.slot in
    let look = c.args.look.now in
    let from = c.args.from in
    let to = c.args.to in
    let many : c.len-listed.result ≡ length c.in_ok-drawings.drawings.items = omega (arith, c.len-listed.ensures) in
    IfOk-weaker c.pieces_of.result _ _
    (λ pieces h. h ∙ ap₂ (text_of seen slot from to look) many c.in_ok-drawings-2.ensures ∙ ap (part_text seen slot c.args.tasks.now from to look) c.in_ok-drawings.ensures)
    c.pieces_of.ensures
