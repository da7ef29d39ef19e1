use Rattle.std.proofs.Common.{◌≡◌, ◌-◌, [], ◌∷◌, ◌++◌, length, take, ap, sym, subst, ◌∙◌, arith}
use Rattle.std.specs.List.{All}
use Rattle.std.proofs.lemmas.List.{append-nil}
use Rattle.pf_place.specs.Blocks.{all_rows_of, HasRoomFor}
use Rattle.pf_place.proofs.Filed.{filed_opened, filed_last, blocks_less, joined-more, none_within}
use Rattle.pf_place.proofs.rows.reopen.Goals as goal

pub returns-in-Some-clause-filed : goal.returns-in-Some-clause-filed
returns-in-Some-clause-filed c =
    let full = c.args.full.now in
    let rows = c.in-Some.block.now in
    let front = take (length full - 1) full in
    let is : full ≡ front ++ rows ∷ [] = sym (blocks_less full rows c.in-Some.ensures) in
    rw c.pop.ensures
    (filed_opened front rows c.args.last.now c.open_on.new.block (subst (All (λ rows. length rows ≡ 64)) is c.requires.whole)
    (omega (arith, ap length is, c.requires.few)) (subst (All (HasRoomFor c.args.last.now)) is c.requires.room)
    c.open_on.ensures.room c.open_on.ensures.rows)

pub returns-in-Some-clause-same : goal.returns-in-Some-clause-same
returns-in-Some-clause-same c =
    let full = c.args.full.now in
    let rows = c.in-Some.block.now in
    let front = take (length full - 1) full in
    ap (λ front. all_rows_of front ++ c.open_on.new.block.rows) c.pop.ensures
    ∙ ap (λ rows. all_rows_of front ++ rows) (c.open_on.ensures.rows ∙ sym (append-nil rows))
    ∙ sym (joined-more front rows [])
    ∙ append-nil (all_rows_of (front ++ rows ∷ []))
    ∙ ap all_rows_of (blocks_less full rows c.in-Some.ensures)

pub returns-in_default-clause-filed : goal.returns-in_default-clause-filed
returns-in_default-clause-filed c =
    let full = c.args.full.now in
    filed_last full c.args.last.now (omega (arith, none_within full (length full - 1) c.in_default.ensures)) (omega (arith, c.requires.empty))
