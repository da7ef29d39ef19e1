use Rattle.std.proofs.Common.{◌≡◌, None, ◌∙◌, arith, below_more, get_or-set_other, get_or-set_same}
use Rattle.std.proofs.lemmas.List.FromFn.{fill_by_all}
use Rattle.pf_place.specs.Lent.{lent_row}
use Rattle.pf_place.specs.Occupancy.{sitter, next_pick}
use Rattle.pf_place.proofs.Index.{next_at_number}
use Rattle.pf_place.proofs.Marks.{marked_more, marked_all}
use Rattle.pf_place.proofs.seating.keep.Goals as goal

pub loop-q-preserved : goal.loop-q-preserved
loop-q-preserved c =
    let earlier = lent_row c.args.earlier in
    let index = c.args.index.now in
    let q = c.loop-q.q in
    let here : c.place_of.result ≡ next_pick index (sitter earlier q) =
    rw (c.place_of.ensures, c.keeper-k.ensures, c.picks-picks.ensures) (next_at_number index (sitter earlier q)) in (
      below_more _ _
          (λ k l. get_or-set_other c.loop-q.places q k c.place_of.result None (omega arith) ∙ c.loop-q.invariant.0 k l)
          (get_or-set_same c.loop-q.places q c.place_of.result None (omega arith) ∙ here),
      rw (c.mark.ensures, c.keeper-k.ensures) (marked_more c.loop-q.marks earlier index q c.loop-q.invariant.1),
    )

pub returns-clause-kept : goal.returns-clause-kept
returns-clause-kept c =
    fill_by_all (λ q. next_pick c.args.index.now (sitter (lent_row c.args.earlier) q)) _ _ None (omega arith)
    (λ q l. c.loop-q.invariant.0 q (omega arith))

pub returns-clause-marked : goal.returns-clause-marked
returns-clause-marked c =
    marked_all c.loop-q.marks (lent_row c.args.earlier) c.args.index.now c.loop-q.q (omega (arith, c.requires.long)) c.loop-q.invariant.1
