use Rattle.std.proofs.Common.{sym, ◌∙◌, ap}
use Rattle.pf_share.proofs.Adding.{adds_moves}
use Rattle.pf_share.proofs.press.Press.stamp.Goals as goal

pub compare_exchange-found-requires : goal.compare_exchange-found-requires
compare_exchange-found-requires g c =
    let s = c.self.inside in
    let h = c.self.invariant.0 in
    let offer = c.plain-offer.ensures in
    let pen = c.no_pen-pen.ensures in
    let book = ap (λ w. w.book) h in (
      ap (λ w. w.tracked) h,
      sym book,
      pen.0 ∙ sym book,
      offer.0,
      rw (ap (λ w. w.key) h, pen.1, offer.1, offer.3) (adds_moves s.seen.log (g.M.Tells.story c.args.about.now) s.made (sym c.self.invariant.1)),
    )
