use Rattle.std.proofs.Common.{sym, ap, ◌∙◌, refl}
use Rattle.left_right.specs.Sides.{view}
use Rattle.pf_share.proofs.viewer.Viewer.new.Goals as goal

pub invariant_of-result : goal.invariant_of-result
invariant_of-result c =
    let read = c.again.ensures in
    let told = c.again-2.ensures in
    let v = view c.args.reader.place in record {
      origin_told = ap (λ s. s.origin) (told ∙ sym read);
      seen_read = rw (ap (λ s. s.history) read ∙ c.requires.opening) (v.seen, refl);
      seen_told = rw (ap (λ s. s.history) told ∙ c.requires.opening) (v.seen, refl);
      shown = c.requires.reader.shown;
      known = c.requires.reader.known;
      origin_known = c.requires.reader.origin ∙ ap (λ s. s.origin) (sym read);
    }
