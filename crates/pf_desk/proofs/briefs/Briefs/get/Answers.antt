use Rattle.std.proofs.Common.{Some, length, ap, sym, ◌∙◌, arith}
use Rattle.std.specs.List.{slice_get}
use Rattle.std.proofs.lemmas.Option.{slice_get_past}
use Rattle.pf_desk.specs.declared.brief.Brief.TheVariants.{OfSlot}
use Rattle.pf_desk.specs.Runs.{Noted, brief_in}
use Rattle.pf_desk.proofs.Runs.{length-briefs, brief_at}
use Rattle.pf_desk.proofs.briefs.Briefs.get.Goals as goal

pub returns-then-k-self : goal.returns-then-k-self
returns-then-k-self c =
    let inside = c.self.inside in
    let long = sym (ap (λ (noted : Noted). length noted.items) c.self.view_is) ∙ length-briefs inside.runs.items inside.count in
    sym (slice_get_past c.args.self.now.items c.args.k (omega (arith, long, c.if-k-self.true)))

pub returns : goal.returns
returns c =
    let inside = c.self.inside in
    let k = c.args.k in
    ap Some
    (c.brief.ensures
    ∙ sym (c.run_of.ensures.brief (OfSlot 0 0))
    ∙ ap (λ runs. brief_in (OfSlot 0 0) runs k) c.deref.ensures.value)
    ∙ sym (brief_at inside.runs.items inside.count k (omega arith))
    ∙ ap (λ (noted : Noted). slice_get noted.items k) c.self.view_is
