use Rattle.std.proofs.Common.{◌≡◌, [], ◌∷◌, sym, ap, ◌∙◌}
use Rattle.std.specs.Arc.{arc_value}
use Rattle.std.specs.Vec.Iter.{into_iter_items}
use Rattle.std.proofs.lemmas.List.{map-append}
use Rattle.pf_shared_desk.specs.Opening.{caller_at}
use Rattle.pf_shared_desk.proofs.Founding.{first_all}
use Rattle.pf_shared_desk.proofs.opened.make_callers.Goals as goal

pub new-requires : goal.new-requires
new-requires c =
    (first_all (λ p. p.board ≡ (arc_value c.args.common.now).id) c.in-Some.pass (into_iter_items c.next.new.self) (into_iter_items c.loop-pass.pass-iterator) c.in-Some.ensures.steps.0 c.loop-pass.invariant.left).0
    ∙ ap (λ b. b.id) (sym c.in_ok-again.ensures)

pub loop-pass-preserved : goal.loop-pass-preserved
loop-pass-preserved c = record {
  made = c.in_ok-push.ensures.items ∙ (rw (c.loop-pass.invariant.made, c.new.ensures, c.in_ok-again.ensures)
      (sym (map-append (caller_at (arc_value c.args.common.now)) c.loop-pass.yielded (c.in-Some.pass ∷ []))));
  left = (first_all (λ p. p.board ≡ (arc_value c.args.common.now).id) c.in-Some.pass (into_iter_items c.next.new.self) (into_iter_items c.loop-pass.pass-iterator) c.in-Some.ensures.steps.0 c.loop-pass.invariant.left).1;
}
