use Rattle.std.proofs.Common.{◌≡◌, arith}
use Rattle.std.specs.Vec.Iter.{into_iter_items}
use Rattle.pf_drill.proofs.Gated.{all_snoc, first_all}
use Rattle.pf_drill.proofs.crew.hire.Goals as goal

pub loop-pass-preserved : goal.loop-pass-preserved
loop-pass-preserved g c =
    let inv = c.loop-pass.invariant in
    record {
      left = (first_all (λ p. p.board ≡ g.N.Naming.board.id) c.in-Some.pass (into_iter_items c.next.new.self) (into_iter_items c.loop-pass.pass-iterator) c.in-Some.ensures.steps.0 inv.left).1;
      hired = λ k d lt.
          all_snoc (λ h. h.promise.gate.now ≡ c.args.gate.now) c.loop-pass.hired.items c.push.new.self.items c.in_ok-start.field-0 c.in_ok-push.ensures.items
          (λ j e less. inv.hired j e (omega (arith, less, c.loop-pass.hired.ok.0))) c.in_ok-start.ensures k d (omega (arith, lt, c.push.new.self.ok.0));
    }
