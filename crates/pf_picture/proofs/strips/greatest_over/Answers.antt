use Rattle.std.proofs.Common.{◌+◌, ◌∙◌, sym, ap, arith}
use Rattle.std.specs.Prelude.{max}
use Rattle.pf_picture.specs.Strips.{greatest_over, quanta_at}
use Rattle.pf_picture.proofs.Greatest.{slot_next}
use Rattle.pf_picture.proofs.strips.greatest_over.Goals as goal

pub loop-t-preserved : goal.loop-t-preserved
loop-t-preserved c =
    let track = c.args.course.now in
    let most = c.loop-t.most in
    let t = c.loop-t.t in
    let behind = c.args.behind in
    let more = c.max-most.ensures ∙ ap (λ q. max most q) c.quanta_at.ensures in
    record {
      value = ap (λ m. greatest_over track (t + 1) behind m) more ∙ sym (slot_next (λ most t. max most (quanta_at track t)) most t behind c.loop-t-test.true)
          ∙ c.loop-t.invariant.value;
      least = omega (arith, c.max-most.ensures, c.loop-t.invariant.least);
      from = omega (arith, c.loop-t.invariant.from);
    }
