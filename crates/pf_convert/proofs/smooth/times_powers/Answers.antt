use Rattle.std.proofs.Common.{◌+◌, ◌∙◌, ◌++◌, take, sym, ap, subst}
use Rattle.pf_convert.specs.Smooth.{ArePowered}
use Rattle.pf_convert.proofs.Powers.{number_taken}
use Rattle.pf_convert.proofs.smooth.times_powers.Goals as goal

pub loop-number-preserved : goal.loop-number-preserved
loop-number-preserved c =
    subst (ArePowered (take (c.loop-number.number-index + 1) c.args.numbers.now) c.args.factor)
    (sym (c.in_ok-extend_from_slice.ensures.items ∙ ap (λ ys. c.loop-number.products.items ++ ys) c.deref.ensures.value))
    (number_taken c.args.numbers.now c.loop-number.number-index c.args.factor c.loop-number.products.items c.in_ok-powers.powers.items
    c.loop-number-test.true c.loop-number.invariant c.in_ok-powers.ensures)
