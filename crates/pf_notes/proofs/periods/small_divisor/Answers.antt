use Rattle.std.proofs.Common.{◌<◌, ◌≤◌, sym, ◌∙◌, arith}
use Rattle.pf_notes.specs.Periods.{divides_both}
use Rattle.pf_notes.proofs.Divisors.{greatest_is, none_is}
use Rattle.pf_notes.proofs.periods.small_divisor.Goals as goal

pub returns-then-divides_both : goal.returns-then-divides_both
returns-then-divides_both c =
    let low : c.loop-k.k < c.args.below = omega (arith, c.loop-k.invariant.1, c.loop-k-test.true) in
    greatest_is (divides_both c.args.a c.args.b) c.args.below c.loop-k.k c.loop-k.invariant.0 low (sym c.divides_both.ensures ∙ c.if-divides_both.true)

pub returns : goal.returns
returns c =
    let none : c.loop-k.k ≤ 0 = omega (arith, c.loop-k-test.false) in
    none_is (divides_both c.args.a c.args.b) c.args.below
    (λ j lt p. let most : j ≤ c.loop-k.k = c.loop-k.invariant.0 j lt p in omega (arith, most, none))
