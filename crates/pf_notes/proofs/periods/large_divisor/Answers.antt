use Rattle.std.proofs.Common.{◌≤◌, ◌*◌, ◌+◌, sym, ◌∙◌, arith}
use Rattle.std.proofs.Math.Nat.{div-lt_iff_lt-mul, mul-le-mul_left}
use Rattle.pf_notes.proofs.Divisors.{goes_on, partner, under}
use Rattle.pf_notes.proofs.periods.large_divisor.Goals as goal

pub returns-then-has_quotient-clause-found : goal.returns-then-has_quotient-clause-found
returns-then-has_quotient-clause-found c =
    let left = c.loop-other.invariant in (
      (div-lt_iff_lt-mul {k = c.loop-other.other} {x = c.args.a} {y = c.args.below} left.some).1 left.past,
      partner c.args.a c.args.b c.loop-other.other (sym c.has_quotient.ensures ∙ c.if-has_quotient.true),
      λ j low passes. under c.args.a c.args.b j c.requires.some passes c.loop-other.other left.some (left.each j low passes),
    )

pub loop-other-preserved : goal.loop-other-preserved
loop-other-preserved c =
    let left = c.loop-other.invariant in
    let square : c.loop-other.other * 1 ≤ c.loop-other.other * c.loop-other.other = mul-le-mul_left c.loop-other.other left.some in
    let more : c.args.below * c.loop-other.other ≤ c.args.below * (c.loop-other.other + 1) = mul-le-mul_left c.args.below (omega arith) in
    record {
      some = omega arith;
      within = omega (arith, square, c.loop-other-test.true);
      past = omega (arith, more, left.past);
      each = λ j low passes. goes_on c.args.a c.args.b j c.requires.some passes c.loop-other.other (left.each j low passes) (sym c.has_quotient.ensures ∙ c.if-has_quotient.false);
    }
