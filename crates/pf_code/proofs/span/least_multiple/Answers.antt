use Rattle.std.proofs.Common.{◌*◌, ◌/◌, sym, subst, arith}
use Rattle.std.specs.Int.{IsGcd}
use Rattle.pf_code.specs.Span.{IsLeastMultiple}
use Rattle.pf_code.proofs.Spans.{divisor_some, multiple_is}
use Rattle.pf_code.proofs.span.least_multiple.Goals as goal

pub nonzero_div-result : goal.nonzero_div-result
nonzero_div-result c =
    let share = c.period-period.ensures.share in
    divisor_some _ _ _ c.greatest_common_divisor.ensures (omega (arith, c.period-period.ensures.value, share.some, share.within))

pub returns : goal.returns
returns c =
    let span = c.args.span in
    let w = c.args.weight in
    let g = c.greatest_common_divisor.result in
    let gcd = subst (λ e. IsGcd (e * span) w.period g) c.cost.ensures.value
    (subst (λ p. IsGcd (c.cost.result * span) p g) c.period-period.ensures.value c.greatest_common_divisor.ensures) in
    subst (λ p. IsLeastMultiple span w (span * (p / g))) (sym c.period-period.ensures.value)
    (multiple_is span g w c.period-period.ensures.share c.requires.some gcd)
