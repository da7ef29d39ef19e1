use Rattle.std.proofs.Common.{◌*◌, ◌/◌, ◌^◌, ◌<◌, length, sym, subst}
use Rattle.pf_convert.proofs.ListLemmas.Fractions.{less_than_one}
use Rattle.pf_convert.proofs.list.time.parse_part.Goals as goal

pub returns-clause-small : goal.returns-clause-small
returns-clause-small c =
    let n = c.in-Some.number in
    let p = c.args.places in
    subst (λ v. n * v / c.pow-one.result < 10 ^ p) (sym c.pow.ensures)
    (subst (λ v. n * 10 ^ p / v < 10 ^ p) (sym c.pow-one.ensures) (less_than_one n p (length c.args.field.now) c.in-Some.ensures.small.0))
