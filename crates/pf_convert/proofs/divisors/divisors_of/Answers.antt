use Rattle.std.proofs.Common.{◌+◌, sym, subst}
use Rattle.std.proofs.lemmas.List.Sorted.{IsNonDecreasingBy-from_sort}
use Rattle.pf_convert.proofs.Dividing.{AreDivisorsBelow, pair_looked_at, all_divisors, divisors_moved}
use Rattle.pf_convert.proofs.divisors.divisors_of.Goals as goal

pub loop-low-preserved : goal.loop-low-preserved
loop-low-preserved c =
    subst (AreDivisorsBelow c.args.number (c.loop-low.low + 1)) (sym c.in_ok-push_pair.ensures)
    (pair_looked_at c.args.number c.loop-low.low c.loop-low.divisors.items c.requires.some c.loop-low.auto.low c.loop-low.invariant)

pub returns-clause-divisors : goal.returns-clause-divisors
returns-clause-divisors c =
    divisors_moved c.args.number c.loop-low.divisors.items _ c.sort_unstable.ensures.permutation
    (all_divisors c.args.number c.isqrt-low-end.result c.loop-low.low c.loop-low.divisors.items c.requires.some c.isqrt-low-end.ensures.next_square_gt
    c.loop-low-test.false c.loop-low.invariant)

pub returns-clause-rising : goal.returns-clause-rising
returns-clause-rising c = IsNonDecreasingBy-from_sort (λ x. x) _ c.sort_unstable.ensures.sorted
