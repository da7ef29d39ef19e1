use Rattle.std.proofs.Common.{[], ◌+◌, take, get_or, refl, sym, subst}
use Rattle.pf_convert.proofs.Powers.{AreDividedSoFar, none_divided, one_divided, items_some, items_within}
use Rattle.pf_convert.proofs.smooth.smooth_bases.Goals as goal

pub loop-number-init : goal.loop-number-init
loop-number-init c = subst (AreDividedSoFar []) (sym c.new-bases.ensures.items) none_divided

pub divisors_of-requires-clause-some : goal.divisors_of-requires-clause-some
divisors_of-requires-clause-some c =
    items_some c.in_ok-numbers.numbers.items c.deref-number-items.result.now c.loop-number.number-index c.deref-number-items.ensures.value
    c.in_ok-numbers.ensures c.loop-number-test.true

pub loop-number-preserved : goal.loop-number-preserved
loop-number-preserved c =
    let items = c.deref-number-items.result.now in
    let i = c.loop-number.number-index in
    let numbers = c.in_ok-numbers.numbers.items in
    let same = c.deref-number-items.ensures.value in
    subst (AreDividedSoFar (take (i + 1) items)) (sym c.in_ok-push.ensures.items)
    (one_divided items i c.loop-number.bases.items (record { base = get_or items i 0; divisors = c.in_ok-divisors.divisors }) c.loop-number-test.true
    c.loop-number.invariant refl
    (record {
      some = items_some numbers items i same c.in_ok-numbers.ensures c.loop-number-test.true;
      within = items_within numbers items i same c.in_ok-numbers.ensures c.loop-number-test.true;
      divisors = c.in_ok-divisors.ensures.divisors;
      rising = c.in_ok-divisors.ensures.rising;
    }))
