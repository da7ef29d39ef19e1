-- Keys of which one doesn't precede the other.
use Rattle.std.proofs.Common.{◌<◌, ◌≤◌, ◌≡◌, true, false, arith}
use Rattle.std.proofs.lemmas.Bool.Decides.{nat_tests}
use Rattle.pf_order.specs.Priority.{Priority, priority_cmp, precedes}

pub not_behind_itself : (x : Priority) → precedes x x ≡ false
unfolding priority_cmp
not_behind_itself x = grind (arith, nat_tests)

pub not_behind-trans : (x y z : Priority) → precedes y x ≡ false → precedes z y ≡ false → precedes z x ≡ false
unfolding priority_cmp
not_behind-trans x y z first then = grind (arith, nat_tests)

pub not_behind-deadline : (x y : Priority) → precedes y x ≡ false → x.deadline ≤ y.deadline
unfolding priority_cmp
not_behind-deadline x y first = grind (arith, nat_tests)

pub earlier_not_behind : (x y : Priority) → x.deadline < y.deadline → precedes y x ≡ false
unfolding priority_cmp
earlier_not_behind x y lt = grind (arith, nat_tests)

pub preceding_not_behind : (x y : Priority) → precedes x y ≡ true → precedes y x ≡ false
unfolding priority_cmp
preceding_not_behind x y first = grind (arith, nat_tests)
