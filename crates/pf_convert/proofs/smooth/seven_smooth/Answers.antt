use Rattle.std.proofs.Common.{[], ◌∷◌, ◌≤◌, refl, arith}
use Rattle.std.specs.Prelude.{All}
use Rattle.pf_convert.proofs.Powers.{some_powered, one_alone, next_some, told_again, all_smooth}
use Rattle.pf_convert.proofs.smooth.seven_smooth.Goals as goal

pub times_powers-requires-3-clause-some : goal.times_powers-requires-3-clause-some
times_powers-requires-3-clause-some c =
    let twos : All (λ n. 1 ≤ n) c.in_ok-twos.twos.items = some_powered (1 ∷ []) 2 c.in_ok-twos.twos.items (omega arith) one_alone c.in_ok-twos.ensures in
    next_some c.in_ok-twos.twos.items c.deref.result.now c.in_ok-threes.threes.items c.deref-2.result.now 3 (omega arith) c.deref.ensures.value
    c.deref-2.ensures.value twos c.in_ok-threes.ensures

pub times_powers-requires-4-clause-some : goal.times_powers-requires-4-clause-some
times_powers-requires-4-clause-some c =
    let twos : All (λ n. 1 ≤ n) c.in_ok-twos.twos.items = some_powered (1 ∷ []) 2 c.in_ok-twos.twos.items (omega arith) one_alone c.in_ok-twos.ensures in
    let threes : All (λ n. 1 ≤ n) c.in_ok-threes.threes.items =
    next_some c.in_ok-twos.twos.items c.deref.result.now c.in_ok-threes.threes.items c.in_ok-threes.threes.items 3 (omega arith) c.deref.ensures.value
    refl twos c.in_ok-threes.ensures in
    next_some c.in_ok-threes.threes.items c.deref-2.result.now c.in_ok-fives.fives.items c.deref-3.result.now 5 (omega arith) c.deref-2.ensures.value
    c.deref-3.ensures.value threes c.in_ok-fives.ensures

pub returns : goal.returns
returns c =
    all_smooth c.in_ok-twos.twos.items c.in_ok-threes.threes.items c.in_ok-fives.fives.items c.in_ok-sevens.sevens.items c.in_ok-twos.ensures
    (told_again c.in_ok-twos.twos.items c.deref.result.now c.in_ok-threes.threes.items 3 c.deref.ensures.value c.in_ok-threes.ensures)
    (told_again c.in_ok-threes.threes.items c.deref-2.result.now c.in_ok-fives.fives.items 5 c.deref-2.ensures.value c.in_ok-fives.ensures)
    (told_again c.in_ok-fives.fives.items c.deref-3.result.now c.in_ok-sevens.sevens.items 7 c.deref-3.ensures.value c.in_ok-sevens.ensures)
