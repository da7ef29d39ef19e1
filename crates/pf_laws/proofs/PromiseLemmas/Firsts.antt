-- A key that is not among the first so many has so many keys before it that are.
use Rattle.std.proofs.Common.{◌≡◌, ℕ, ◌≤◌, List, length, take, min, arith, ap}
use Rattle.std.proofs.lemmas.List.{length-take}
use Rattle.std.proofs.lemmas.List.Sums.{count_by-le-length}
use Rattle.std.proofs.lemmas.List.Sorted.{length_permutation}
use Rattle.pf_order.specs.Priority.{Priority, precedes, priority_cmp}
use Rattle.pf_order.specs.First.{AreFirst, rank}
use Rattle.pf_order.proofs.Order.{priority_cmp_total, apart}
use Rattle.pf_scenario.specs.Sorted.{sorted_by}
use Rattle.pf_scenario.proofs.Sorting.{sorted_keeps}
use Rattle.pf_run.proofs.Firsts.{TasksDiffer, first_is_one, first_of_sorted}
use Rattle.pf_tally.proofs.Sorts.{sorted_rises}

pub first_fill : (n : ℕ) (keys chosen : List Priority) → TasksDiffer keys → AreFirst n keys chosen →
    length chosen ≡ min n (length keys)
first_fill n keys chosen differ are =
    let sorted = sorted_by priority_cmp keys in
    let same = sorted_keeps priority_cmp keys in
    let rising =
    sorted_rises priority_cmp_total keys
    (λ i j d before within. apart _ _ (differ i j d before within)) in
    let is : chosen ≡ take n sorted = first_is_one n keys chosen (take n sorted) are (first_of_sorted n keys sorted same rising) in
    omega (arith, ap length is, length-take n sorted, length_permutation keys sorted same)

-- fewer keys are not first only where the first are as many as were asked for
pub first_many : (n : ℕ) (keys chosen : List Priority) (k : Priority) → TasksDiffer keys → AreFirst n keys chosen →
    n ≤ rank keys k → n ≤ length chosen
first_many n keys chosen k differ are late =
    omega (arith, first_fill n keys chosen differ are, late, count_by-le-length (λ x. precedes x k) keys)
