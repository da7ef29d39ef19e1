-- Different subtasks, each among some picks, are no more than these.
use Rattle.std.proofs.Common.{◌≡◌, ◌≢◌, ℕ, ◌+◌, ◌≤◌, ◌==◌, ◌&&◌, Bool, true, false, not, cond, List, [], ◌∷◌, length, filter, count_by, AllPairs, Contains, arith, refl, ap₂}
use Rattle.std.proofs.lemmas.Bool.{and_parts, and_from, eqb-true, eq-eqb, not_from_false, false_from_ne_true}
use Rattle.std.proofs.lemmas.List.Sums.{length-filter}
use Rattle.pf_order.specs.declared.pick.Pick.{Pick}
use Rattle.pf_run.proofs.Containing.{contains_head, contains_tail, in_filter, pairs_head, pairs_tail}
use Rattle.pf_run.proofs.Counting.{count_by-cons}
use Rattle.pf_tally.proofs.Members.{contains_counted}

abbrev pub is_same : Pick → Pick → Bool
is_same x y = x.task == y.task && x.sub == y.sub

abbrev pick_of : ℕ → ℕ → Pick
pick_of task sub = record { task = task; sub = sub }

pub same_pick : (x y : Pick) → is_same x y ≡ true → x ≡ y
same_pick x y same =
    let both = and_parts (x.task == y.task) (x.sub == y.sub) same in
    ap₂ pick_of (eqb-true x.task y.task both.0) (eqb-true x.sub y.sub both.1)

pub count_both : {X : Type 0} (p : X → Bool) (xs : List X) → count_by p xs + count_by (λ x. not (p x)) xs ≡ length xs
count_both p [] = refl
count_both p (x ∷ xs) =
    omega (arith, count_by-cons p x xs, count_by-cons (λ y. not (p y)) x xs, count_both p xs, one (p x)) where
      one : (b : Bool) → cond b 1 0 + cond (not b) 1 0 ≡ 1
      one true = refl
      one false = refl

pub different_within : (xs ys : List Pick) → AllPairs (λ x y. x ≢ y) xs → ((x : Pick) → Contains xs x → Contains ys x) →
    length xs ≤ length ys
different_within [] ys differ within = omega arith
different_within (x ∷ xs) ys differ within =
    let others = filter (λ y. not (is_same x y)) ys in
    let rest =
    different_within xs others (pairs_tail (λ y z. y ≢ z) x xs differ)
    (λ z at.
    in_filter (λ y. not (is_same x y)) ys z (within z (contains_tail x xs z at))
    (not_from_false (is_same x z)
    (false_from_ne_true (is_same x z) (λ same. pairs_head (λ y z. y ≢ z) x xs z differ at (same_pick x z same))))) in
    let itself : is_same x x ≡ true = and_from (x.task == x.task) (x.sub == x.sub) (eq-eqb x.task x.task refl) (eq-eqb x.sub x.sub refl) in
    omega (
      arith,
      rest,
      length-filter (λ y. not (is_same x y)) ys,
      count_both (is_same x) ys,
      contains_counted (is_same x) ys x (within x (contains_head x xs)) itself,
    )
