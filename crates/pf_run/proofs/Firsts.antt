-- The first of some keys: there is one answer, and how to show it.
use Rattle.std.proofs.Common.{◌≡◌, ◌≢◌, ℕ, zero, suc, ◌+◌, ◌-◌, ◌<◌, ◌≤◌, Bool, true, false, not, ◌==◌, cond, min, List, [], ◌∷◌, ◌++◌, length, take, drop, get_or, filter, count_by, All, AllPairs, Contains, IsTrue, IsPermutation, ⊎_elim, refl, sym, ap, ap₂, ◌∙◌, subst, subst₂, zero-le, arith}
use Rattle.std.proofs.lemmas.Bool.{true≢false, cases_Bool, cases_eq, cases_lt, eq-eqb, eqb-true, false_from_ne_true}
use Rattle.std.proofs.lemmas.List.{take-append-drop, length-append, length-take, length-drop, get_or-take, get_or-drop, get_or_default}
use Rattle.std.proofs.lemmas.List.Elements.{Contains-append_left, Contains-append_right, Contains-append_cases, Contains-get_or}
use Rattle.std.proofs.lemmas.List.Kept.{AllPairs-filter}
use Rattle.std.proofs.lemmas.List.Sums.{sum_by-cons, sum_by-append, sum_by-le-sum_by}
use Rattle.std.proofs.lemmas.List.Sorted.{IsPermutation-sym, Contains-permutation, length_permutation, sum_by-IsPermutation}
use Rattle.pf_place.specs.Priority.{Priority, precedes}
use Rattle.pf_place.specs.First.{rank, AreFirst, first_keys}
use Rattle.pf_place.proofs.Order as order
use Rattle.pf_run.proofs.Containing.{contains_none, contains_head, contains_tail, contains_cases, from_filter, in_filter, pairs_head, pairs_tail, pairs_append, pairs_cases, one_in_order}

-- x before y
abbrev pub Before : Priority → Priority → Type 0
Before x y = IsTrue (precedes x y)

-- no key comes before itself, not by way of another either
not_both : (x y : Priority) → Before x y → Before y x → ⊥
not_both x y first_keys back = true≢false (sym (order.preceding_is_transitive x y x first_keys back) ∙ order.none_precedes_itself x)

-- There is one answer.
pub first_is_one : (n : ℕ) (keys a b : List Priority) → AreFirst n keys a → AreFirst n keys b → a ≡ b
first_is_one n keys a b first_keys second = one_in_order Before not_both a b first_keys.in_order second.in_order
    (λ k at. (second.exactly k).1 ((first_keys.exactly k).0 at))
    (λ k at. (first_keys.exactly k).1 ((second.exactly k).0 at))

-- ranks
rank-append : (xs ys : List Priority) (k : Priority) → rank (xs ++ ys) k ≡ rank xs k + rank ys k
rank-append xs ys k = sum_by-append (λ x. cond (precedes x k) 1 0) xs ys

rank-cons : (x : Priority) (xs : List Priority) (k : Priority) → rank (x ∷ xs) k ≡ cond (precedes x k) 1 0 + rank xs k
rank-cons x xs k = sum_by-cons (λ x. cond (precedes x k) 1 0) x xs

rank_none : (xs : List Priority) (k : Priority) → ((x : Priority) → Contains xs x → precedes x k ≡ false) → rank xs k ≡ 0
rank_none [] k none = refl
rank_none (x ∷ xs) k none =
    rank-cons x xs k ∙ ap₂ (λ b c. cond b 1 0 + c) (none x (contains_head x xs)) (rank_none xs k (λ y at. none y (contains_tail x xs y at)))

rank_all : (xs : List Priority) (k : Priority) → ((x : Priority) → Contains xs x → Before x k) → rank xs k ≡ length xs
rank_all [] k all = refl
rank_all (x ∷ xs) k all =
    let here : rank (x ∷ xs) k ≡ 1 + length xs =
    rank-cons x xs k ∙ ap₂ (λ b c. cond b 1 0 + c) (all x (contains_head x xs)) (rank_all xs k (λ y at. all y (contains_tail x xs y at))) in
    omega arith

not_back : (x y : Priority) → Before x y → precedes y x ≡ false
not_back x y first_keys = false_from_ne_true (precedes y x) (not_both x y first_keys)

-- in a list in order fewer than its length precede one of its keys
rank_within : (xs : List Priority) (k : Priority) → AllPairs Before xs → Contains xs k → rank xs k < length xs
rank_within [] k rising at = absurd (contains_none k at)
rank_within (x ∷ xs) k rising at =
    ⊎_elim
    (λ e.
    let own : precedes x k ≡ false = ap (λ z. precedes z k) e ∙ order.none_precedes_itself k in
    let rest : rank xs k ≡ 0 = rank_none xs k (λ y later. ap (precedes y) (sym e) ∙ not_back x y (pairs_head Before x xs y rising later)) in
    let here : rank (x ∷ xs) k ≡ 0 = rank-cons x xs k ∙ ap₂ (λ b c. cond b 1 0 + c) own rest in
    omega arith)
    (λ later.
    let rest : rank xs k < length xs = rank_within xs k (pairs_tail Before x xs rising) later in
    let here : rank (x ∷ xs) k ≡ 1 + rank xs k = rank-cons x xs k ∙ ap (λ b. cond b 1 0 + rank xs k) (pairs_head Before x xs k rising later) in
    omega arith)
    (contains_cases x xs k at)

-- The chosen keys are in order and stand before all the rest, and there are as many as may be chosen.
pub record IsChoice (n : ℕ) (keys chosen rest : List Priority) : Type 0 where
  pub same : IsPermutation keys (chosen ++ rest)
  pub in_order : AllPairs Before chosen
  pub ahead : (x y : Priority) → Contains chosen x → Contains rest y → Before x y
  pub enough : length chosen ≡ min n (length keys)

choice_rank : (n : ℕ) (keys chosen rest : List Priority) → IsChoice n keys chosen rest → (k : Priority) →
    rank keys k ≡ rank chosen k + rank rest k
choice_rank n keys chosen rest choice k =
    sym (sum_by-IsPermutation (λ x. cond (precedes x k) 1 0) keys (chosen ++ rest) choice.same) ∙ rank-append chosen rest k

choice_length : (n : ℕ) (keys chosen rest : List Priority) → IsChoice n keys chosen rest → length keys ≡ length chosen + length rest
choice_length n keys chosen rest choice = sym (length_permutation keys (chosen ++ rest) choice.same) ∙ length-append chosen rest

chosen_within : (n : ℕ) (keys chosen rest : List Priority) → IsChoice n keys chosen rest → (k : Priority) → Contains chosen k →
    Contains keys k × (rank keys k < n)
chosen_within n keys chosen rest choice k at =
    let none : rank rest k ≡ 0 = rank_none rest k (λ y later. not_back k y (choice.ahead k y at later)) in
    let below : rank chosen k < length chosen = rank_within chosen k choice.in_order at in
    let split : rank keys k ≡ rank chosen k + rank rest k = choice_rank n keys chosen rest choice k in
    let enough : length chosen ≡ min n (length keys) = choice.enough in (
      Contains-permutation (chosen ++ rest) keys k (IsPermutation-sym keys (chosen ++ rest) choice.same) (Contains-append_left chosen rest k at),
      omega arith,
    )

within_chosen : (n : ℕ) (keys chosen rest : List Priority) → IsChoice n keys chosen rest → (k : Priority) → Contains keys k →
    rank keys k < n → Contains chosen k
within_chosen n keys chosen rest choice k at below = ⊎_elim
    (λ here. here)
    (λ later.
    let all : rank chosen k ≡ length chosen = rank_all chosen k (λ x first_keys. choice.ahead x k first_keys later) in
    let split : rank keys k ≡ rank chosen k + rank rest k = choice_rank n keys chosen rest choice k in
    let long : length keys ≡ length chosen + length rest = choice_length n keys chosen rest choice in
    let enough : length chosen ≡ min n (length keys) = choice.enough in
    let some : later.0 < length rest = later.1 in
    absurd (omega arith))
    (Contains-append_cases chosen rest k (Contains-permutation keys (chosen ++ rest) k choice.same at))

-- Use: after choosing one key after another, with the others as `rest`.
pub first_of_choice : (n : ℕ) (keys chosen rest : List Priority) → IsChoice n keys chosen rest → AreFirst n keys chosen
first_of_choice n keys chosen rest choice = record {
  exactly = λ k. (chosen_within n keys chosen rest choice k, λ both. within_chosen n keys chosen rest choice k both.0 both.1);
  in_order = choice.in_order;
}

-- Use: after a sort, or a heap that gives them all in order.
pub first_of_sorted : (n : ℕ) (keys sorted : List Priority) → IsPermutation keys sorted → AllPairs Before sorted →
    AreFirst n keys (take n sorted)
first_of_sorted n keys sorted same rising = first_of_choice n keys (take n sorted) (drop n sorted) (record {
  same = subst (IsPermutation keys) (sym (take-append-drop n sorted)) same;
  in_order = λ i j d before within.
      let short : length (take n sorted) ≡ min n (length sorted) = length-take n sorted in
      subst₂ Before (sym (get_or-take n sorted i d (omega arith))) (sym (get_or-take n sorted j d (omega arith)))
      (rising i j d before (omega arith));
  ahead = λ x y early late.
      let short : length (take n sorted) ≡ min n (length sorted) = length-take n sorted in
      let rest : length (drop n sorted) ≡ length sorted - n = length-drop n sorted in
      let at_x : early.0 < length (take n sorted) = early.1 in
      let at_y : late.0 < length (drop n sorted) = late.1 in
      subst₂ Before
      (sym (get_or-take n sorted early.0 x (omega arith)) ∙ early.2)
      (sym (get_or-drop n sorted late.0 x) ∙ get_or_default (drop n sorted) late.0 x y (omega arith) ∙ late.2)
      (rising early.0 (n + late.0) x (omega arith) (omega arith));
  enough = length-take n sorted ∙ ap (min n) (length_permutation keys sorted same);
})

-- no two of these keys are of one task
abbrev pub TasksDiffer : List Priority → Type 0
TasksDiffer keys = AllPairs (λ x y. x.task ≢ y.task) keys

one_of_task : (keys : List Priority) (x y : Priority) → TasksDiffer keys → Contains keys x → Contains keys y → x.task ≡ y.task → x ≡ y
one_of_task keys x y differ at_x at_y same = ⊎_elim
    (λ e. e)
    (λ apart. ⊎_elim (λ lower. absurd (lower same)) (λ higher. absurd (higher (sym same))) apart)
    (pairs_cases (λ x y. x.task ≢ y.task) keys x y differ at_x at_y)

-- more pass a weaker test, and one more where some element passes it alone
pub one_at_most : (b c : Bool) → (b ≡ true → c ≡ true) → cond b 1 0 ≤ cond c 1 0
one_at_most false c weaker = zero-le
one_at_most true c weaker = omega (arith, ap {B = ℕ} (λ d. cond d 1 0) (weaker refl))

count_le : (p q : Priority → Bool) → ((z : Priority) → p z ≡ true → q z ≡ true) → (xs : List Priority) → count_by p xs ≤ count_by q xs
count_le p q weaker xs = sum_by-le-sum_by (λ z. cond (p z) 1 0) (λ z. cond (q z) 1 0) xs (λ z. one_at_most (p z) (q z) (weaker z))

count_lt : (p q : Priority → Bool) → ((z : Priority) → p z ≡ true → q z ≡ true) → (xs : List Priority) (x : Priority) →
    Contains xs x → p x ≡ false → q x ≡ true → count_by p xs < count_by q xs
count_lt p q weaker [] x at no_p yes_q = absurd (contains_none x at)
count_lt p q weaker (y ∷ ys) x at no_p yes_q =
    let with_p : count_by p (y ∷ ys) ≡ cond (p y) 1 0 + count_by p ys = sum_by-cons (λ z. cond (p z) 1 0) y ys in
    let with_q : count_by q (y ∷ ys) ≡ cond (q y) 1 0 + count_by q ys = sum_by-cons (λ z. cond (q z) 1 0) y ys in
    ⊎_elim
    (λ e.
    let own_p : cond (p y) 1 0 ≡ 0 = ap {B = ℕ} (λ z. cond (p z) 1 0) e ∙ ap {B = ℕ} (λ b. cond b 1 0) no_p in
    let own_q : cond (q y) 1 0 ≡ 1 = ap {B = ℕ} (λ z. cond (q z) 1 0) e ∙ ap {B = ℕ} (λ b. cond b 1 0) yes_q in
    let rest : count_by p ys ≤ count_by q ys = count_le p q weaker ys in
    omega arith)
    (λ later.
    let own : cond (p y) 1 0 ≤ cond (q y) 1 0 = one_at_most (p y) (q y) (weaker y) in
    let rest : count_by p ys < count_by q ys = count_lt p q weaker ys x later no_p yes_q in
    omega arith)
    (contains_cases y ys x at)

rank_lt : (keys : List Priority) (x y : Priority) → Contains keys x → Before x y → rank keys x < rank keys y
rank_lt keys x y at first_keys =
    count_lt (λ z. precedes z x) (λ z. precedes z y) (λ z before. order.preceding_is_transitive z x y before first_keys) keys x at
    (order.none_precedes_itself x) first_keys

-- what rises and stays below n is not longer than n
module _ {X : Type 0} (f : X → ℕ) where
  at_least_place : (xs : List X) (d : X) → AllPairs (λ x y. f x < f y) xs → (k : ℕ) → k < length xs → k ≤ f (get_or xs k d)
  at_least_place xs d rising zero within = zero-le
  at_least_place xs d rising (suc k) within =
      omega (arith, at_least_place xs d rising k (omega arith), rising k (suc k) d (omega arith) within)

  few_rising : (n : ℕ) (xs : List X) → AllPairs (λ x y. f x < f y) xs → All (λ x. f x < n) xs → length xs ≤ n
  few_rising n [] rising below = zero-le
  few_rising n (x ∷ xs) rising below =
      omega (arith, at_least_place (x ∷ xs) x rising (length xs) (omega arith), below (length xs) x (omega arith))

-- Use: the first keys are no more than were asked for, and of different tasks where the keys are.
pub first_few : (n : ℕ) (keys chosen : List Priority) → AreFirst n keys chosen → length chosen ≤ n
first_few n keys chosen are = few_rising (rank keys) n chosen
    (λ i j d before within. rank_lt keys (get_or chosen i d) (get_or chosen j d)
    ((are.exactly _).0 (Contains-get_or chosen i d (omega arith))).0 (are.in_order i j d before within))
    (λ k d within. ((are.exactly _).0 (Contains-get_or chosen k d within)).1)

pub first_differ : (n : ℕ) (keys chosen : List Priority) → TasksDiffer keys → AreFirst n keys chosen → TasksDiffer chosen
first_differ n keys chosen differ are i j d before within =
    let x = get_or chosen i d in
    let y = get_or chosen j d in
    ⊎_elim
    (λ same. absurd (true≢false
    (sym (are.in_order i j d before within) ∙ ap (λ z. precedes z y) same ∙ order.none_precedes_itself y)))
    (λ apart. ⊎_elim (λ lower. lower) (λ higher. λ same. higher (sym same)) apart)
    (pairs_cases (λ x y. x.task ≢ y.task) keys x y differ
    ((are.exactly x).0 (Contains-get_or chosen i d (omega arith))).0
    ((are.exactly y).0 (Contains-get_or chosen j d within)).0)

-- of two of the keys the one of lower rank comes before
before_from_rank : (keys : List Priority) (x y : Priority) → TasksDiffer keys → Contains keys x → Contains keys y →
    rank keys x < rank keys y → Before x y
before_from_rank keys x y differ at_x at_y lower = ⊎_elim
    (λ same. let e : rank keys x ≡ rank keys y = ap (rank keys) (one_of_task keys x y differ at_x at_y same) in absurd (omega arith))
    (λ apart. ⊎_elim
    (λ back. let higher : rank keys y < rank keys x = rank_lt keys y x at_y back in absurd (omega arith))
    (λ not_back. order.one_of_two_precedes x y apart ∙ ap not not_back)
    (cases_Bool (precedes y x)))
    (cases_eq x.task y.task)

one_of_rank : (keys : List Priority) (x y : Priority) → Contains keys x → Contains keys y →
    x.task ≢ y.task → rank keys x ≡ rank keys y → ⊥
one_of_rank keys x y at_x at_y apart same = ⊎_elim
    (λ back. let higher : rank keys y < rank keys x = rank_lt keys y x at_y back in absurd (omega arith))
    (λ not_back. let higher : rank keys x < rank keys y = rank_lt keys x y at_x (order.one_of_two_precedes x y apart ∙ ap not not_back) in absurd (omega arith))
    (cases_Bool (precedes y x))

-- the keys of `first`
from_first : (n : ℕ) (keys : List Priority) (k : Priority) → Contains (first_keys n keys) k → Contains keys k × (rank keys k < n)
from_first zero keys k at = absurd (contains_none k at)
from_first (suc c) keys k at = ⊎_elim
    (λ early. let both = from_first c keys k early in (both.0, omega (arith, both.1)))
    (λ last.
    let both = from_filter (λ k. rank keys k == c) keys k last in
    let is : rank keys k ≡ c = eqb-true (rank keys k) c both.1 in
    (both.0, omega arith))
    (Contains-append_cases (first_keys c keys) (filter (λ k. rank keys k == c) keys) k at)

in_first : (n : ℕ) (keys : List Priority) (k : Priority) → Contains keys k → rank keys k < n → Contains (first_keys n keys) k
in_first zero keys k at below = absurd (omega arith)
in_first (suc c) keys k at below = ⊎_elim
    (λ early. Contains-append_left (first_keys c keys) _ k (in_first c keys k at early))
    (λ last. Contains-append_right (first_keys c keys) _ k (in_filter (λ k. rank keys k == c) keys k at (eq-eqb (rank keys k) c (omega arith))))
    (cases_lt (rank keys k) c)

alone_of_rank : (keys : List Priority) (c : ℕ) → TasksDiffer keys → AllPairs Before (filter (λ k. rank keys k == c) keys)
alone_of_rank keys c differ i j d before within =
    let these = filter (λ k. rank keys k == c) keys in
    let x = from_filter (λ k. rank keys k == c) keys (get_or these i d) (Contains-get_or these i d (omega arith)) in
    let y = from_filter (λ k. rank keys k == c) keys (get_or these j d) (Contains-get_or these j d within) in
    absurd (one_of_rank keys (get_or these i d) (get_or these j d) x.0 y.0
    (AllPairs-filter (λ x y. x.task ≢ y.task) (λ k. rank keys k == c) keys differ i j d before within)
    (eqb-true _ c x.1 ∙ sym (eqb-true _ c y.1)))

first_in_order : (n : ℕ) (keys : List Priority) → TasksDiffer keys → AllPairs Before (first_keys n keys)
first_in_order zero keys differ = λ i j d before within. absurd (omega arith)
first_in_order (suc c) keys differ =
    pairs_append Before (first_keys c keys) (filter (λ k. rank keys k == c) keys) (first_in_order c keys differ) (alone_of_rank keys c differ)
    (λ x y early last.
    let of_x = from_first c keys x early in
    let of_y = from_filter (λ k. rank keys k == c) keys y last in
    let low : rank keys x < c = of_x.1 in
    let is : rank keys y ≡ c = eqb-true (rank keys y) c of_y.1 in
    before_from_rank keys x y differ of_x.0 of_y.0 (omega arith))

-- `first` computes it, where no two keys are of one task.
pub first_is_first : (n : ℕ) (keys : List Priority) → TasksDiffer keys → AreFirst n keys (first_keys n keys)
first_is_first n keys differ = record {
  exactly = λ k. (from_first n keys k, λ both. in_first n keys k both.0 both.1);
  in_order = first_in_order n keys differ;
}
