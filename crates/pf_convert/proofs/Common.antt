-- The least common multiple, number by number.
use Rattle.std.proofs.Common.{◌≡◌, ℕ, ◌+◌, ◌-◌, ◌*◌, ◌/◌, ◌%◌, ◌<◌, ◌≤◌, inl, inr, List, take, length, get_or, Option, None, Some, MatchOption, sym, subst, arith}
use Rattle.std.proofs.Math.Nat.{mod-lt, mul-mod_right, le-mul_of_pos_right, mul-le-mul_left, mul-div-le}
use Rattle.std.proofs.lemmas.Bool.{cases_lt}
use Rattle.std.proofs.lemmas.Nat.{le-div}
use Rattle.std.proofs.lemmas.List.{take-take, get_or-take, take_all, length-take-le}
use Rattle.std.proofs.lemmas.List.Elements.{All-take, All-get_or, All-more, All-weaker}
use Rattle.pf_weight.specs.declared.base.TheConstants.{LARGEST_BASE}
use Rattle.pf_convert.specs.declared.slotted.Slotted.{Slotted}
use Rattle.pf_convert.specs.Multiples.{IsLeastOfBoth, NoneOfBoth, IsCommon, IsLeastCommon, HasNoCommon}
use Rattle.pf_convert.proofs.Division.{IsTurn, turn_of, earlier_turn, divides_on, divides_rest, multiple_is_no_less}

-- none of the first k multiples of a is one of b
abbrev pub NoneBefore : ℕ → ℕ → ℕ → Type 0
NoneBefore a b k = (j : ℕ) → j < k → (a * (j + 1)) % b ≡ 0 → ⊥

no_less : (a b k n : ℕ) → NoneBefore a b k → 1 ≤ n → n % a ≡ 0 → n % b ≡ 0 → n < a * (k + 1) → ⊥
no_less a b k n none some p q below =
    let turn = turn_of n a some p in
    none (n / a - 1) (earlier_turn n a (n / a - 1) k turn below) (subst (λ v. v % b ≡ 0) turn.product q)

pub first_is_least : (a b k : ℕ) → 1 ≤ a → NoneBefore a b k → a * (k + 1) ≤ LARGEST_BASE → (a * (k + 1)) % b ≡ 0 → IsLeastOfBoth a b (a * (k + 1))
first_is_least a b k some none within e = record {
  some = omega (arith, le-mul_of_pos_right {m = k + 1} a (omega arith));
  within = within;
  first = mul-mod_right a (k + 1);
  second = e;
  least = λ n pos p q. elim (cases_lt n (a * (k + 1))) [ inl below ↦ absurd (no_less a b k n none pos p q below) | inr above ↦ above ];
}

turn_fits : (n a j : ℕ) → 1 ≤ a → n ≤ LARGEST_BASE → IsTurn n a j → j < LARGEST_BASE / a
turn_fits n a j some within t =
    let fits : (j + 1) * a ≤ LARGEST_BASE = omega (arith, t.product, within) in
    omega (arith, le-div (j + 1) LARGEST_BASE a (omega (arith, some)) fits)

pub turn_within : (a k : ℕ) → k < LARGEST_BASE / a → a * (k + 1) ≤ LARGEST_BASE
turn_within a k lt =
    let up : a * (k + 1) ≤ a * (LARGEST_BASE / a) = mul-le-mul_left a (omega (arith, lt)) in
    omega (arith, up, mul-div-le LARGEST_BASE a)

pub none_at_all : (a b : ℕ) → 1 ≤ a → NoneBefore a b (LARGEST_BASE / a) → NoneOfBoth a b
none_at_all a b some none = λ n pos within p q.
    let turn = turn_of n a pos p in
    none (n / a - 1) (turn_fits n a (n / a - 1) some within turn) (subst (λ v. v % b ≡ 0) turn.product q)

pub turned : (o : Option ℕ) (a b : ℕ) → MatchOption o (NoneOfBoth b a) (IsLeastOfBoth b a) → MatchOption o (NoneOfBoth a b) (IsLeastOfBoth a b)
turned None a b none = λ n some within p q. none n some within q p
turned (Some l) a b h = record {
  some = h.some;
  within = h.within;
  first = h.second;
  second = h.first;
  least = λ n some p q. h.least n some q p;
}

-- the least common multiple of these divides each other one
pub record IsSoFar (tasks : List Slotted) (l : ℕ) : Type 0 where
  pub some : 1 ≤ l
  pub within : l ≤ LARGEST_BASE
  pub common : IsCommon tasks l
  pub divides : (n : ℕ) → IsCommon tasks n → n % l ≡ 0

-- where it divides all of one more, it divides all before
before : (tasks : List Slotted) (i n : ℕ) → IsCommon (take (i + 1) tasks) n → IsCommon (take i tasks) n
before tasks i n h =
    subst (λ ts. IsCommon ts n) (take-take i (i + 1) tasks (omega arith)) (All-take (λ t. n % t.period ≡ 0) i (take (i + 1) tasks) h)

last : (tasks : List Slotted) (i n : ℕ) (d : Slotted) → i < length tasks → IsCommon (take (i + 1) tasks) n → n % (get_or tasks i d).period ≡ 0
last tasks i n d lt h =
    let long : length (take (i + 1) tasks) ≡ i + 1 = length-take-le (i + 1) tasks (omega arith) in
    subst (λ t. n % t.period ≡ 0) (get_or-take (i + 1) tasks i d (omega arith))
    (All-get_or (λ t. n % t.period ≡ 0) (take (i + 1) tasks) i d (omega (arith, long)) h)

-- what both divide is 0 where it is below their least common multiple
rest_is_none : (a b l r : ℕ) → IsLeastOfBoth a b l → r < l → r % a ≡ 0 → r % b ≡ 0 → r ≡ 0
rest_is_none a b l r h below p q =
    elim (cases_lt 0 r) [
      | inl some ↦ absurd (omega (arith, h.least r some p q))
      | inr none ↦ omega arith
    ]

pub one_more : (tasks : List Slotted) (i l m : ℕ) (d : Slotted) → i < length tasks → IsSoFar (take i tasks) l → IsLeastOfBoth l (get_or tasks i d).period m → IsSoFar (take (i + 1) tasks) m
one_more tasks i l m d lt h both = record {
  some = both.some;
  within = both.within;
  common =
      All-more (λ t. m % t.period ≡ 0) tasks i d lt
      (All-weaker (λ t. l % t.period ≡ 0) (λ t. m % t.period ≡ 0) (λ t e. divides_on m l t.period both.first e) (take i tasks) h.common)
      both.second;
  divides = λ n all.
      let p : n % l ≡ 0 = h.divides n (before tasks i n all) in
      let q : n % (get_or tasks i d).period ≡ 0 = last tasks i n d lt all in
      rest_is_none l (get_or tasks i d).period m (n % m) both (mod-lt n (omega (arith, both.some)))
      (divides_rest n m l both.first p) (divides_rest n m (get_or tasks i d).period both.second q);
}

pub no_more : (tasks : List Slotted) (i l : ℕ) (d : Slotted) → i < length tasks → IsSoFar (take i tasks) l → NoneOfBoth l (get_or tasks i d).period → HasNoCommon tasks
no_more tasks i l d lt h none = λ n some within all.
    none n some within (h.divides n (All-take (λ t. n % t.period ≡ 0) i tasks all)) (All-get_or (λ t. n % t.period ≡ 0) tasks i d lt all)

pub of_all : (tasks : List Slotted) (i l : ℕ) → length tasks ≤ i → IsSoFar (take i tasks) l → IsLeastCommon tasks l
of_all tasks i l le h =
    let same : take i tasks ≡ tasks = take_all i tasks le in
    record {
      some = h.some;
      within = h.within;
      common = subst (λ ts. IsCommon ts l) same h.common;
      least = λ n some all. multiple_is_no_less n l some (h.divides n (subst (λ ts. IsCommon ts n) (sym same) all));
    }
