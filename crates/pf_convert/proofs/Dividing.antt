-- All divisors of a number from those up to its square root, and the last of them within a period.
use Rattle.std.proofs.Common.{◌≡◌, ℕ, zero, suc, ◌+◌, ◌*◌, ◌/◌, ◌%◌, ◌<◌, ◌≤◌, inl, inr, List, [], ◌∷◌, ◌++◌, length, get_or, sym, ◌∙◌, ap, subst, arith}
use Rattle.std.specs.Prelude.{All, Contains, ◌==◌}
use Rattle.std.specs.List.Sorted.{IsPermutation, IsNonDecreasing}
use Rattle.std.proofs.Math.Nat.{mod-one, mul-mod_left, mul-div_cancel, mul-le-mul}
use Rattle.std.proofs.lemmas.Bool.{cases_lt, cond_both, eqb-true, eqb-false}
use Rattle.std.proofs.lemmas.List.Elements.{All-push, Contains-append_left, Contains-push, at_from_Contains}
use Rattle.std.proofs.lemmas.List.Sorted.{All-permutation, Contains-permutation}
use Rattle.pf_convert.specs.Smooth.{AreDivisors, with_pair}
use Rattle.pf_convert.specs.Rounding.{rounded}
use Rattle.pf_convert.proofs.Division.{quotient_of, some_factor}

-- divisors of a number, among them all below another and their counterparts
pub record AreDivisorsBelow (n low : ℕ) (divisors : List ℕ) : Type 0 where
  pub some : All (λ d. 1 ≤ d) divisors
  pub sound : All (λ d. n % d ≡ 0) divisors
  pub lows : (d : ℕ) → 1 ≤ d → d < low → n % d ≡ 0 → Contains divisors d
  pub highs : (d : ℕ) → 1 ≤ d → d < low → n % d ≡ 0 → Contains divisors (n / d)

-- the counterpart of a divisor is one
counterpart : (n d : ℕ) → n % d ≡ 0 → n % (n / d) ≡ 0
counterpart n d e = subst (λ v. v % (n / d) ≡ 0) (sym (quotient_of n d e)) (mul-mod_left d (n / d))

in_pair : (n low : ℕ) (ds : List ℕ) (d : ℕ) → Contains ds d → Contains ((ds ++ low ∷ []) ++ n / low ∷ []) d
in_pair n low ds d h = Contains-append_left (ds ++ low ∷ []) (n / low ∷ []) d (Contains-append_left ds (low ∷ []) d h)

pair_in : (n low : ℕ) (ds : List ℕ) → 1 ≤ n → 1 ≤ low → n % low ≡ 0 → AreDivisorsBelow n low ds → AreDivisorsBelow n (low + 1) ((ds ++ low ∷ []) ++ n / low ∷ [])
pair_in n low ds some one e h =
    let high : 1 ≤ n / low = some_factor n low (n / low) some (quotient_of n low e) in
    let last : Contains ((ds ++ low ∷ []) ++ n / low ∷ []) (n / low) = Contains-push (ds ++ low ∷ []) (n / low) in
    let first : Contains ((ds ++ low ∷ []) ++ n / low ∷ []) low = Contains-append_left (ds ++ low ∷ []) (n / low ∷ []) low (Contains-push ds low) in
    record {
      some = All-push (λ d. 1 ≤ d) (ds ++ low ∷ []) (n / low) (All-push (λ d. 1 ≤ d) ds low h.some one) high;
      sound = All-push (λ d. n % d ≡ 0) (ds ++ low ∷ []) (n / low) (All-push (λ d. n % d ≡ 0) ds low h.sound e) (counterpart n low e);
      lows = λ d p below q.
          elim (cases_lt d low) [
            | inl lt ↦ in_pair n low ds d (h.lows d p lt q)
            | inr ge ↦ (let same : low ≡ d = omega (arith, ge, below) in subst (λ v. Contains ((ds ++ low ∷ []) ++ n / low ∷ []) v) same first)
          ];
      highs = λ d p below q.
          elim (cases_lt d low) [
            | inl lt ↦ in_pair n low ds (n / d) (h.highs d p lt q)
            | inr ge ↦ (let same : low ≡ d = omega (arith, ge, below) in subst (λ v. Contains ((ds ++ low ∷ []) ++ n / low ∷ []) (n / v)) same last)
          ];
    }

none_in : (n low : ℕ) (ds : List ℕ) → (n % low ≡ 0 → ⊥) → AreDivisorsBelow n low ds → AreDivisorsBelow n (low + 1) ds
none_in n low ds never h = record {
  some = h.some;
  sound = h.sound;
  lows = λ d p below q.
      elim (cases_lt d low) [
        | inl lt ↦ h.lows d p lt q
        | inr ge ↦ (let same : d ≡ low = omega (arith, ge, below) in absurd (never (subst (λ v. n % v ≡ 0) same q)))
      ];
  highs = λ d p below q.
      elim (cases_lt d low) [
        | inl lt ↦ h.highs d p lt q
        | inr ge ↦ (let same : d ≡ low = omega (arith, ge, below) in absurd (never (subst (λ v. n % v ≡ 0) same q)))
      ];
}

pub pair_looked_at : (n low : ℕ) (ds : List ℕ) → 1 ≤ n → 1 ≤ low → AreDivisorsBelow n low ds → AreDivisorsBelow n (low + 1) (with_pair n low ds)
pair_looked_at n low ds some one h =
    cond_both (n % low == 0) ((ds ++ low ∷ []) ++ n / low ∷ []) ds (AreDivisorsBelow n (low + 1))
    (λ yes. pair_in n low ds some one (eqb-true (n % low) 0 yes) h)
    (λ never. none_in n low ds (eqb-false (n % low) 0 never) h)

-- above the root lie the counterparts of what lies below it
counterpart_is_low : (n root d : ℕ) → n < (root + 1) * (root + 1) → root + 1 ≤ d → n % d ≡ 0 → n / d < root + 1
counterpart_is_low n root d square high e =
    elim (cases_lt (n / d) (root + 1)) [
      | inl lt ↦ lt
      | inr ge ↦ absurd (omega (arith, square, mul-le-mul {n₁ = root + 1} {m₁ = root + 1} {n₂ = d} {m₂ = n / d} high ge, quotient_of n d e))
    ]

pub all_divisors : (n root low : ℕ) (ds : List ℕ) → 1 ≤ n → n < (root + 1) * (root + 1) → root + 1 ≤ low → AreDivisorsBelow n low ds → AreDivisors n ds
all_divisors n root low ds some square past h = record {
  some = h.some;
  sound = h.sound;
  complete = λ d p e.
      elim (cases_lt d (root + 1)) [
        | inl lt ↦ h.lows d p (omega (arith, lt, past)) e
        | inr ge ↦
            (let other : 1 ≤ n / d = some_factor n d (n / d) some (quotient_of n d e) in
            let low' : n / d < root + 1 = counterpart_is_low n root d square ge e in
            let back : n / (n / d) ≡ d = ap (λ v. v / (n / d)) (quotient_of n d e) ∙ mul-div_cancel d {n = n / d} (omega (arith, other)) in
            subst (λ v. Contains ds v) back (h.highs (n / d) other (omega (arith, low', past)) (counterpart n d e)))
      ];
}

-- the divisors in another order
pub divisors_moved : (n : ℕ) (ds es : List ℕ) → IsPermutation ds es → AreDivisors n ds → AreDivisors n es
divisors_moved n ds es moved h = record {
  some = All-permutation (λ d. 1 ≤ d) ds es moved h.some;
  sound = All-permutation (λ d. n % d ≡ 0) ds es moved h.sound;
  complete = λ d some e. Contains-permutation ds es d moved (h.complete d some e);
}

-- the greatest divisor within the period
pub record IsGreatest (base period g : ℕ) : Type 0 where
  pub some : 1 ≤ g
  pub within : g ≤ period
  pub divides : base % g ≡ 0
  pub greatest : (d : ℕ) → 1 ≤ d → d ≤ period → base % d ≡ 0 → d ≤ g

at_itself : (base p : ℕ) → base % suc p ≡ 0 → IsGreatest base (suc p) (suc p)
at_itself base p e = record {
  some = omega arith;
  within = omega arith;
  divides = e;
  greatest = λ d some within q. within;
}

at_lower : (base p : ℕ) → (base % suc p ≡ 0 → ⊥) → (1 ≤ p → IsGreatest base p (rounded base p)) → IsGreatest base (suc p) (rounded base p)
at_lower base zero never h = absurd (never (mod-one base))
at_lower base (suc p) never h =
    let below = h (omega arith) in
    record {
      some = below.some;
      within = omega (arith, below.within);
      divides = below.divides;
      greatest = λ d some within q.
          elim (cases_lt d (suc (suc p))) [
            | inl lt ↦ below.greatest d some (omega (arith, lt)) q
            | inr ge ↦ (let same : d ≡ suc (suc p) = omega (arith, ge, within) in absurd (never (subst (λ v. base % v ≡ 0) same q)))
          ];
    }

pub rounded_is : (base period : ℕ) → 1 ≤ period → IsGreatest base period (rounded base period)
unfolding rounded
rounded_is base zero some = absurd (omega (arith, some))
rounded_is base (suc p) some =
    cond_both (base % suc p == 0) (suc p) (rounded base p) (IsGreatest base (suc p))
    (λ yes. at_itself base p (eqb-true (base % suc p) 0 yes))
    (λ never. at_lower base p (eqb-false (base % suc p) 0 never) (λ one. rounded_is base p one))

-- the last of rising divisors that is at most the period
pub last_is_rounded : (n period i : ℕ) (ds : List ℕ) → AreDivisors n ds → IsNonDecreasing ds → i < length ds → get_or ds i 0 ≤ period
    → (i + 1 < length ds → period < get_or ds (i + 1) 0) → rounded n period ≡ get_or ds i 0
last_is_rounded n period i ds are rising lt within last =
    let some : 1 ≤ get_or ds i 0 = are.some i 0 lt in
    let is : IsGreatest n period (rounded n period) = rounded_is n period (omega (arith, some, within)) in
    let found = at_from_Contains ds (rounded n period) (are.complete (rounded n period) is.some is.divides) in
    let at : get_or ds found.0 0 ≡ rounded n period = found.2 0 in
    let up : get_or ds i 0 ≤ rounded n period = is.greatest (get_or ds i 0) some within (are.sound i 0 lt) in
    elim (cases_lt found.0 (i + 1)) [
      | inl below ↦ (let down : get_or ds found.0 0 ≤ get_or ds i 0 = rising found.0 i 0 (omega (arith, below)) lt in omega (arith, up, down, at))
      | inr above ↦
          (let next : get_or ds (i + 1) 0 ≤ get_or ds found.0 0 = rising (i + 1) found.0 0 above found.1 in
          absurd (omega (arith, last (omega (arith, above, found.1)), next, at, is.within)))
    ]
