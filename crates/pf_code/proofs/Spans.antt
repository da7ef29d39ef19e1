-- The least span of some tasks, one task after another.
use Rattle.std.proofs.Common.{◌≡◌, ◌∙◌, ℕ, suc, zero, ◌+◌, ◌*◌, ◌/◌, ◌%◌, ◌<◌, ◌≤◌, ◌&&◌, Bool, true, false, cond, Some, List, [], ◌∷◌, ◌++◌, find, length, take, drop, get_or, refl, sym, ap, subst, arith, ⊎_elim}
use Rattle.std.specs.Int.{IsGcd, ◌∣◌}
use Rattle.std.specs.List.{range_with_len}
use Rattle.std.specs.Option.{unwrap_or}
use Rattle.std.proofs.Math.Nat.{one-dvd, dvd-add_iff_right, dvd-mod_iff, dvd-mul_right, div-add-mod, div-mul_cancel, dvd-mul_right_of_dvd, mul-dvd-mul_left, mul-dvd-mul_right, dvd_of_mul-dvd-mul_left}
use Rattle.std.proofs.lemmas.Bool.{cases_Bool, cases_lt, eqb-true, eq-eqb, and_parts}
use Rattle.std.proofs.lemmas.List.{take-append-drop, take_more}
use Rattle.std.proofs.lemmas.List.Folds.{list_all-append}
use Rattle.std.proofs.lemmas.Nat.Gcd.{IsGcd-from_zero, dvd_trans, le_of_dvd, dvd_of_mod-eq-zero, mod-eq-zero_of_dvd, same_from_IsGcd}
use Rattle.pf_weight.specs.Share.{Share, IsShare}
use Rattle.pf_run.specs.Inside.{Joined}
use Rattle.pf_code.specs.Span.{IsLeastMultiple, are_owed_whole, is_owed_whole, least_span}

-- so many slots are owed whole by each task, and divide all others that are
pub record IsLeastSpan (tasks : List Joined) (span : ℕ) : Type 0 where
  pub some : 1 ≤ span
  pub whole : are_owed_whole tasks span ≡ true
  pub least : (k : ℕ) → are_owed_whole tasks k ≡ true → span ∣ k

-- what is owed whole, as a division
owed_to_dvd : (k : ℕ) (w : Share) → is_owed_whole k w ≡ true → w.period ∣ w.cost * k
owed_to_dvd k w is = dvd_of_mod-eq-zero w.period (eqb-true (w.cost * k % w.period) 0 is)

owed_from_dvd : (k : ℕ) (w : Share) → w.period ∣ w.cost * k → is_owed_whole k w ≡ true
owed_from_dvd k w is = eq-eqb (w.cost * k % w.period) 0 (mod-eq-zero_of_dvd w.period is)

-- a multiple of what is owed whole is
owed_more : (k n : ℕ) (w : Share) → k ∣ n → is_owed_whole k w ≡ true → is_owed_whole n w ≡ true
owed_more k n w of_k is = owed_from_dvd n w (dvd_trans w.period (owed_to_dvd k w is) (mul-dvd-mul_left k w.cost of_k))

all_owed_more : (k n : ℕ) (tasks : List Joined) → k ∣ n → are_owed_whole tasks k ≡ true → are_owed_whole tasks n ≡ true
all_owed_more k n [] of_k is = refl
all_owed_more k n (j ∷ js) of_k is =
    let parts = and_parts (is_owed_whole k j.weight) (are_owed_whole js k) is in
    ap (λ b. b && are_owed_whole js n) (owed_more k n j.weight of_k parts.0) ∙ all_owed_more k n js of_k parts.1

-- what divides a * c and b * c divides g * c
scaled_by : (n a b g c p : ℕ) → b < n → IsGcd a b g → p ∣ a * c → p ∣ b * c → p ∣ g * c
scaled_by zero a b g c p lt is of_a of_b = absurd (omega (arith, lt))
scaled_by (suc n) a zero g c p lt is of_a of_b = subst (λ k. p ∣ k * c) (same_from_IsGcd a 0 a g (IsGcd-from_zero a 0 refl) is) of_a
scaled_by (suc n) a (suc b) g c p lt is of_a of_b =
    let rest = a % suc b in
    let times = a / suc b in
    let parts : suc b * c * times + rest * c ≡ a * c = omega (arith, ap (λ k. k * c) (div-add-mod a (suc b))) in
    let of_rest : p ∣ rest * c = (dvd-add_iff_right p (dvd-mul_right_of_dvd p of_b times)).1 (subst (λ k. p ∣ k) (sym parts) of_a) in
    scaled_by n (suc b) rest g c p (omega (arith, lt))
    (is.1, (dvd-mod_iff g is.1).1 is.0, λ d of_b of_rest. is.2 d ((dvd-mod_iff d of_b).0 of_rest) of_b) of_b of_rest

gcd_scaled : (a b g c p : ℕ) → IsGcd a b g → p ∣ a * c → p ∣ b * c → p ∣ g * c
gcd_scaled a b g c p is of_a of_b = scaled_by (suc b) a b g c p (omega arith) is of_a of_b

pub none_yet : IsLeastSpan [] 1
none_yet = record { some = omega arith; whole = refl; least = λ k is. one-dvd k }

-- one task more
pub one_more : (tasks : List Joined) (j : Joined) (span multiple : ℕ) → IsLeastSpan tasks span → IsLeastMultiple span j.weight multiple →
    IsLeastSpan (tasks ++ j ∷ []) multiple
one_more tasks j span multiple is more = record {
  some = more.some;
  whole = list_all-append (λ (i : Joined). is_owed_whole multiple i.weight) tasks (j ∷ [])
      ∙ ap (λ b. b && (is_owed_whole multiple j.weight && true)) (all_owed_more span multiple tasks more.of_span is.whole)
      ∙ ap (λ b. b && true) more.whole;
  least = λ k owed.
      let both = and_parts (are_owed_whole tasks k) (is_owed_whole k j.weight && true) (sym (list_all-append (λ (i : Joined). is_owed_whole k i.weight) tasks (j ∷ [])) ∙ owed) in
      let own = and_parts (is_owed_whole k j.weight) true both.1 in
      more.least k (is.least k both.0) own.0;
}

positive : (a b c : ℕ) → a * b ≡ c → 1 ≤ c → 1 ≤ a
positive zero b c e le = absurd (omega (arith, e, le))
positive (suc a) b c e le = omega arith

product_some : (a b : ℕ) → 1 ≤ a → 1 ≤ b → 1 ≤ a * b
product_some zero b p q = absurd (omega (arith, p))
product_some (suc a) zero p q = absurd (omega (arith, q))
product_some (suc a) (suc b) p q = omega arith

-- the least multiple by the greatest common divisor
module _ (span g : ℕ) (w : Share) (share : IsShare w) (some : 1 ≤ span) (gcd : IsGcd (w.cost * span) w.period g) where
  abbrev q : ℕ
  q = w.period / g

  parts : q * g ≡ w.period
  parts = div-mul_cancel g gcd.1

  real : 1 ≤ w.period
  real = omega (arith, share.some, share.within)

  some_q : 1 ≤ q
  some_q = positive q g w.period parts real

  some_g : 1 ≤ g
  some_g = positive g q w.period (omega (arith, parts)) real

  whole : is_owed_whole (span * q) w ≡ true
  whole =
      owed_from_dvd (span * q) w
      (subst (λ n. w.period ∣ n) (let e : w.cost * span * q ≡ w.cost * (span * q) = omega arith in e)
      (subst (λ n. n ∣ w.cost * span * q) (let e : g * q ≡ w.period = omega (arith, parts) in e) (mul-dvd-mul_right g gcd.0 q)))

  least : (k : ℕ) → span ∣ k → is_owed_whole k w ≡ true → span * q ∣ k
  least k of_span owed =
      let c : ℕ = k / span in
      let is : c * span ≡ k = div-mul_cancel span of_span in
      let e : w.cost * k ≡ w.cost * span * c = omega (arith, ap (λ n. w.cost * n) is) in
      let of_both : w.period ∣ g * c = gcd_scaled (w.cost * span) w.period g c w.period gcd (subst (λ n. w.period ∣ n) e (owed_to_dvd k w owed)) (dvd-mul_right w.period c) in
      let of_c : q ∣ c = dvd_of_mul-dvd-mul_left q some_g (subst (λ n. n ∣ g * c) (let f : w.period ≡ g * q = omega (arith, parts) in f) of_both) in
      subst (λ n. span * q ∣ n) (let f : span * c ≡ k = omega (arith, is) in f) (mul-dvd-mul_left q span of_c)

  pub multiple_is : IsLeastMultiple span w (span * (w.period / g))
  multiple_is = record { some = product_some span q some some_q; of_span = dvd-mul_right span q; whole = whole; least = least }

-- a divisor of some is one
pub divisor_some : (a b g : ℕ) → IsGcd a b g → 1 ≤ b → 0 < g
divisor_some a b g is some = positive g (b / g) b (omega (arith, div-mul_cancel g is.1)) some

-- Use: one task further.
pub span_next : (tasks : List Joined) (i : ℕ) (j : Joined) (span multiple : ℕ) → i < length tasks → j ≡ get_or tasks i j →
    IsLeastSpan (take i tasks) span → IsLeastMultiple span j.weight multiple → IsLeastSpan (take (i + 1) tasks) multiple
span_next tasks i j span multiple lt at is more =
    subst (λ js. IsLeastSpan js multiple) (sym (take_more tasks i j lt ∙ ap (λ x. take i tasks ++ x ∷ []) (sym at)))
    (one_more (take i tasks) j span multiple is more)

-- Use: a span of some of the tasks is within the base.
pub span_within : (base : ℕ) (tasks : List Joined) (i span : ℕ) → 1 ≤ base → are_owed_whole tasks base ≡ true → IsLeastSpan (take i tasks) span → span ≤ base
span_within base tasks i span some whole is =
    let parts = and_parts (are_owed_whole (take i tasks) base) (are_owed_whole (drop i tasks) base)
    (sym (list_all-append (λ (j : Joined). is_owed_whole base j.weight) (take i tasks) (drop i tasks))
    ∙ ap (λ js. are_owed_whole js base) (take-append-drop i tasks) ∙ whole) in
    le_of_dvd some (is.least base parts.0)

-- the first of these numbers that does, where one does and none below it
find_first : {p : ℕ → Bool} (a n k : ℕ) → a ≤ k → k < a + n → p k ≡ true → ((i : ℕ) → i < k → a ≤ i → p i ≡ false) → find p (range_with_len a n) ≡ Some k
find_first a zero k le lt is none = absurd (omega (arith, le, lt))
find_first {p} a (suc n) k le lt is none = ⊎_elim
    (λ (below : a < k).
    ap (λ b. cond b (Some a) (find p (range_with_len (a + 1) n))) (none a below (omega arith))
    ∙ find_first (a + 1) n k (omega (arith, below)) (omega (arith, lt)) is (λ i before after. none i before (omega (arith, after))))
    (λ (above : k ≤ a).
    let same : a ≡ k = omega (arith, le, above) in
    ap (λ b. cond b (Some a) (find p (range_with_len (a + 1) n))) (ap p same ∙ is) ∙ ap Some same)
    (cases_lt a k)

-- Use: a least span is the one that is sought.
pub span_is : (base : ℕ) (tasks : List Joined) (span : ℕ) → 1 ≤ base → are_owed_whole tasks base ≡ true → IsLeastSpan tasks span → span ≡ least_span base tasks
span_is base tasks span some whole is =
    let within : span ≤ base = le_of_dvd (omega (arith, some)) (is.least base whole) in
    sym (ap (λ o. unwrap_or o base) (find_first 1 base span is.some (omega (arith, within)) is.whole (λ i before after. none i before after)))
  where
    none : (i : ℕ) → i < span → 1 ≤ i → are_owed_whole tasks i ≡ false
    none i before after = ⊎_elim
        (λ yes. let le = le_of_dvd (omega (arith, after)) (is.least i yes) in absurd (omega (arith, le, before)))
        (λ no. no)
        (cases_Bool (are_owed_whole tasks i))
