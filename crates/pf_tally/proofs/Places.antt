-- What the slots in which a task runs say of its quanta.
use Rattle.std.proofs.Common.{◌≡◌, ℕ, zero, suc, ◌+◌, ◌<◌, ◌≤◌, Bool, true, false, nat_lt, cond, List, [], ◌∷◌, ◌++◌, length, take, get_or, count_by, All, AllPairs, ⊎_elim, refl, sym, ap, ap₂, ◌∙◌, subst, zero-add, arith, lt-ltb, le-ltb}
use Rattle.std.specs.List.Sorted.{IsNonDecreasingBy}
use Rattle.std.proofs.lemmas.Bool.{cases_Bool, cond-true, cond-false}
use Rattle.std.proofs.lemmas.List.Sums.{sum_by-cons}
use Rattle.pf_run.specs.Record.{Slot, runs, done}
use Rattle.pf_tally.specs.Quanta.{places_from, slots_of}

module _ {X : Type 0} (test : X → Bool) where
  kept_append : (b : Bool) (t : ℕ) (xs ys zs : List ℕ) → xs ≡ ys ++ zs → cond b (t ∷ xs) xs ≡ cond b (t ∷ ys) ys ++ zs
  kept_append true t xs ys zs e = ap (λ l. t ∷ l) e
  kept_append false t xs ys zs e = e

  pub places_push : (t n : ℕ) (xs : List X) (x : X) → t + length xs ≡ n →
      places_from test t (xs ++ x ∷ []) ≡ places_from test t xs ++ cond (test x) (n ∷ []) []
  places_push t n [] x e = let same : t ≡ n = omega arith in ap (λ k. cond (test x) (k ∷ []) []) same
  places_push t n (y ∷ ys) x e =
      kept_append (test y) t _ _ _ (places_push (t + 1) n ys x (omega arith))

  -- no place is below the first
  pub places_above : (t : ℕ) (xs : List X) → All (λ q. t ≤ q) (places_from test t xs)
  places_above t [] = λ k d within. absurd (omega arith)
  places_above t (x ∷ xs) = above_kept (test x) t (places_from test (t + 1) xs) (places_above (t + 1) xs)
    where
      above_kept : (b : Bool) (t : ℕ) (qs : List ℕ) → All (λ q. t + 1 ≤ q) qs → All (λ q. t ≤ q) (cond b (t ∷ qs) qs)
      above_kept true t qs all zero d within = omega arith
      above_kept true t qs all (suc k) d within = let h : t + 1 ≤ get_or qs k d = all k d (omega arith) in omega arith
      above_kept false t qs all k d within = let h : t + 1 ≤ get_or qs k d = all k d within in omega arith

  pub places_rise : (t : ℕ) (xs : List X) → IsNonDecreasingBy (λ q. q) (places_from test t xs)
  places_rise t [] = λ i j d before within. absurd (omega arith)
  places_rise t (x ∷ xs) = rise_kept (test x) t (places_from test (t + 1) xs) (places_above (t + 1) xs) (places_rise (t + 1) xs)
    where
      rise_kept : (b : Bool) (t : ℕ) (qs : List ℕ) → All (λ q. t + 1 ≤ q) qs → IsNonDecreasingBy (λ q. q) qs → IsNonDecreasingBy (λ q. q) (cond b (t ∷ qs) qs)
      rise_kept true t qs all up zero zero d before within = omega arith
      rise_kept true t qs all up zero (suc j) d before within = let h : t + 1 ≤ get_or qs j d = all j d (omega arith) in omega arith
      rise_kept true t qs all up (suc i) zero d before within = absurd (omega arith)
      rise_kept true t qs all up (suc i) (suc j) d before within = up i j d (omega arith) (omega arith)
      rise_kept false t qs all up i j d before within = up i j d before within

  -- no two places are the same
  pub places_apart : (t : ℕ) (xs : List X) → AllPairs (λ a b. a < b) (places_from test t xs)
  places_apart t [] = λ i j d before within. absurd (omega arith)
  places_apart t (x ∷ xs) = apart_kept (test x) t (places_from test (t + 1) xs) (places_above (t + 1) xs) (places_apart (t + 1) xs)
    where
      apart_kept : (b : Bool) (t : ℕ) (qs : List ℕ) → All (λ q. t + 1 ≤ q) qs → AllPairs (λ a b. a < b) qs → AllPairs (λ a b. a < b) (cond b (t ∷ qs) qs)
      apart_kept true t qs all up zero zero d before within = absurd (omega arith)
      apart_kept true t qs all up zero (suc j) d before within = let h : t + 1 ≤ get_or qs j d = all j d (omega arith) in omega arith
      apart_kept true t qs all up (suc i) zero d before within = absurd (omega arith)
      apart_kept true t qs all up (suc i) (suc j) d before within = up i j d (omega arith) (omega arith)
      apart_kept false t qs all up i j d before within = up i j d before within

  none_below : (u : ℕ) (qs : List ℕ) → All (λ q. u ≤ q) qs → count_by (λ q. nat_lt q u) qs ≡ 0
  none_below u [] all = refl
  none_below u (q ∷ qs) all =
      let here : u ≤ q = all 0 q (omega arith) in
      let no : nat_lt q u ≡ false = le-ltb q u here in
      omega (arith, sum_by-cons (λ q. cond (nat_lt q u) 1 0) q qs, cond-false {A = ℕ} (nat_lt q u) 1 0 no, none_below u qs (λ k d within. all (suc k) d (omega arith)))

  -- the places below u are those of the first elements
  pub places_below : (t u v : ℕ) (xs : List X) → t + u ≡ v → count_by (λ q. nat_lt q v) (places_from test t xs) ≡ count_by test (take u xs)
  places_below t zero v xs e = let P : ℕ → Type 0 = λ v. count_by (λ q. nat_lt q v) (places_from test t xs) ≡ 0 in
      let same : t ≡ v = omega arith in subst P same (none_below t (places_from test t xs) (places_above t xs))
  places_below t (suc u) v [] e = refl
  places_below t (suc u) v (x ∷ xs) e =
      let rest = places_below (t + 1) u v xs (omega arith) in
      let below : nat_lt t v ≡ true = lt-ltb t v (omega arith) in
      ⊎_elim
      (λ yes.
      ap (count_by (λ q. nat_lt q v)) (cond-true (test x) (t ∷ places_from test (t + 1) xs) (places_from test (t + 1) xs) yes)
      ∙ sum_by-cons (λ q. cond (nat_lt q v) 1 0) t (places_from test (t + 1) xs)
      ∙ ap₂ (λ a b. a + b) (cond-true {A = ℕ} (nat_lt t v) 1 0 below ∙ sym (cond-true {A = ℕ} (test x) 1 0 yes)) rest
      ∙ sym (sum_by-cons (λ x. cond (test x) 1 0) x (take u xs)))
      (λ no.
      ap (count_by (λ q. nat_lt q v)) (cond-false (test x) (t ∷ places_from test (t + 1) xs) (places_from test (t + 1) xs) no)
      ∙ rest
      ∙ sym (sum_by-cons (λ x. cond (test x) 1 0) x (take u xs) ∙ ap (λ a. a + count_by test (take u xs)) (cond-false {A = ℕ} (test x) 1 0 no) ∙ zero-add _))
      (cases_Bool (test x))

  pub length_places : (t : ℕ) (xs : List X) → length (places_from test t xs) ≡ count_by test xs
  length_places t [] = refl
  length_places t (x ∷ xs) = kept_length (test x) t (places_from test (t + 1) xs) (count_by test xs) (length_places (t + 1) xs) ∙ sym (sum_by-cons (λ x. cond (test x) 1 0) x xs)
    where
      kept_length : (b : Bool) (t : ℕ) (qs : List ℕ) (n : ℕ) → length qs ≡ n → length (cond b (t ∷ qs) qs) ≡ cond b 1 0 + n
      kept_length true t qs n e = omega (arith, e)
      kept_length false t qs n e = omega (arith, e)

-- how many of a rising list are below u
pub done_is : (r : List Slot) (task u : ℕ) → done r task u ≡ count_by (λ q. nat_lt q u) (slots_of r task)
unfolding done
done_is r task u = sym (places_below (runs task) 0 u u r (omega arith))
