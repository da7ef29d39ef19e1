-- Digits and decimals, step by step.
use Rattle.std.proofs.Common.{◌≡◌, ℕ, zero, suc, ◌+◌, ◌-◌, ◌/◌, ◌%◌, ◌^◌, ◌<◌, ◌∙◌, List, [], ◌∷◌, ◌++◌, decimal, refl, sym, ap, arith, append-nil, append_assoc}
use Rattle.std.proofs.lemmas.Bool.{eq-eqb, ne_eqb}
use Rattle.pf_text.specs.Columns.Decimals.{last_digits, with_places, with_fewest_places}

pub no_digits : (xs : List ℕ) (k n : ℕ) → k ≡ 0 → xs ≡ xs ++ last_digits k n
unfolding last_digits
no_digits xs zero n e = sym (append-nil xs)
no_digits xs (suc k) n e = absurd (omega (arith, e))

pub digit_more : (k n : ℕ) → 0 < k → last_digits k n ≡ last_digits (k - 1) (n / 10) ++ (48 + n % 10) ∷ []
unfolding last_digits
digit_more zero n some = absurd (omega (arith, some))
digit_more (suc k) n some = let e : k ≡ suc k - 1 = omega arith in ap (λ v. last_digits v (n / 10) ++ (48 + n % 10) ∷ []) e

pub no_places : (k n : ℕ) → k ≡ 0 → decimal n ≡ with_fewest_places k n
unfolding with_fewest_places
no_places zero n e = refl
no_places (suc k) n e = absurd (omega (arith, e))

pub place_left_out : (k n : ℕ) → 0 < k → n % 10 ≡ 0 → with_fewest_places (k - 1) (n / 10) ≡ with_fewest_places k n
unfolding with_fewest_places
place_left_out zero n some e = absurd (omega (arith, some))
place_left_out (suc k) n some e = let less : suc k - 1 ≡ k = omega arith in rw (eq-eqb (n % 10) 0 e) (ap (λ v. with_fewest_places v (n / 10)) less)

pub places_told : (k n : ℕ) → 0 < k → (n % 10 ≡ 0 → ⊥) → with_places k n ≡ with_fewest_places k n
unfolding with_fewest_places
places_told zero n some e = absurd (omega (arith, some))
places_told (suc k) n some e = rw (ne_eqb (n % 10) 0 e) refl

pub whole_and_digits : (xs ys zs ws : List ℕ) (k n : ℕ) → ys ≡ xs ++ decimal (n / 10 ^ k) → zs ≡ ys ++ 46 ∷ [] → ws ≡ zs ++ last_digits k n → ws ≡ xs ++ with_places k n
unfolding with_places
whole_and_digits xs ys zs ws k n a b e =
    e ∙ ap (λ v. v ++ last_digits k n) (b ∙ ap (λ v. v ++ 46 ∷ []) a)
    ∙ append_assoc (xs ++ decimal (n / 10 ^ k)) (46 ∷ []) (last_digits k n)
    ∙ append_assoc xs (decimal (n / 10 ^ k)) (46 ∷ last_digits k n)
    ∙ ap (λ v. xs ++ v) (sym (append_assoc (decimal (n / 10 ^ k)) (46 ∷ []) (last_digits k n)))
