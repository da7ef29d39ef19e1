-- A line without the blanks at its end.
use Rattle.std.proofs.Common.{◌≡◌, ◌≢◌, ℕ, zero, suc, ◌-◌, ◌<◌, ◌≤◌, ◌==◌, List, [], ◌∷◌, ◌++◌, length, take, get_or, refl, sym, ap, ◌∙◌, append_assoc, arith}
use Rattle.std.proofs.lemmas.Bool.{cond-false, ne_eqb}
use Rattle.pf_lemmas.proofs.Lists.{take_last}
use Rattle.pf_chart.specs.Chart.{with_first, trimmed}

blank_behind : (xs : List ℕ) → trimmed (xs ++ 32 ∷ []) ≡ trimmed xs
blank_behind [] = refl
blank_behind (x ∷ xs) = ap (with_first x) (blank_behind xs)

kept_behind : (xs : List ℕ) (y : ℕ) → y ≢ 32 → trimmed (xs ++ y ∷ []) ≡ xs ++ y ∷ []
kept_behind [] y differ = cond-false (y == 32) [] (y ∷ []) (ne_eqb y 32 differ)
kept_behind (x ∷ xs) y differ = ap (with_first x) (kept_behind xs y differ) ∙ some xs
  where
    some : (zs : List ℕ) → with_first x (zs ++ y ∷ []) ≡ x ∷ (zs ++ y ∷ [])
    some [] = refl
    some (z ∷ zs) = refl

-- Use: a blank at the end is left out, and nothing where another one stands there.
pub blank_left_out : (xs : List ℕ) (end : ℕ) → 0 < end → end ≤ length xs → get_or xs (end - 1) 0 ≡ 32 → trimmed (take end xs) ≡ trimmed xs → trimmed (take (end - 1) xs) ≡ trimmed xs
blank_left_out xs end some within is same =
    sym (ap trimmed (take_last xs end some within ∙ ap (λ y. take (end - 1) xs ++ y ∷ []) is) ∙ blank_behind (take (end - 1) xs)) ∙ same

pub none_left_out : (xs : List ℕ) (end : ℕ) → 0 < end → end ≤ length xs → get_or xs (end - 1) 0 ≢ 32 → trimmed (take end xs) ≡ trimmed xs → take end xs ≡ trimmed xs
none_left_out xs end some within differ same =
    take_last xs end some within ∙ sym (kept_behind (take (end - 1) xs) (get_or xs (end - 1) 0) differ) ∙ sym (ap trimmed (take_last xs end some within)) ∙ same

pub all_left_out : (xs : List ℕ) (end : ℕ) → end ≤ 0 → trimmed (take end xs) ≡ trimmed xs → take end xs ≡ trimmed xs
all_left_out xs end none same =
    let z : end ≡ 0 = omega arith in
    ap (λ k. take k xs) z ∙ sym (ap (λ k. trimmed (take k xs)) z) ∙ same

-- three words, each with a number, one after another
pub three_words : (old a p b q c r : List ℕ) → ((old ++ (a ++ p)) ++ (b ++ q)) ++ (c ++ r) ≡ old ++ (a ++ p ++ b ++ q ++ c ++ r)
three_words old a p b q c r = simp append_assoc refl
