-- Lists by their places, and what is appended to them.
use Rattle.std.proofs.Common.{◌≡◌, ◌∙◌, ℕ, zero, suc, ◌+◌, ◌-◌, ◌<◌, ◌≤◌, List, [], ◌∷◌, ◌++◌, length, take, drop, get_or, append_assoc, refl, sym, ap, subst, arith}
use Rattle.std.specs.Prelude.{slice_index_or}
use Rattle.std.specs.List.{slice_range}
use Rattle.std.proofs.lemmas.List.{get_or-drop, length-drop, take_more}

pub none_long : {X : Type 0} (xs : List X) → length xs ≡ 0 → xs ≡ []
none_long [] e = refl
none_long (x ∷ xs) e = absurd (omega (arith, e))

-- at a place within, what else would stand there doesn't matter
pub at_any : {X : Type 0} (xs : List X) (k : ℕ) (d e : X) → k < length xs → slice_index_or xs k d ≡ slice_index_or xs k e
at_any [] k d e lt = absurd (omega arith)
at_any (x ∷ xs) zero d e lt = refl
at_any (x ∷ xs) (suc k) d e lt = at_any xs k d e (omega arith)

-- the first `end` elements, the last of which is at end - 1
pub take_last : (xs : List ℕ) (end : ℕ) → 0 < end → end ≤ length xs → take end xs ≡ take (end - 1) xs ++ get_or xs (end - 1) 0 ∷ []
take_last xs end some within =
    subst (λ v. take v xs ≡ take (end - 1) xs ++ get_or xs (end - 1) 0 ∷ []) (omega (arith, some)) (take_more xs (end - 1) 0 (omega (arith, some, within)))

pub nothing_between : (text : List ℕ) (n : ℕ) → slice_range text n n ≡ []
nothing_between text n = let none : n - n ≡ 0 = omega arith in ap (λ k. take k (drop n text)) none

pub longer : (text : List ℕ) (start end : ℕ) → start ≤ end → end < length text → slice_range text start end ++ get_or text end 0 ∷ [] ≡ slice_range text start (end + 1)
longer text start end begun lt =
    let rest = drop start text in
    let n = end - start in
    let within : n < length rest = omega (arith, length-drop start text, begun, lt) in
    let there : start + n ≡ end = omega (arith, begun) in
    let grown : n + 1 ≡ end + 1 - start = omega (arith, begun) in
    ap (λ b. take n rest ++ b ∷ []) (ap (λ k. get_or text k 0) (sym there) ∙ sym (get_or-drop start text n 0))
    ∙ sym (take_more rest n 0 within) ∙ ap (λ k. take k rest) grown

pub two_written : (xs a b ys zs : List ℕ) → ys ≡ xs ++ a → zs ≡ ys ++ b → zs ≡ xs ++ (a ++ b)
two_written xs a b ys zs p q = q ∙ ap (λ v. v ++ b) p ∙ append_assoc xs a b

pub three_written : (xs a b c ys zs ws : List ℕ) → ys ≡ xs ++ a → zs ≡ ys ++ b → ws ≡ zs ++ c → ws ≡ xs ++ (a ++ b ++ c)
three_written xs a b c ys zs ws p q r = two_written xs (a ++ b) c zs ws (two_written xs a b ys zs p q) r
