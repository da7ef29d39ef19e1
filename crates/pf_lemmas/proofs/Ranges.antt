-- Numbers in a row, and what is made of each.
use Rattle.std.proofs.Common.{◌≡◌, ◌∙◌, ℕ, zero, suc, ◌+◌, ◌<◌, ◌≤◌, List, [], ◌∷◌, ◌++◌, Contains, refl, sym, ap, ap₂, arith}
use Rattle.std.specs.List.{flat_map, range_with_len}
use Rattle.std.proofs.lemmas.List.{flat_map_more, map-id}
use Rattle.std.proofs.lemmas.List.Concat.{flat_map-cons}
use Rattle.std.proofs.lemmas.List.FromFn.{get_or-range_with_len, length-range_with_len, map-range_with_len_more}

pub range_more : (a n : ℕ) → range_with_len a (n + 1) ≡ range_with_len a n ++ (a + n) ∷ []
range_more a n = sym (map-id (range_with_len a (n + 1))) ∙ map-range_with_len_more (λ x. x) a n (a + n) refl ∙ ap (λ xs. xs ++ (a + n) ∷ []) (map-id (range_with_len a n))

pub in_range : (n i : ℕ) → i < n → Contains (range_with_len 1 n) (suc i)
in_range n i lt = (i, omega (arith, lt, length-range_with_len 1 n), omega (arith, get_or-range_with_len 1 n i (suc i) lt))

-- one number further
pub number_next : (f : ℕ → List ℕ) (p : ℕ) (old before after : List ℕ) → after ≡ before ++ f p → before ≡ old ++ flat_map f (range_with_len 0 p) →
    after ≡ old ++ flat_map f (range_with_len 0 (p + 1))
number_next f p old before after push so_far =
    push ∙ ap (λ t. t ++ f p) so_far ∙ flat_map_more f old (range_with_len 0 p) p
    ∙ ap (λ q. old ++ flat_map f (range_with_len 0 p ++ q ∷ [])) (let z : p ≡ 0 + p = omega arith in z)
    ∙ ap (λ ps. old ++ flat_map f ps) (sym (range_more 0 p))

-- what agrees from the first number on makes the same
pub flat_map_agree : {X : Type 0} (f g : ℕ → List X) (a k : ℕ) → ((i : ℕ) → a ≤ i → f i ≡ g i) →
    flat_map f (range_with_len a k) ≡ flat_map g (range_with_len a k)
flat_map_agree f g a zero same = refl
flat_map_agree f g a (suc k) same =
    flat_map-cons f a (range_with_len (a + 1) k)
    ∙ ap₂ (λ xs ys. xs ++ ys) (same a (omega arith)) (flat_map_agree f g (a + 1) k (λ i above. same i (omega (arith, above))))
    ∙ sym (flat_map-cons g a (range_with_len (a + 1) k))
