-- Pieces that a byte joins.
use Rattle.std.proofs.Common.{◌≡◌, ◌++◌, ℕ, List, [], ◌∷◌, drop, map, refl, ap}
use Rattle.std.specs.List.{flat_map, join_with_byte}
use Rattle.std.proofs.lemmas.List.{append-nil}

-- each piece behind the byte
all_behind : (c : ℕ) (piece : List ℕ → List ℕ) (x : List ℕ) (xs : List (List ℕ))
    → flat_map (λ y. c ∷ piece y) (x ∷ xs) ≡ c ∷ join_with_byte c (map piece (x ∷ xs))
all_behind c piece x [] = ap (λ l. c ∷ l) (append-nil (piece x))
all_behind c piece x (y ∷ xs) = ap (λ l. c ∷ (piece x ++ l)) (all_behind c piece y xs)

-- Use: without the first of these bytes they are joined.
pub joined : (c : ℕ) (piece : List ℕ → List ℕ) (xs : List (List ℕ)) → drop 1 (flat_map (λ y. c ∷ piece y) xs) ≡ join_with_byte c (map piece xs)
joined c piece [] = refl
joined c piece (x ∷ xs) = ap (λ l. drop 1 l) (all_behind c piece x xs)
