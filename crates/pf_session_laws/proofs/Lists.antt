-- Fronts of lists.
use Rattle.std.proofs.Common.{◌≡◌, List, [], ◌∷◌, ◌++◌, map, refl, sym, ap, ap₂, inl, inr}
use Rattle.std.specs.Prelude.{◌⊎◌}

pub map_both : {A B : Type 0} (f : A → B) (a b : List A) → map f (a ++ b) ≡ map f a ++ map f b
map_both f [] b = refl
map_both f (x ∷ a) b = ap (λ (l : List _). f x ∷ l) (map_both f a b)

-- a front of two lists is one of the first, or the first and a front of the second
abbrev pub Parts : {A : Type 0} → List A → List A → List A → List A → Type 0
Parts {A} a b front rest = ((more : List A) × (a ≡ front ++ more)) ⊎ ((behind : List A) × (front ≡ a ++ behind) × (b ≡ behind ++ rest))

pub parts : {A : Type 0} (a b front rest : List A) → a ++ b ≡ front ++ rest → Parts a b front rest
parts [] b front rest is = inr (front, refl, is)
parts (x ∷ a) b [] rest is = inl (x ∷ a, refl)
parts (x ∷ a) b (y ∷ front) rest is =
    let same : x ≡ y = cc in
    let more : a ++ b ≡ front ++ rest = cc in
    by same (parts a b front rest more)
  where
    by : x ≡ y → Parts a b front rest → Parts (x ∷ a) b (y ∷ front) rest
    by same (inl p) = inl (p.0, ap₂ (λ (z : _) (l : List _). z ∷ l) same p.1)
    by same (inr p) = inr (p.0, ap₂ (λ (z : _) (l : List _). z ∷ l) (sym same) p.1, p.2)
