-- Sums over lists.
use Rattle.std.proofs.Common.{◌≡◌, ℕ, List, [], ◌∷◌, All, sum_by, refl, arith}
use Rattle.std.proofs.lemmas.List.Elements.{All-head, All-tail}
use Rattle.std.proofs.lemmas.List.Sums.{sum_by-cons}

pub sum_by-agree : {A : Type 0} (f g : A → ℕ) (xs : List A) → All (λ x. f x ≡ g x) xs → sum_by f xs ≡ sum_by g xs
sum_by-agree f g [] same = refl
sum_by-agree f g (x ∷ xs) same =
    let first = All-head (λ y. f y ≡ g y) x xs same in
    let rest = sum_by-agree f g xs (All-tail (λ y. f y ≡ g y) x xs same) in
    omega (arith, sum_by-cons f x xs, sum_by-cons g x xs)

pub sum_of_none : (xs : List ℕ) → sum_by (λ (n : ℕ). 0) xs ≡ 0
sum_of_none [] = refl
sum_of_none (x ∷ xs) = omega (arith, sum_by-cons (λ (n : ℕ). 0) x xs, sum_of_none xs)
