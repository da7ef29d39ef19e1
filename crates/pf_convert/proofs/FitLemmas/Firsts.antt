-- The first of some tasks, and the others.
use Rattle.std.proofs.Common.{◌≡◌, ℕ, ◌+◌, ◌≤◌, List, [], ◌∷◌, take, drop, length, get_or, ap, arith}
use Rattle.std.proofs.lemmas.List.{take_all}

pub first_and_others : {X : Type 0} (xs : List X) (n : ℕ) (d : X) → 1 ≤ length xs → length xs ≤ n + 1 → get_or xs 0 d ∷ take n (drop 1 xs) ≡ xs
first_and_others [] n d some le = absurd (omega (arith, some))
first_and_others (x ∷ xs) n d some le = ap (λ ys. x ∷ ys) (take_all n xs (omega (arith, le)))
