-- Functions that rise from each number to the next.
use Rattle.std.proofs.Common.{◌≡◌, ℕ, zero, suc, ◌+◌, ◌<◌, ◌≤◌, arith, ap, ⊎_elim}
use Rattle.std.proofs.lemmas.Bool.{cases_lt}

-- what never falls doesn't fall from a to b ..
pub rises : (f : ℕ → ℕ) → ((n : ℕ) → f n ≤ f (suc n)) → (a b : ℕ) → a ≤ b → f a ≤ f b
rises f up a zero le = let same : a ≡ 0 = omega (arith, le) in omega (arith, ap f same)
rises f up a (suc b) le = ⊎_elim
    (λ (below : a < suc b). omega (arith, rises f up a b (omega (arith, below)), up b))
    (λ (above : suc b ≤ a). let same : a ≡ suc b = omega (arith, le, above) in omega (arith, ap f same))
    (cases_lt a (suc b))

-- .. and what always rises does so by b - a at least
pub climbs : (f : ℕ → ℕ) → ((n : ℕ) → f n < f (suc n)) → (a b : ℕ) → a ≤ b → f a + b ≤ f b + a
climbs f up a zero le = let same : a ≡ 0 = omega (arith, le) in omega (arith, ap f same, same)
climbs f up a (suc b) le = ⊎_elim
    (λ (below : a < suc b). omega (arith, climbs f up a b (omega (arith, below)), up b))
    (λ (above : suc b ≤ a). let same : a ≡ suc b = omega (arith, le, above) in omega (arith, ap f same, same))
    (cases_lt a (suc b))
