-- Sums and counts over tasks.
use Rattle.std.proofs.Common.{◌≡◌, ℕ, ◌+◌, ◌*◌, ◌≤◌, ◌==◌, Bool, true, false, cond, List, [], ◌∷◌, sum_by, count_by, arith, refl, ap, subst, ⊎_elim}
use Rattle.std.specs.List.{list_any}
use Rattle.std.proofs.lemmas.Bool.{cases_Bool, or_cases, or_left, or_right, eqb-true, false≢true}
use Rattle.std.proofs.lemmas.List.Sums.{sum_by-cons}

-- what a test that passes counts for
abbrev pub one : Bool → ℕ
one b = cond b 1 0

pub one-mono : (a b : Bool) → (a ≡ true → b ≡ true) → one a ≤ one b
one-mono true true imp = omega arith
one-mono true false imp = absurd (false≢true (imp refl))
one-mono false true imp = omega arith
one-mono false false imp = omega arith

pub sum_by-mono : (f g : ℕ → ℕ) (xs : List ℕ) → ((x : ℕ) → f x ≤ g x) → sum_by f xs ≤ sum_by g xs
sum_by-mono f g [] le = omega arith
sum_by-mono f g (x ∷ xs) le = omega (arith, sum_by-cons f x xs, sum_by-cons g x xs, le x, sum_by-mono f g xs le)

pub sum_by-plus : (f g : ℕ → ℕ) (xs : List ℕ) → sum_by (λ x. f x + g x) xs ≡ sum_by f xs + sum_by g xs
sum_by-plus f g [] = omega arith
sum_by-plus f g (x ∷ xs) =
    omega (arith, sum_by-cons (λ y. f y + g y) x xs, sum_by-cons f x xs, sum_by-cons g x xs, sum_by-plus f g xs)

pub sum_by-times : (k : ℕ) (f : ℕ → ℕ) (xs : List ℕ) → sum_by (λ x. k * f x) xs ≡ k * sum_by f xs
sum_by-times k f [] = omega arith
sum_by-times k f (x ∷ xs) =
    omega (arith, sum_by-cons (λ y. k * f y) x xs, ap (λ n. k * n) (sum_by-cons f x xs), sum_by-times k f xs)

pub count_by-mono : (p q : ℕ → Bool) (xs : List ℕ) → ((x : ℕ) → p x ≡ true → q x ≡ true) →
    count_by p xs ≤ count_by q xs
count_by-mono p q xs imp = sum_by-mono (λ x. one (p x)) (λ x. one (q x)) xs (λ x. one-mono (p x) (q x) (imp x))

-- where some are counted, one passes
pub count_by-found : (p : ℕ → Bool) (xs : List ℕ) → 1 ≤ count_by p xs → (x : ℕ) × (p x ≡ true)
count_by-found p [] some = absurd (omega (arith, some))
count_by-found p (x ∷ xs) some = ⊎_elim (λ (here : p x ≡ true). (x, here))
    (λ (not : p x ≡ false).
    count_by-found p xs (omega (arith, some, sum_by-cons (λ y. one (p y)) x xs, ap (λ b. one b) not)))
    (cases_Bool (p x))

pub list_any-found : (p : ℕ → Bool) (xs : List ℕ) → list_any p xs ≡ true → (x : ℕ) × (p x ≡ true)
list_any-found p [] h = absurd (false≢true h)
list_any-found p (x ∷ xs) h = ⊎_elim (λ a. (x, a)) (λ b. list_any-found p xs b) (or_cases (p x) (list_any p xs) h)

pub list_any-at : (p : ℕ → Bool) (t : ℕ) (xs : List ℕ) → list_any (λ u. t == u) xs ≡ true → p t ≡ true →
    list_any p xs ≡ true
list_any-at p t [] known h = absurd (false≢true known)
list_any-at p t (x ∷ xs) known h = ⊎_elim
    (λ a. or_left (p x) (list_any p xs) (subst (λ y. p y ≡ true) (eqb-true t x a) h))
    (λ b. or_right (p x) (list_any p xs) (list_any-at p t xs b h))
    (or_cases (t == x) (list_any (λ u. t == u) xs) known)
