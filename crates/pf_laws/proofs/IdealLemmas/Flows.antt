-- What an ideal run of constant rate gives the subtasks of a task: to each in turn, once its offset is reached, all that
-- the task asks for, until it has its quantum. It gives at most at its rate.
use Rattle.std.proofs.Common.{◌≡◌, ℕ, zero, suc, ◌+◌, ◌-◌, ◌<◌, ◌≤◌, Bool, true, false, min, if◌then◌else◌, arith, refl, ap, sym, subst, ⊎_elim}
use Rattle.std.proofs.lemmas.Bool.{cases_Bool}

-- each subtask's quantum of h parts begins no sooner than that of the one before ends
abbrev pub AreSpaced : ℕ → (ℕ → ℕ) → Type 0
AreSpaced h offset = (i : ℕ) → offset i + h ≤ offset (suc i)

-- what the members among the n subtasks from i on have had where the task has asked for x
unfoldable pub flow : ℕ → (ℕ → ℕ) → (ℕ → Bool) → ℕ → ℕ → ℕ → ℕ
flow h offset member x i zero = 0
flow h offset member x i (suc n) = (if member i then min h (x - offset i) else 0) + flow h offset member x (suc i) n

bound_one : (h a x b f : ℕ) (m : Bool) → a + h ≤ b → f ≤ x - b → (if m then min h (x - a) else 0) + f ≤ x - a
bound_one h a x b f true gap rest = omega arith
bound_one h a x b f false gap rest = omega arith

pub flow-bound : (h : ℕ) (offset : ℕ → ℕ) (member : ℕ → Bool) (x i n : ℕ) → AreSpaced h offset → flow h offset member x i n ≤ x - offset i
unfolding flow
flow-bound h offset member x i zero spaced = omega arith
flow-bound h offset member x i (suc n) spaced =
    bound_one h (offset i) x (offset (suc i)) (flow h offset member x (suc i) n) (member i) (spaced i)
    (flow-bound h offset member x (suc i) n spaced)

rate_one : (h a x y b f g : ℕ) (m : Bool) → a + h ≤ b → x ≤ y → g ≤ y - b → g ≤ f + (y - x) →
    (if m then min h (y - a) else 0) + g ≤ (if m then min h (x - a) else 0) + f + (y - x)
rate_one h a x y b f g true gap up most more = omega arith
rate_one h a x y b f g false gap up most more = omega arith

pub flow-rate : (h : ℕ) (offset : ℕ → ℕ) (member : ℕ → Bool) (x y i n : ℕ) → AreSpaced h offset → x ≤ y →
    flow h offset member y i n ≤ flow h offset member x i n + (y - x)
unfolding flow
flow-rate h offset member x y i zero spaced up = omega arith
flow-rate h offset member x y i (suc n) spaced up =
    rate_one h (offset i) x y (offset (suc i)) (flow h offset member x (suc i) n) (flow h offset member y (suc i) n) (member i) (spaced i) up
    (flow-bound h offset member y (suc i) n spaced) (flow-rate h offset member x y (suc i) n spaced up)

-- members whose offsets are z or more have had no more than was given after z
pub flow-late : (h : ℕ) (offset : ℕ → ℕ) (member : ℕ → Bool) (x z i n : ℕ) → AreSpaced h offset →
    ((j : ℕ) → i ≤ j → j < n + i → member j ≡ true → z ≤ offset j) → flow h offset member x i n ≤ x - z
unfolding flow
flow-late h offset member x z i zero spaced late = omega arith
flow-late h offset member x z i (suc n) spaced late = ⊎_elim
    (λ (m : member i ≡ true). omega (arith, flow-bound h offset member x i (suc n) spaced, late i (omega arith) (omega arith) m))
    (λ (m : member i ≡ false).
    let rest : flow h offset member x (suc i) n ≤ x - z =
    flow-late h offset member x z (suc i) n spaced (λ j from upto. late j (omega (arith, from)) (omega (arith, upto))) in
    subst (λ b. (if b then min h (x - offset i) else 0) + flow h offset member x (suc i) n ≤ x - z) (sym m) (omega (arith, rest)))
    (cases_Bool (member i))

-- where each member has no more at y than at x, all have not
pub flow-still : (h : ℕ) (offset : ℕ → ℕ) (member : ℕ → Bool) (x y i n : ℕ) →
    ((j : ℕ) → i ≤ j → j < n + i → member j ≡ true → min h (y - offset j) ≤ min h (x - offset j)) →
    flow h offset member y i n ≤ flow h offset member x i n
unfolding flow
flow-still h offset member x y i zero still = omega arith
flow-still h offset member x y i (suc n) still =
    let rest : flow h offset member y (suc i) n ≤ flow h offset member x (suc i) n =
    flow-still h offset member x y (suc i) n (λ j from upto. still j (omega (arith, from)) (omega (arith, upto))) in
    still_one (member i) (min h (y - offset i)) (min h (x - offset i)) (flow h offset member y (suc i) n) (flow h offset member x (suc i) n)
    (still i (omega arith) (omega arith)) rest where
      still_one : (b : Bool) (p q f g : ℕ) → (b ≡ true → p ≤ q) → f ≤ g → (if b then p else 0) + f ≤ (if b then q else 0) + g
      still_one true p q f g le rest = omega (arith, le refl, rest)
      still_one false p q f g le rest = omega (arith, rest)

-- members that have had their quantum by z get no more than z - x from x on
pub flow-early : (h : ℕ) (offset : ℕ → ℕ) (member : ℕ → Bool) (x y z i n : ℕ) → AreSpaced h offset → x ≤ z →
    ((j : ℕ) → i ≤ j → j < n + i → member j ≡ true → offset j + h ≤ z) →
    flow h offset member y i n ≤ flow h offset member x i n + (z - x)
flow-early h offset member x y z i n spaced up early =
    let still : flow h offset member y i n ≤ flow h offset member z i n =
    flow-still h offset member z y i n (λ j from upto m. omega (arith, early j from upto m)) in
    omega (arith, still, flow-rate h offset member x z i n spaced up)

-- in two parts
pub flow-plus : (h : ℕ) (offset : ℕ → ℕ) (member : ℕ → Bool) (x i m n : ℕ) →
    flow h offset member x i (m + n) ≡ flow h offset member x i m + flow h offset member x (m + i) n
unfolding flow
flow-plus h offset member x i zero n =
    omega (arith, ap (λ k. flow h offset member x i k) (plus n), ap (λ k. flow h offset member x k n) (plus i)) where
      plus : (k : ℕ) → 0 + k ≡ k
      plus k = omega arith
flow-plus h offset member x i (suc m) n =
    omega (
      arith,
      flow-plus h offset member x (suc i) m n,
      ap (λ k. flow h offset member x i k) (suc_plus m n),
      ap (λ k. flow h offset member x k n) (move m i),
    ) where
      suc_plus : (a b : ℕ) → suc a + b ≡ suc (a + b)
      suc_plus a b = omega arith

      move : (a b : ℕ) → suc a + b ≡ a + suc b
      move a b = omega arith
