-- What the steps of a slot cost, in comparisons.
use Rattle.std.proofs.Common.{◌≡◌, ℕ, suc, ◌+◌, ◌*◌, ◌≤◌, ap, ◌∙◌, arith}
use Rattle.std.proofs.Math.Nat.{mul-le-mul, suc-mul}
use Rattle.pf_order.specs.Counts.{Counts, Compares}
use Rattle.pf_order.proofs.Comparing.{compares_none, compares_within, compares_both}
use Rattle.pf_heap.specs.Digits.{digits}
use Rattle.pf_heap.proofs.Digits.{digits-mono}

-- one turn more
pub one_more : (i x : ℕ) → (i + 1) * x ≡ i * x + x
one_more i x = ap (λ n. n * x) (let e : i + 1 ≡ suc i = omega arith in e) ∙ suc-mul i x

pub turn : (i x y : ℕ) {c d e : Counts} → y ≤ x → Compares (i * x) c d → Compares y d e → Compares ((i + 1) * x) c e
turn i x y within far more = compares_within (omega (arith, one_more i x, within)) (compares_both far more)

-- as many turns as there may be
pub turns : (i n x : ℕ) {c d : Counts} → i ≤ n → Compares (i * x) c d → Compares (n * x) c d
turns i n x few far = compares_within (mul-le-mul few (let e : x ≤ x = omega arith in e)) far

pub none_made : (n : ℕ) (c : Counts) → Compares n c c
none_made n c = compares_within (omega arith) (compares_none c)

pub two_of : (n m : ℕ) → n ≤ m → 2 * digits n ≤ 2 * digits m
two_of n m few = mul-le-mul (let e : 2 ≤ 2 = omega arith in e) (digits-mono n m few)

-- a key is taken out
pub out_made : {n m : ℕ} {c d : Counts} → n ≤ m → Compares (2 * digits n) c d → Compares (3 * digits m) c d
out_made {n} {m} few made = compares_within (omega (arith, digits-mono n m few)) made

-- a key is taken out and another put
pub both_made : {n k m : ℕ} {c d e : Counts} → n ≤ m → k ≤ m → Compares (2 * digits n) c d → Compares (digits k) d e → Compares (3 * digits m) c e
both_made {n} {k} {m} few less out put =
    compares_within (omega (arith, digits-mono n m few, digits-mono k m less)) (compares_both out put)

pub three_of : (n m : ℕ) → n ≤ m → 3 * digits n ≤ 3 * digits m
three_of n m few = mul-le-mul (let e : 3 ≤ 3 = omega arith in e) (digits-mono n m few)

-- ---- a slot

sum_of : (g c d : ℕ) → g * (3 * d) + (1 * d + (c * (2 * d) + c * d)) ≤ (4 * c + 2 + 4 * g) * d
sum_of g c d = grind arith

-- a slot of g events in which c processors are in use
pub slot_made : (g c lists keys held longer tasks n : ℕ) {k l m o p : Counts} → lists ≤ 1 → keys ≤ c → held ≤ n → longer ≤ n → tasks ≤ n →
    Compares (g * (3 * digits n)) k l → Compares (lists * digits held) l m → Compares (c * (2 * digits longer)) m o → Compares (keys * digits tasks) o p →
    Compares ((4 * c + 2 + 4 * g) * digits n) k p
slot_made g c lists keys held longer tasks n one few held_in longer_in tasks_in events due chosen put =
    compares_within (sum_of g c (digits n))
    (compares_both events
    (compares_both (compares_within (mul-le-mul one (digits-mono held n held_in)) due)
    (compares_both (compares_within (mul-le-mul (let e : c ≤ c = omega arith in e) (two_of longer n longer_in)) chosen)
    (compares_within (mul-le-mul few (digits-mono tasks n tasks_in)) put))))
