-- How many trees there are, and how many comparisons it takes to have fewer: as many as two numbers carry when they are
-- added in base two.
use Rattle.std.proofs.Common.{◌≡◌, ℕ, zero, suc, ◌+◌, ◌-◌, ◌*◌, ◌/◌, ◌%◌, ◌^◌, ◌<◌, ◌≤◌, ◌⊎◌, inl, inr, List, [], ◌∷◌, refl, sym, ap, ◌∙◌, arith, ⊎_elim}
use Rattle.std.specs.Int.Count.{ones, ones-ones}
use Rattle.std.proofs.lemmas.Nat.{ones_cat, pow-add, pow_pos}
use Rattle.std.proofs.Math.Nat.{add-mul, mul_assoc}
use Rattle.pf_order.specs.Priority.{Priority}
use Rattle.pf_heap.specs.Forest.{Forest, none, tree, size, roots, some, Falls, Rises, one_each}
use Rattle.pf_heap.specs.Memory.{all_roots, weigh_all}
use Rattle.pf_heap.specs.Table.{mask_of, tree_count, AreByRank}
use Rattle.pf_heap.specs.Digits.{digits}
use Rattle.pf_heap.proofs.Forests.{some-le, double, size_from_falls}
use Rattle.pf_heap.proofs.Tables.{mask_is_size}
use Rattle.pf_heap.proofs.Digits.{paid-le-digits, digits-mono}

-- ---- digits that are 1

ones_bit : (x : ℕ) → x ≤ 1 → ones x ≡ x
ones_bit zero h = ones-ones 0
ones_bit (suc zero) h = ones-ones 1
ones_bit (suc (suc x)) h = absurd (omega (arith, h))

pub ones_double : (a x : ℕ) → x ≤ 1 → ones (a * 2 + x) ≡ ones a + x
ones_double a x h =
    let p : 2 ^ 1 ≡ 2 = refl in
    let e : ones (a * 2 ^ 1 + x) ≡ ones a + ones x = ones_cat 1 a x (omega (arith, h)) in
    omega (arith, e, ones_bit x h)

ones_halved : (a : ℕ) → ones a ≡ ones (a / 2) + a % 2
ones_halved a =
    let e : a ≡ a / 2 * 2 + a % 2 = omega arith in
    ap ones e ∙ ones_double (a / 2) (a % 2) (omega arith)

-- two numbers have no more ones than their sum and so many: each carry is paid by a digit of the sum
pub record AreCarries (a b c m : ℕ) : Type 0 where
  pub enough : ones a + (ones b + c) ≤ ones (a + b + c) + m
  pub paid : (m ≡ 0) ⊎ (2 ^ m ≤ a + b + c)

carried_paid : (m c s z : ℕ) → c ≤ 1 → c ≤ s → (m ≡ 0) ⊎ (2 ^ m ≤ s) → (m + c ≡ 0) ⊎ (2 ^ (m + c) ≤ s * 2 + z)
carried_paid m zero s z small le paid =
    let e : m + 0 ≡ m = omega arith in
    ⊎_elim (λ h. inl (omega (arith, h))) (λ h. inr (omega (arith, h, ap (λ x. 2 ^ x) e))) paid
carried_paid m (suc zero) s z small le paid =
    let d : 2 ^ (m + 1) ≡ 2 ^ m + 2 ^ m = double m (m + 1) refl in
    let one : (m ≡ 0) → 2 ^ m ≡ 1 = λ e. ap (λ x. 2 ^ x) e in
    inr (⊎_elim (λ h. omega (arith, d, one h, le)) (λ h. omega (arith, d, h)) paid)
carried_paid m (suc (suc c)) s z small le paid = absurd (omega (arith, small))

carried_enough : (oa ob os x y c d z m : ℕ) → oa + (ob + d) ≤ os + m → x + y + c ≡ z + 2 * d → (oa + x) + ((ob + y) + c) ≤ (os + z) + (m + d)
carried_enough oa ob os x y c d z m le e = omega (arith, le, e)

pub carries : (n a b c : ℕ) → a < 2 ^ n → b < 2 ^ n → c ≤ 1 → (m : ℕ) × AreCarries a b c m
carries zero a b c small_a small_b small_c =
    let za : a ≡ 0 = omega (arith, small_a) in
    let zb : b ≡ 0 = omega (arith, small_b) in
    let s : a + b + c ≡ c = omega arith in (
      0,
      record {
        enough = omega (arith, ap ones za, ap ones zb, ap ones s, ones_bit c small_c, ones_bit 0 (omega arith));
        paid = inl refl;
      },
    )
carries (suc n) a b c small_a small_b small_c =
    let p : 2 ^ (suc n) ≡ 2 ^ n + 2 ^ n = double n (suc n) (omega arith) in
    let low : ℕ = a % 2 + b % 2 + c in
    let d : ℕ = low / 2 in
    let s : ℕ = a / 2 + b / 2 + d in
    let r = carries n (a / 2) (b / 2) d (omega (arith, p, small_a)) (omega (arith, p, small_b)) (omega (arith, small_c)) in
    let whole : a + b + c ≡ s * 2 + low % 2 = omega arith in
    let os : ones (a + b + c) ≡ ones s + low % 2 = ap ones whole ∙ ones_double s (low % 2) (omega arith) in
    let e : a % 2 + b % 2 + c ≡ low % 2 + 2 * d = omega arith in
    let le = carried_enough (ones (a / 2)) (ones (b / 2)) (ones s) (a % 2) (b % 2) c d (low % 2) r.0 r.1.enough e in (
      r.0 + d,
      record {
        enough = omega (arith, le, os, ones_halved a, ones_halved b);
        paid = ⊎_elim (λ h. inl h) (λ h. inr (omega (arith, h, whole))) (carried_paid r.0 d s (low % 2) (omega (arith, small_c)) (omega arith) r.1.paid);
      },
    )

-- x is 0, or one more than something
last_of : (x n : ℕ) → x ≤ suc n → (x ≡ 0) ⊎ ((y : ℕ) × (y ≤ n) × (x ≡ y + 1))
last_of zero n h = inl refl
last_of (suc x) n h = inr (x, omega (arith, h), omega arith)

below : (x n : ℕ) → x ≤ n → x < 2 ^ n
below x zero h = omega arith
below x (suc n) h =
    let p : 2 ^ (suc n) ≡ 2 ^ n + 2 ^ n = double n (suc n) (omega arith) in
    ⊎_elim
    (λ e. omega (arith, p, pow_pos n, e))
    (λ y. omega (arith, p, below y.0 n y.1, y.2, pow_pos n))
    (last_of x n h)

-- so many fewer ones than there were are no more than the sum has digits
pub carried-le-digits : (made a b k : ℕ) → made + ones (a + b) ≤ ones a + ones b → a + b ≤ k → made ≤ digits k
carried-le-digits made a b k few le =
    let r = carries (a + b) a b 0 (below a (a + b) (omega arith)) (below b (a + b) (omega arith)) (omega arith) in
    let s : a + b + 0 ≡ a + b = omega arith in
    let m_few : made ≤ r.0 = omega (arith, few, r.1.enough, ap ones s) in
    omega (arith, m_few, digits-mono (a + b) k le, paid-le-digits r.0 (a + b) (⊎_elim (λ h. inl h) (λ h. inr (omega (arith, h))) r.1.paid))

-- ---- trees

pub count_is_ones : (fs : List Forest) → tree_count fs ≡ ones (mask_of fs)
count_is_ones [] = sym (ones-ones 0)
count_is_ones (f ∷ fs) =
    let e : mask_of (f ∷ fs) ≡ mask_of fs * 2 + some f = omega arith in
    omega (arith, count_is_ones fs, ap ones e, ones_double (mask_of fs) (some f) (some-le f))

pub count_by_size : (fs : List Forest) → AreByRank 0 fs → tree_count fs ≡ ones (weigh_all one_each (all_roots fs))
count_by_size fs h = count_is_ones fs ∙ ap ones (mask_is_size fs h)

ones_pow : (r : ℕ) → ones (2 ^ r) ≡ 1
ones_pow r =
    let e : 1 * 2 ^ r + 0 ≡ 2 ^ r = omega arith in
    let c : ones (1 * 2 ^ r + 0) ≡ ones 1 + ones 0 = ones_cat r 1 0 (omega (arith, pow_pos r)) in
    ap ones (sym e) ∙ c ∙ omega (arith, ones-ones 0, ones-ones 1)

multiple : (f : Forest) (r : ℕ) → Rises r f → (q : ℕ) × (size f ≡ q * 2 ^ r)
multiple none r h = (0, omega arith)
multiple (tree at key rank kids rest) r h =
    let m = multiple rest (rank + 1) h.2 in
    let d : ℕ = rank - r in
    let e : d + r ≡ rank = omega (arith, h.0) in
    let p : 2 ^ rank ≡ 2 ^ d * 2 ^ r = ap (λ x. 2 ^ x) (sym e) ∙ pow-add 2 d r in
    let t : 2 ^ (rank + 1) ≡ (2 ^ d + 2 ^ d) * 2 ^ r = double rank (rank + 1) refl ∙ (λ i. p i + p i) ∙ sym (add-mul (2 ^ d) (2 ^ d) (2 ^ r)) in
    let more : m.0 * 2 ^ (rank + 1) ≡ (m.0 * (2 ^ d + 2 ^ d)) * 2 ^ r = ap (λ x. m.0 * x) t ∙ sym (mul_assoc m.0 (2 ^ d + 2 ^ d) (2 ^ r)) in
    let whole : (2 ^ d + m.0 * (2 ^ d + 2 ^ d)) * 2 ^ r ≡ 2 ^ d * 2 ^ r + (m.0 * (2 ^ d + 2 ^ d)) * 2 ^ r = add-mul (2 ^ d) (m.0 * (2 ^ d + 2 ^ d)) (2 ^ r) in
    (2 ^ d + m.0 * (2 ^ d + 2 ^ d), omega (arith, size_from_falls key rank kids h.1, m.1, p, more, whole))

pub roots_of_list : (f : Forest) (r : ℕ) → Rises r f → roots f ≡ ones (size f)
roots_of_list none r h = sym (ones-ones 0)
roots_of_list (tree at key rank kids rest) r h =
    let m = multiple rest (rank + 1) h.2 in
    let d : 2 ^ (rank + 1) ≡ 2 ^ rank + 2 ^ rank = double rank (rank + 1) refl in
    let whole : size (tree at key rank kids rest) ≡ m.0 * 2 ^ (rank + 1) + 2 ^ rank = omega (arith, size_from_falls key rank kids h.1, m.1) in
    let c : ones (m.0 * 2 ^ (rank + 1) + 2 ^ rank) ≡ ones m.0 + ones (2 ^ rank) = ones_cat (rank + 1) m.0 (2 ^ rank) (omega (arith, d, pow_pos rank)) in
    let without : size rest ≡ m.0 * 2 ^ (rank + 1) + 0 = omega (arith, m.1) in
    let o : ones (m.0 * 2 ^ (rank + 1) + 0) ≡ ones m.0 + ones 0 = ones_cat (rank + 1) m.0 0 (omega (arith, d, pow_pos rank)) in
    omega (arith, roots_of_list rest (rank + 1) h.2, ap ones whole, c, ones_pow rank, ap ones without, o, ones_bit 0 (omega arith))

-- children of rank r are r trees
pub roots_of_kids : (p : Priority) (r : ℕ) (f : Forest) → Falls p r f → roots f ≡ r
roots_of_kids p r none h = omega (arith, h)
roots_of_kids p r (tree at key rank kids rest) h = omega (arith, h.0, roots_of_kids p rank rest h.3)
