-- The windows of a subtask and of the next, by quotients and rests.
use Rattle.std.proofs.Common.{◌≡◌, ℕ, ◌+◌, ◌-◌, ◌*◌, ◌/◌, ◌%◌, ◌^◌, ◌<◌, ◌≤◌, ◌≢◌, sym, ap, ap₂, ◌∙◌, arith}
use Rattle.std.proofs.Math.Nat.{mul-le-mul_right, add-mul, mod-add-div'}
use Rattle.std.proofs.lemmas.Nat.{mul-le}
use Rattle.std.specs.Int.{div_ceil}
use Rattle.pf_weight.specs.Share.{Share, IsShare}
use Rattle.pf_window.specs.Window.{deadline_of, bit_of}
use Rattle.pf_window.specs.Windows.{AreWindows}
use Rattle.pf_window.proofs.Quotients.{IsFloor, floor_is, ceil_is, floor_only, ceil_only}

-- a quotient by a cost is small
pub quotient_small : (w : Share) (i : ℕ) → IsShare w → i < 2 ^ 32 → i * w.period / w.cost < 2 ^ 62
quotient_small w i share small =
    let down : IsFloor (i * w.period) w.cost (i * w.period / w.cost) = floor_is (i * w.period) w.cost share.some in
    let grows : 1 * (i * w.period / w.cost) ≤ w.cost * (i * w.period / w.cost) = mul-le-mul_right (i * w.period / w.cost) share.some in
    let work : i * w.period ≤ (2 ^ 32 - 1) * 2 ^ 30 = mul-le i w.period (2 ^ 32 - 1) (2 ^ 30) (omega arith) (omega (arith, share.short)) in
    omega (arith, down.within, grows, work)

-- a number by its quotient and its rest
record IsDivided (n e q r : ℕ) : Type 0 where
  pub whole : r + q * e ≡ n
  pub less : r < e

divided : (n e q r : ℕ) → 1 ≤ e → n / e ≡ q → n % e ≡ r → IsDivided n e q r
divided n e q r some of_q of_r = record {
  whole = ap₂ (λ q r. r + q * e) (sym of_q) (sym of_r) ∙ mod-add-div' n e;
  less = let down = floor_is n e some in let whole = mod-add-div' n e in omega (arith, down.next, whole, of_r);
}

divided_is : (n e q r : ℕ) → 1 ≤ e → IsDivided n e q r → (n / e ≡ q) × (n % e ≡ r)
divided_is n e q r some h =
    let down : IsFloor n e q = record { within = omega (arith, h.whole); next = omega (arith, h.whole, h.less) } in
    let is = floor_only (floor_is n e some) down in
    let whole = mod-add-div' n e in
    (is, omega (arith, whole, h.whole, ap (λ q. q * e) is))

-- one period more, where the rests come to less than the cost, or to a cost more
pub next_less : (e p i f r s q : ℕ) → 1 ≤ e → i * p / e ≡ f → i * p % e ≡ r → p / e ≡ s → p % e ≡ q → r + q < e → ((i + 1) * p / e ≡ f + s) × ((i + 1) * p % e ≡ r + q)
next_less e p i f r s q some of_f of_r of_s of_q less =
    let work = divided (i * p) e f r some of_f of_r in
    let period = divided p e s q some of_s of_q in
    divided_is ((i + 1) * p) e (f + s) (r + q) some (record { whole = omega (arith, add-mul i 1 p, add-mul f s e, work.whole, period.whole); less = less })

pub next_over : (e p i f r s q : ℕ) → 1 ≤ e → i * p / e ≡ f → i * p % e ≡ r → p / e ≡ s → p % e ≡ q → e ≤ r + q → ((i + 1) * p / e ≡ f + (s + 1)) × ((i + 1) * p % e ≡ r + q - e)
next_over e p i f r s q some of_f of_r of_s of_q over =
    let work = divided (i * p) e f r some of_f of_r in
    let period = divided p e s q some of_s of_q in
    divided_is ((i + 1) * p) e (f + (s + 1)) (r + q - e) some
    (record { whole = omega (arith, add-mul i 1 p, add-mul f (s + 1) e, add-mul s 1 e, work.whole, period.whole, over); less = omega (arith, work.less, period.less, over) })

-- the deadline, by the quotient and whether there is a rest
pub due_whole : (w : Share) (i f r : ℕ) → IsShare w → i * w.period / w.cost ≡ f → i * w.period % w.cost ≡ r → r ≡ 0 → deadline_of w i ≡ f
unfolding deadline_of
due_whole w i f r share of_f of_r none =
    let work = divided (i * w.period) w.cost f r share.some of_f of_r in
    ceil_only (ceil_is (i * w.period) w.cost share.some) (record { enough = omega (arith, work.whole, none); least = omega (arith, work.whole, none, share.some) })

pub due_part : (w : Share) (i f r : ℕ) → IsShare w → i * w.period / w.cost ≡ f → i * w.period % w.cost ≡ r → r ≢ 0 → deadline_of w i ≡ f + 1
unfolding deadline_of
due_part w i f r share of_f of_r some =
    let work = divided (i * w.period) w.cost f r share.some of_f of_r in
    let rest : 1 ≤ r = omega (arith, some) in
    ceil_only (ceil_is (i * w.period) w.cost share.some) (record { enough = omega (arith, work.whole, work.less, add-mul f 1 w.cost); least = omega (arith, work.whole, rest, add-mul f 1 w.cost) })

-- the bit is what the deadline is above the quotient
pub bit_above : (w : Share) (i f : ℕ) → i * w.period / w.cost ≡ f → bit_of w i ≡ deadline_of w i - f
unfolding deadline_of bit_of
bit_above w i f of_f = ap (λ f. div_ceil (i * w.period) w.cost - f) of_f

-- what is kept, of the next subtask
pub windows_less : (w : Share) (i release floor rest step part one : ℕ) → AreWindows w i release floor rest step part → i < 2 ^ 32 - 1 → one ≡ step → rest + part < w.cost →
    AreWindows w (i + 1) floor (floor + one) (rest + part) step part
windows_less w i release floor rest step part one h last is less =
    let next = next_less w.cost w.period i floor rest step part h.share.some h.whole h.left h.periods h.over less in
    record {
      share = h.share;
      first = omega arith;
      last = omega (arith, last);
      released = ap (λ k. k * w.period / w.cost) (let e : i + 1 - 1 ≡ i = omega arith in e) ∙ h.whole;
      whole = next.0 ∙ ap (λ n. floor + n) (sym is);
      left = next.1;
      periods = h.periods;
      over = h.over;
    }

pub windows_over : (w : Share) (i release floor rest step part one cost : ℕ) → AreWindows w i release floor rest step part → i < 2 ^ 32 - 1 → one ≡ step → cost ≡ w.cost → cost ≤ rest + part →
    AreWindows w (i + 1) floor (floor + (one + 1)) (rest + part - cost) step part
windows_over w i release floor rest step part one cost h last is of_cost over =
    let next = next_over w.cost w.period i floor rest step part h.share.some h.whole h.left h.periods h.over (omega (arith, of_cost, over)) in
    record {
      share = h.share;
      first = omega arith;
      last = omega (arith, last);
      released = ap (λ k. k * w.period / w.cost) (let e : i + 1 - 1 ≡ i = omega arith in e) ∙ h.whole;
      whole = next.0 ∙ ap (λ n. floor + (n + 1)) (sym is);
      left = next.1 ∙ ap (λ n. rest + part - n) (sym of_cost);
      periods = h.periods;
      over = h.over;
    }
