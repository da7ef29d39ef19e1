-- The first slot that passes a test, and the rule of leaves.
use Rattle.std.proofs.Common.{◌≡◌, ℕ, zero, suc, ◌+◌, ◌-◌, ◌<◌, ◌≤◌, Bool, true, false, nat_le, nat_lt, Option, None, Some, List, sym, ap, ◌∙◌, ⊎_elim, arith}
use Rattle.std.proofs.lemmas.Bool.{cases_Bool, cases_eq, cond-true, cond-false}
use Rattle.std.proofs.lemmas.Bool.Decides.{nat_tests}
use Rattle.pf_lemmas.proofs.Options.{some_is}
use Rattle.pf_scenario.specs.Scenario.{Plan}
use Rattle.pf_admit.specs.Member.{free_from}
use Rattle.pf_admit.specs.declared.denial.Denial.TheVariants.{TooEarly}
use Rattle.pf_run.specs.Record.{Slot}
use Rattle.pf_run.specs.Inside.{Joined}
use Rattle.pf_notes.specs.Point.{first_slot, member_in}
use Rattle.pf_notes.specs.Grounds.{lets_go}
use Rattle.pf_notes.specs.Laws.{leave_in, NextLeaveIsFirst}

record IsFirst (p : ℕ → Bool) (t k u : ℕ) : Type 0 where
  from : t ≤ u
  within : u < t + k
  passes : p u ≡ true
  before : (v : ℕ) → t ≤ v → v < u → p v ≡ false

first_is : (p : ℕ → Bool) (t k u : ℕ) → first_slot p t k ≡ Some u → IsFirst p t k u
first_is p t zero u e = cc
first_is p t (suc k) u e = ⊎_elim
    (λ here.
    let same : t ≡ u = some_is t u (sym (cond-true (p t) (Some t) (first_slot p (t + 1) k) here) ∙ e) in
    record {
      from = omega (arith, same);
      within = omega (arith, same);
      passes = ap p (sym same) ∙ here;
      before = λ v low high. absurd (omega (arith, low, high, same));
    })
    (λ later.
    let rest = first_is p (t + 1) k u (sym (cond-false (p t) (Some t) (first_slot p (t + 1) k) later) ∙ e) in
    record {
      from = omega (arith, rest.from);
      within = omega (arith, rest.within);
      passes = rest.passes;
      before = λ v low high. ⊎_elim (λ (same : v ≡ t). ap p same ∙ later) (λ (apart : v ≡ t → ⊥). rest.before v (above t v low apart) high) (cases_eq v t);
    })
    (cases_Bool (p t))
  where
    above : (t v : ℕ) → t ≤ v → (v ≡ t → ⊥) → t + 1 ≤ v
    above t v low apart = grind (arith, low, apart)

first_none : (p : ℕ → Bool) (t k : ℕ) → first_slot p t k ≡ None → (v : ℕ) → t ≤ v → v < t + k → p v ≡ false
first_none p t zero e v low high = absurd (omega (arith, low, high))
first_none p t (suc k) e v low high = ⊎_elim
    (λ here. let no : ◌≡◌ {A = Option ℕ} (Some t) None = sym (cond-true (p t) (Some t) (first_slot p (t + 1) k) here) ∙ e in cc)
    (λ later. ⊎_elim (λ (same : v ≡ t). ap p same ∙ later)
    (λ (apart : v ≡ t → ⊥).
    first_none p (t + 1) k (sym (cond-false (p t) (Some t) (first_slot p (t + 1) k) later) ∙ e) v (above t v low apart) (omega (arith, high)))
    (cases_eq v t))
    (cases_Bool (p t))
  where
    above : (t v : ℕ) → t ≤ v → (v ≡ t → ⊥) → t + 1 ≤ v
    above t v low apart = grind (arith, low, apart)

-- the rule by the test
let_go_is : (f t : ℕ) → nat_le f t ≡ true → nat_lt t f ≡ false
let_go_is f t h = grind (arith, nat_tests, h)

early_is : (f t : ℕ) → nat_le f t ≡ false → nat_lt t f ≡ true
early_is f t h = grind (arith, nat_tests, h)

goes : (s : Plan) (r : List Slot) (j : Joined) (t : ℕ) → lets_go s r j t ≡ true → leave_in s r j t ≡ None
goes s r j t h = cond-false (nat_lt t (free_from (member_in s r j t))) (Some TooEarly) None (let_go_is (free_from (member_in s r j t)) t h)

stays : (s : Plan) (r : List Slot) (j : Joined) (t : ℕ) → lets_go s r j t ≡ false → leave_in s r j t ≡ Some TooEarly
stays s r j t h = cond-true (nat_lt t (free_from (member_in s r j t))) (Some TooEarly) None (early_is (free_from (member_in s r j t)) t h)

pub next_leave : NextLeaveIsFirst
next_leave = record {
  told = λ s r j from to t order e.
      let first = first_is (lets_go s r j) (from + 1) (to - from) t e in
      record {
        above = omega (arith, first.from);
        within = omega (arith, first.within, order);
        let_go = goes s r j t first.passes;
        before = λ u low high. stays s r j u (first.before u (omega (arith, low)) high);
      };
  none = λ s r j from to u order e low high.
      stays s r j u (first_none (lets_go s r j) (from + 1) (to - from) e u (omega (arith, low)) (omega (arith, high, order)));
}
