-- The cost that is told of a task is the greatest that it may have.
use Rattle.std.proofs.Common.{◌≡◌, ◌∙◌, ℕ, zero, suc, ◌+◌, ◌*◌, ◌<◌, ◌≤◌, ◌==◌, Bool, true, false, nat_le, nat_lt, if◌then◌else◌, min, None, Some, List, length, refl, sym, ap, arith, ⊎_elim}
use Rattle.std.proofs.Math.Nat.{mul-le-mul_left, mul-le-mul_right}
use Rattle.std.proofs.lemmas.Bool.{and_parts, cases_lt, leb-true, ltb-true, eqb-true, eqb-false}
use Rattle.pf_weight.specs.Share.{IsShare}
use Rattle.pf_scenario.specs.Scenario.{Plan}
use Rattle.pf_run.specs.Record.{Slot}
use Rattle.pf_run.specs.Inside.{Joined}
use Rattle.pf_verdict.specs.Grow.{CanCost, GreatestCostIsTold, IsGreatestCost, end_of, grow_of, is_of_stay, left_in, least_left, quanta_in, units_each}
use Rattle.pf_verdict.proofs.Least.{one_more, stays}

le_part : (a b p : ℕ) → 1 ≤ p → a * p ≤ b * p → a ≤ b
le_part a b p some le = ⊎_elim
    (λ (more : b < a). absurd (let z : suc b * p ≤ a * p = mul-le-mul_right p more in omega (arith, z, le, some)))
    (λ (ok : a ≤ b). ok)
    (cases_lt b a)

module _ (s : Plan) (r : List Slot) (j : Joined) (last : ℕ) where
  step : (t : ℕ) → (b : Bool) → is_of_stay j last t ≡ b →
      least_left s r j last (suc t) ≡ (if b then min (least_left s r j last t) (left_in s r j t) else least_left s r j last t)
  step t b is = one_more s r j last 0 0 t ∙ ap (λ c. if c then min (least_left s r j last t) (left_in s r j t) else least_left s r j last t) is

  base_is : least_left s r j last 0 ≡ s.settings.base
  unfolding least_left
  base_is = refl

  -- it is no more than the base, and than what is left in a slot of the stay
  no_more : (t x : ℕ) → least_left s r j last t ≤ x → (b : Bool) → is_of_stay j last t ≡ b → least_left s r j last (suc t) ≤ x
  no_more t x before true is = omega (arith, step t true is, before)
  no_more t x before false is = omega (arith, step t false is, before)

  within_base : (n : ℕ) → least_left s r j last n ≤ s.settings.base
  within_base zero = omega (arith, base_is)
  within_base (suc t) = no_more t s.settings.base (within_base t) (is_of_stay j last t) refl

  within_left : (n t : ℕ) → t < n → j.slot ≤ t → t < last → least_left s r j last n ≤ left_in s r j t
  within_left zero t lt from upto = absurd (omega (arith, lt))
  within_left (suc n) t lt from upto = ⊎_elim
      (λ (old : t < n). no_more n (left_in s r j t) (within_left n t old from upto) (is_of_stay j last n) refl)
      (λ (ge : n ≤ t).
      let z : n ≡ t = omega (arith, ge, lt) in
      let now : left_in s r j n ≡ left_in s r j t = ap (left_in s r j) z in
      omega (arith, now, step n true (stays j last n (omega (arith, from, z)) (omega (arith, upto, z)))))
      (cases_lt t n)

  no_less : (n x : ℕ) → x ≤ least_left s r j last n → (j.slot ≤ n → n < last → x ≤ left_in s r j n) → (b : Bool) → is_of_stay j last n ≡ b →
      x ≤ least_left s r j last (suc n)
  no_less n x before now true is =
      let parts = and_parts (nat_le j.slot n) (nat_lt n last) is in
      omega (arith, step n true is, before, now (leb-true j.slot n parts.0) (ltb-true n last parts.1))
  no_less n x before now false is = omega (arith, step n false is, before)

  -- and what is no more than these is no more than it
  greatest : (x n : ℕ) → x ≤ s.settings.base → ((t : ℕ) → t < n → j.slot ≤ t → t < last → x ≤ left_in s r j t) → x ≤ least_left s r j last n
  greatest x zero most each = omega (arith, base_is, most)
  greatest x (suc n) most each =
      no_less n x (greatest x n most (λ t lt from upto. each t (omega (arith, lt)) from upto))
      (λ from upto. each n (omega arith) from upto) (is_of_stay j last n) refl

module _ (s : Plan) (r : List Slot) (j : Joined) (share : IsShare j.weight) (some : 1 ≤ s.settings.base)
    (whole : j.weight.period * units_each s j ≡ s.settings.base) (units : j.weight.units ≡ j.weight.cost * units_each s j) where
  abbrev u : ℕ
  u = units_each s j

  abbrev p : ℕ
  p = j.weight.period

  abbrev h : ℕ
  h = s.settings.base

  abbrev least : ℕ
  least = least_left s r j (end_of s r j) (length r)

  each_some : 1 ≤ u
  each_some = ⊎_elim
      (λ (more : 0 < u). more)
      (λ (none : u ≤ 0).
      let z : u ≡ 0 = omega (arith, none) in
      absurd (omega (arith, some, sym whole ∙ ap (λ x. p * x) z)))
      (cases_lt 0 u)

  period_some : 1 ≤ p
  period_some = omega (arith, share.some, share.within)

  -- a cost is one that the task may have where its units are left
  can_where : (g : ℕ) → 1 ≤ g → g * u ≤ least → CanCost s r j g
  can_where g more le t lt from upto =
      let left = within_left s r j (end_of s r j) (length r) t lt from upto in
      omega (arith, le, left, units, mul-le-mul_left g each_some, more)

  -- and one that it may have has its units left
  left_where : (g : ℕ) → g ≤ p → CanCost s r j g → g * u ≤ least
  left_where g within can =
      greatest s r j (end_of s r j) (g * u) (length r) (omega (arith, mul-le-mul_right u within, whole))
      (λ t lt from upto. omega (arith, can t lt from upto, units))

  abbrev told : ℕ
  told = quanta_in s j least

  told_low : told * h ≤ least * p
  told_low = omega (arith, some)

  told_high : least * p < (told + 1) * h
  told_high = omega (arith, some)

  told_within : told ≤ p
  told_within = le_part told p h some (omega (arith, told_low, mul-le-mul_right p (within_base s r j (end_of s r j) (length r))))

  told_left : told * u ≤ least
  told_left = le_part (told * u) least p period_some (omega (arith, told_low, ap (λ x. told * x) whole))

  none_above : (k : ℕ) → told < k → k ≤ p → CanCost s r j k → ⊥
  none_above k more within can =
      let left = mul-le-mul_right p (left_where k within can) in
      let next : (told + 1) * h ≤ k * h = mul-le-mul_right h (let z : told + 1 ≤ k = omega (arith, more) in z) in
      omega (arith, left, next, told_high, ap (λ x. k * x) whole)

  greatest_is_told : IsGreatestCost s r j (grow_of s r j)
  unfolding grow_of
  greatest_is_told = by (told == 0) refl where
    by : (b : Bool) → (told == 0) ≡ b → IsGreatestCost s r j (if b then None else Some told)
    by true is = λ k some_k within can. none_above k (omega (arith, eqb-true told 0 is, some_k)) within can
    by false is =
        let some_told : 1 ≤ told =
        ⊎_elim (λ (more : 0 < told). more) (λ (none : told ≤ 0). absurd (eqb-false told 0 is (omega (arith, none)))) (cases_lt 0 told) in
        (some_told, told_within, can_where told some_told told_left, none_above)

pub the_greatest_cost_is_told : GreatestCostIsTold
the_greatest_cost_is_told s r j share some whole units = greatest_is_told s r j share some whole units
