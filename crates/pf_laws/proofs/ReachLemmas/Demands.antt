-- The windows of a demand are those of constant rates, and its order is by deadline and reach.
use Rattle.std.proofs.Common.{◌≡◌, ℕ, zero, suc, ◌+◌, ◌-◌, ◌*◌, ◌/◌, ◌<◌, ◌≤◌, true, false, not, arith, ap, subst, ⊎_elim}
use Rattle.std.proofs.lemmas.Bool.{cases_lt, not-true, not_from_false}
use Rattle.pf_weight.specs.Share.{Share, IsShare}
use Rattle.pf_window.specs.Window.{release_of, deadline_of}
use Rattle.pf_window.proofs.Quotients.{IsFloor, IsCeil, floor_is, ceil_is}
use Rattle.pf_order.specs.Priority.{precedes}
use Rattle.pf_laws.specs.Ideal.Schedule as ideal
use Rattle.pf_laws.specs.Ideal.Schedule.{HasWindows, RanksByReach}
use Rattle.pf_laws.specs.Reach.Reach.{WindowsReach}
use Rattle.pf_laws.specs.Reach.Demand.{Demand, IsDemand, Service, key_in, schedule_of}
use Rattle.pf_laws.specs.Reach.Laws.{PD2IsByReach}
use Rattle.pf_laws.proofs.ReachLemmas.Scaling.{units-le, units-lt, base-le, base-lt}
use Rattle.pf_laws.proofs.ReachLemmas.Keys.{not_behind_itself, not_behind-trans, not_behind-deadline, earlier_not_behind}
use Rattle.pf_laws.proofs.ReachLemmas.Ranking.{order_ranks_by_reach}

module _ (d : Demand) (is : IsDemand d) where
  module _ (t : ℕ) where
    abbrev w : Share
    w = d.weight t

    abbrev share : IsShare w
    share = is.shares t

    real : 1 ≤ w.period
    real = omega (arith, share.some, share.within)

    due_is : (i : ℕ) → IsCeil (i * w.period) w.cost (deadline_of w i)
    unfolding deadline_of
    due_is i = ceil_is (i * w.period) w.cost share.some

    release_is : (i : ℕ) → IsFloor (i * w.period) w.cost (release_of w (suc i))
    unfolding release_of
    release_is i =
        subst (λ x. IsFloor (i * w.period) w.cost (x * w.period / w.cost)) (omega arith)
        (floor_is (i * w.period) w.cost share.some)

    units-within : w.units ≤ d.base
    units-within =
        omega (arith, units-le w.units w.period w.cost d.base (is.exact t) is.some real 1 1 (omega (arith, share.within)))

    -- the window in units, unshifted
    units-released : (i : ℕ) → release_of w (suc i) * w.units ≤ i * d.base
    units-released i =
        units-le w.units w.period w.cost d.base (is.exact t) is.some real (release_of w (suc i)) i (release_is i).within

    units-begins : (i : ℕ) → i * d.base < (release_of w (suc i) + 1) * w.units
    units-begins i =
        base-lt w.units w.period w.cost d.base (is.exact t) is.some real (release_of w (suc i) + 1) i
        (omega (arith, (release_is i).next))

    units-ends : (i : ℕ) → i * d.base ≤ deadline_of w i * w.units
    units-ends i = base-le w.units w.period w.cost d.base (is.exact t) is.some real (deadline_of w i) i (due_is i).enough

    units-due : (i : ℕ) → deadline_of w i * w.units < i * d.base + w.units
    units-due i = by (deadline_of w i) (due_is i).least where
      by : (due : ℕ) → due * w.cost < i * w.period + w.cost → due * w.units < i * d.base + w.units
      by zero least = omega (arith, share.units_some)
      by (suc due) least =
          omega (arith, units-lt w.units w.period w.cost d.base (is.exact t) is.some real due i (omega (arith, least)))

    -- reach in units
    reach-units : (i n : ℕ) → WindowsReach w i n → (i + n) * d.base < (deadline_of w i + n) * w.units
    reach-units i n far =
        base-lt w.units w.period w.cost d.base (is.exact t) is.some real (deadline_of w i + n) (i + n) far

    pub reach-cost : (i n : ℕ) → (i + n) * d.base < (deadline_of w i + n) * w.units → WindowsReach w i n
    reach-cost i n far = ⊎_elim (λ lt. lt)
        (λ (ge : (deadline_of w i + n) * w.cost ≤ (i + n) * w.period).
        let le =
        units-le w.units w.period w.cost d.base (is.exact t) is.some real (deadline_of w i + n) (i + n) ge in
        absurd (omega (arith, le, far)))
        (cases_lt ((i + n) * w.period) ((deadline_of w i + n) * w.cost))

  module _ (g : Service) where
    windows : HasWindows (schedule_of d g)
    windows = record {
      some = λ t. (is.shares t).units_some;
      within = units-within;
      next = next;
      released = λ t i. omega (arith, units-released t i);
      begins = λ t i. omega (arith, units-begins t i);
      ends = λ t i. omega (arith, units-ends t (suc i));
      due = λ t i. omega (arith, units-due t (suc i));
    } where
      next : (t i : ℕ) → d.shift t (suc (suc i)) * (d.weight t).units + suc i * d.base
          ≡ d.shift t (suc i) * (d.weight t).units + i * d.base + d.base
          + (d.weight t).units * (d.shift t (suc (suc i)) - d.shift t (suc i))
      next t i =
          let sum : d.shift t (suc (suc i)) ≡ d.shift t (suc i) + (d.shift t (suc (suc i)) - d.shift t (suc i)) =
          omega (arith, is.rise t (suc i)) in
          omega (arith, ap (λ x. x * (d.weight t).units) sum)

    order : RanksByReach (schedule_of d g)
    order = record {
      itself = λ t i. not_from_false (precedes (key_in d t i) (key_in d t i)) (not_behind_itself (key_in d t i));
      transitive = λ t i u j w k first then.
          not_from_false (precedes (key_in d w k) (key_in d t i))
          (not_behind-trans (key_in d t i) (key_in d u j) (key_in d w k) (back t i u j first) (back u j w k then));
      earlier = λ t i u j lt.
          not_from_false (precedes (key_in d u j) (key_in d t i)) (earlier_not_behind (key_in d t i) (key_in d u j) lt);
      deadline = λ t i u j first. not_behind-deadline (key_in d t i) (key_in d u j) (back t i u j first);
      reach = reach;
    } where
      back : (t i u j : ℕ) → not (precedes (key_in d u j) (key_in d t i)) ≡ true →
          precedes (key_in d u j) (key_in d t i) ≡ false
      back t i u j first = not-true (precedes (key_in d u j) (key_in d t i)) first

      reach : (t i u j n : ℕ) → not (precedes (key_in d u j) (key_in d t i)) ≡ true →
          deadline_of (d.weight t) (suc i) + d.shift t (suc i) ≡ deadline_of (d.weight u) (suc j) + d.shift u (suc j) →
          ideal.Reaches (schedule_of d g) u j n → ideal.Reaches (schedule_of d g) t i n
      reach t i u j n first due far =
          let at_u : WindowsReach (d.weight u) (suc j) n = reach-cost u (suc j) n (omega (arith, far)) in
          let at_t =
          order_ranks_by_reach (d.weight t) (d.weight u) (d.shift t (suc i)) (d.shift u (suc j)) (suc i) (suc j) t u n
          (is.shares t) (is.shares u) (omega arith) (omega arith) (back t i u j first) due at_u in
          omega (arith, reach-units t (suc i) n at_t)

pub pd2_is_by_reach : PD2IsByReach
pd2_is_by_reach d g is = record { windows = windows d is g; order = order d is g }
