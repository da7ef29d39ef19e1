-- What is served fits: up to the base each task has as many quanta as it has units, and there are no more quanta than the
-- processors have.
use Rattle.std.proofs.Common.{◌≡◌, ℕ, zero, suc, ◌*◌, ◌≤◌, ◌==◌, Bool, true, if◌then◌else◌, List, [], ◌∷◌, sum_by, arith, refl, ap}
use Rattle.std.specs.List.{list_any}
use Rattle.std.proofs.lemmas.Bool.{or_left, or_right, eq-eqb}
use Rattle.std.proofs.lemmas.List.Sums.{sum_by-cons}
use Rattle.pf_lemmas.proofs.Sums.{sum_of_none}
use Rattle.pf_weight.specs.Share.{Share}
use Rattle.pf_window.specs.Window.{deadline_of}
use Rattle.pf_window.proofs.Quotients.{ceil_is, ceil_only}
use Rattle.pf_laws.proofs.IdealLemmas.Rising.{rises}
use Rattle.pf_laws.proofs.IdealLemmas.Sums.{one, sum_by-plus}
use Rattle.pf_laws.proofs.ReachLemmas.Weights.{weight-share, weight-exact}
use Rattle.pf_laws.specs.StaticSets.Periodic.{Periodic, is_task_of, weight_of}
use Rattle.pf_laws.specs.StaticSets.Choice.{received_of, RunsInWindow}
use Rattle.pf_laws.specs.StaticSets.Service.{IsWeighed, Serves, EachServedFits, ServedByPD2}
use Rattle.pf_laws.proofs.StaticSetsLemmas.Timely.{each_runs_in_its_window}

-- a sum over tasks is no more where each term is no more
sum_by-known : (f g : ℕ → ℕ) (xs : List ℕ) → ((t : ℕ) → list_any (λ u. t == u) xs ≡ true → f t ≤ g t) →
    sum_by f xs ≤ sum_by g xs
sum_by-known f g [] le = omega arith
sum_by-known f g (x ∷ xs) le =
    omega (
      arith,
      sum_by-cons f x xs,
      sum_by-cons g x xs,
      le x (or_left (x == x) (list_any (λ u. x == u) xs) (eq-eqb x x refl)),
      sum_by-known f g xs (λ t known. le t (or_right (t == x) (list_any (λ u. t == u) xs) known)),
    )

received-rises : (runs : ℕ → ℕ → Bool) (t a b : ℕ) → a ≤ b → received_of runs t a ≤ received_of runs t b
unfolding received_of
received-rises runs t a b le = rises (received_of runs t) (λ n. omega arith) a b le

received-runs : (runs : ℕ → ℕ → Bool) (t v : ℕ) → runs t v ≡ true → received_of runs t (suc v) ≡ suc (received_of runs t v)
unfolding received_of
received-runs runs t v running = omega (arith, ap {B = ℕ} (λ b. if b then 1 else 0) running)

-- the units' last subtask is due at the base
due_at_base : (w : Share) (base : ℕ) → 1 ≤ w.cost → w.units * w.period ≡ w.cost * base → deadline_of w w.units ≡ base
unfolding deadline_of
due_at_base w base some exact =
    ceil_only (ceil_is (w.units * w.period) w.cost some) (record { enough = omega (arith, exact); least = omega (arith, exact, some) })

module _ (p : Periodic) (runs : ℕ → ℕ → Bool) (is : IsWeighed p) (serves : Serves p runs) where
  quanta_of : ℕ → ℕ
  quanta_of v = sum_by (λ t. received_of runs t v) p.tasks

  quanta_within : (v : ℕ) → quanta_of v ≤ v * p.processors
  unfolding received_of quanta_of
  quanta_within zero = omega (arith, sum_of_none p.tasks)
  quanta_within (suc v) =
      omega (
        arith,
        sum_by-plus (λ t. received_of runs t v) (λ t. one (runs t v)) p.tasks,
        quanta_within v,
        serves.few v,
      )

  has_units : (t : ℕ) → is_task_of p t ≡ true → (weight_of p t).units ≤ received_of runs t p.base
  has_units t known =
      let share = weight-share p.base (p.cost t) (p.period t) is.base (is.weights t known) in
      let due = due_at_base (weight_of p t) p.base share.some (weight-exact p.base (p.cost t) (p.period t) is.base (is.weights t known)) in
      let it : RunsInWindow p runs t (weight_of p t).units = serves.in_window t (weight_of p t).units known share.units_some (omega (arith, due)) in
      omega (
        arith,
        due,
        it.upto,
        it.number,
        received-runs runs t it.slot it.ran,
        received-rises runs t (suc it.slot) p.base (omega (arith, due, it.upto)),
      )

  pub fits : sum_by (λ t. (weight_of p t).units) p.tasks ≤ p.processors * p.base
  unfolding quanta_of
  fits =
      omega (
        arith,
        sum_by-known (λ t. (weight_of p t).units) (λ t. received_of runs t p.base) p.tasks has_units,
        quanta_within p.base,
      )

pub each_served_fits : EachServedFits
each_served_fits p runs is serves = fits p runs is serves

pub served_by_pd2 : ServedByPD2
served_by_pd2 p any runs t i is serves pd2 known some =
    each_runs_in_its_window p runs t i
    (record { base = is.base; weights = is.weights; within = fits p any is serves }) pd2 known some
