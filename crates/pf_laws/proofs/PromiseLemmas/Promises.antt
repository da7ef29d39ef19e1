-- No window of a run is missed that isn't overloaded by a quantum: a miss would cost as much.
use Rattle.std.proofs.Common.{◌≡◌, ℕ, zero, suc, ◌<◌, ◌≤◌, ◌==◌, List, [], ◌∷◌, length, count_by, arith, refl, sym, subst, ⊎_elim}
use Rattle.std.proofs.Math.Nat.{mul-le-mul_left}
use Rattle.std.proofs.lemmas.Bool.{cases_lt, eq-eqb, cond-true}
use Rattle.pf_scenario.specs.Scenario.{Plan}
use Rattle.pf_run.specs.Record.{Slot}
use Rattle.pf_run.specs.Run.{IsRun}
use Rattle.pf_run.proofs.Counting.{count_by-cons}
use Rattle.pf_tally.specs.declared.miss.Miss.{Miss}
use Rattle.pf_tally.specs.Misses.{misses_of}
use Rattle.pf_laws.proofs.IdealLemmas.Rising.{rises}
use Rattle.pf_tally.specs.Load.{overload_of}
use Rattle.pf_laws.specs.Promise.Laws.{MissCostsQuantum, NoWindowIsMissed, IsWithinRoom}
use Rattle.pf_laws.proofs.PromiseLemmas.Counted.{none_beyond, misses_cost_quanta}

pub overload-rises : (s : Plan) (r : List Slot) (a b : ℕ) → a ≤ b → overload_of s r a ≤ overload_of s r b
unfolding overload_of
overload-rises s r a b le = rises (overload_of s r) (λ n. omega arith) a b le

pub miss_costs_quantum : MissCostsQuantum
miss_costs_quantum s n r scenario run little = by (misses_of s r) refl where
  counted : (m : Miss) (ms : List Miss) → misses_of s r ≡ m ∷ ms →
      1 ≤ count_by (λ (x : Miss). x.deadline == m.deadline) (misses_of s r)
  counted m ms is =
      subst (λ xs. 1 ≤ count_by (λ (x : Miss). x.deadline == m.deadline) xs) (sym is)
      (omega (
        arith,
        count_by-cons (λ x. x.deadline == m.deadline) m ms,
        cond-true {A = ℕ} (m.deadline == m.deadline) 1 0 (eq-eqb m.deadline m.deadline refl),
      ))

  by : (ms : List Miss) → misses_of s r ≡ ms → misses_of s r ≡ []
  by [] none = none
  by (m ∷ ms) is = absurd (⊎_elim
      (λ (past : n < m.deadline).
      omega (
        arith,
        counted m ms is,
        none_beyond s scenario r (subst (λ t. IsRun s t r) (sym run.slots) run) m.deadline (omega (arith, past, run.slots)),
      ))
      (λ (within : m.deadline ≤ n).
      omega (
        arith,
        little,
        mul-le-mul_left s.settings.base (counted m ms is),
        misses_cost_quanta s n r m.deadline scenario run,
        overload-rises s r m.deadline n within,
      ))
      (cases_lt n m.deadline))

overload-none : (s : Plan) (r : List Slot) → IsWithinRoom s r → (v : ℕ) → v ≤ length r → overload_of s r v ≡ 0
unfolding overload_of
overload-none s r within zero le = refl
overload-none s r within (suc v) le = omega (arith, overload-none s r within v (omega (arith, le)), within v le)

pub no_window_is_missed : NoWindowIsMissed
no_window_is_missed s n r scenario run within =
    miss_costs_quantum s n r scenario run
    (omega (arith, scenario.settings.limits.base.some, run.slots, overload-none s r within n (omega (arith, run.slots))))
