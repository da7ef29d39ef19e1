-- Where the load is within the processors in use, lags are within a quantum.
use Rattle.std.proofs.Common.{◌≡◌, ℕ, suc, ◌*◌, ◌<◌, List, [], length, Contains, arith, ap, sym, subst}
use Rattle.std.proofs.lemmas.Int.{ints}
use Rattle.pf_scenario.specs.Scenario.{Plan}
use Rattle.pf_scenario.specs.Edit.{IsScenario}
use Rattle.pf_scenario.specs.declared.event.Numbered.{Numbered}
use Rattle.pf_run.specs.Record.{Slot}
use Rattle.pf_run.specs.Inside.{Joined}
use Rattle.pf_run.specs.Run.{events_in_force, IsRun}
use Rattle.pf_run.proofs.Containing.{contains_none}
use Rattle.pf_tally.specs.Misses.{miss_of, misses_of}
use Rattle.pf_tally.proofs.Windows.{deadline_late}
use Rattle.pf_laws.proofs.PromiseLemmas.Joining.{all_joined}
use Rattle.pf_laws.proofs.PromiseLemmas.Ran.{IsMiss, is_miss}
use Rattle.pf_laws.proofs.PromiseLemmas.Counted.{in_misses}
use Rattle.pf_laws.proofs.PromiseLemmas.Promises.{no_window_is_missed}
use Rattle.pf_laws.specs.Promise.LagLaws.{LagsAreWithin}
use Rattle.pf_laws.proofs.PromiseLemmas.Stays.{share_of_joined}
use Rattle.pf_laws.proofs.PromiseLemmas.Above.{lags_are_above}
use Rattle.pf_laws.proofs.PromiseLemmas.Below.{lag_below}

module _ (s : Plan) (scenario : IsScenario s) (r : List Slot) (run : IsRun s (length r) r) where
  abbrev end_now : List Numbered
  end_now = events_in_force s r (length r)

  -- where no task missed a window, this one missed none
  none_of : misses_of s r ≡ [] → (j : Joined) → Contains (all_joined s r) j → (i : ℕ) → IsMiss s scenario r run j i → ⊥
  none_of none j at i miss =
      let lt : i < length r = omega (arith, miss.within, deadline_late j.weight (suc i) (share_of_joined s scenario r j at)) in
      contains_none (miss_of r end_now j (suc i))
      (subst (λ ms. Contains ms (miss_of r end_now j (suc i))) none
      (in_misses s scenario r run j at i lt (is_miss s scenario r run j i miss)))

pub lags_are_within : LagsAreWithin
lags_are_within s n r j t scenario run room at none_early stay =
    let run' : IsRun s (length r) r = subst (λ m. IsRun s m r) (sym run.slots) run in
    let high = lags_are_above s n r j t scenario run at stay in
    let early : j.weight.cost * j.early ≡ j.weight.cost * 0 = ap (λ k. j.weight.cost * k) none_early in (
      omega (arith, ints, high, early),
      lag_below s scenario r run' j at t (λ i miss due. none_of s scenario r run' (no_window_is_missed s n r scenario run room) j at i miss) stay,
    )
