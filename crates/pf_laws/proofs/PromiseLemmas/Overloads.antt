-- The load of a run's schedule is that of the run.
use Rattle.std.proofs.Common.{◌≡◌, ℕ, zero, suc, ◌<◌, ◌≤◌, ◌==◌, Bool, true, List, length, map, filter, get_or, All, Contains, arith, ap, sym, ◌∙◌}
use Rattle.std.specs.List.{list_any}
use Rattle.std.proofs.lemmas.Bool.{eqb-true, eq-eqb}
use Rattle.std.proofs.lemmas.List.Elements.{Contains-get_or}
use Rattle.pf_lemmas.proofs.Sums.{sum_by-agree}
use Rattle.pf_scenario.specs.Scenario.{Plan}
use Rattle.pf_scenario.specs.Edit.{IsScenario}
use Rattle.pf_run.specs.Record.{Slot}
use Rattle.pf_run.specs.Inside.{Joined, inside, load_of}
use Rattle.pf_run.specs.Run.{events_in_force, IsRun}
use Rattle.pf_run.proofs.Counting.{sum_by-map}
use Rattle.pf_tally.proofs.Joined.{inside_joined}
use Rattle.pf_laws.specs.Ideal.Schedule.{load, overload}
use Rattle.pf_tally.specs.Load.{load_in, overload_of}
use Rattle.pf_tally.proofs.Contents.{list_any-contains, contains-list_any, list_any-map}
use Rattle.pf_laws.proofs.PromiseLemmas.Sets.{is_among, sum_by-among, sum_by-filter, filter_differ, among_filter}
use Rattle.pf_laws.proofs.PromiseLemmas.Joining.{demand_of, task_at, task_at-joined, tasks_differ}
use Rattle.pf_laws.proofs.PromiseLemmas.Choosing.{schedule_upto, joined_at_end}

module _ (s : Plan) (scenario : IsScenario s) (r : List Slot) (run : IsRun s (length r) r) where
  load-in : (end v : ℕ) → v < length r → load (schedule_upto s r end) v ≤ load_in s r v
  unfolding load_of
  load-in end v lt =
      let among = sum_by-among units (filter is_in (demand_of s r).tasks) (map (λ (j : Joined). j.task) now)
      (filter_differ is_in (demand_of s r).tasks (tasks_differ s scenario r)) within in
      omega (
        arith,
        among,
        sum_by-filter is_in units (demand_of s r).tasks,
        sum_by-map units (λ (j : Joined). j.task) now,
        sum_by-agree (λ (j : Joined). units j.task) (λ (j : Joined). j.weight.units) now same,
      )
    where
      now : List Joined
      now = inside s.settings.base (events_in_force s r (suc v))

      units : ℕ → ℕ
      units t = (task_at s r t).weight.units

      is_in : ℕ → Bool
      is_in t = list_any (λ (j : Joined). j.task == t) now

      within : (t : ℕ) → is_among (filter is_in (demand_of s r).tasks) t ≡ true → is_among (map (λ (j : Joined). j.task) now) t ≡ true
      within t h =
          let it = list_any-contains (λ (j : Joined). j.task == t) now (among_filter is_in t (demand_of s r).tasks h).1 in
          list_any-map (λ u. t == u) (λ (j : Joined). j.task) now
          ∙ contains-list_any (λ (j : Joined). t == j.task) now it.0 it.1 (eq-eqb t it.0.task (sym (eqb-true it.0.task t it.2)))

      same : All (λ (j : Joined). units j.task ≡ j.weight.units) now
      same k d below =
          let j = get_or now k d in
          let at : Contains now j = Contains-get_or now k d below in
          ap (λ (i : Joined). i.weight.units)
          (task_at-joined s scenario r j
          (joined_at_end s scenario r run v lt j (inside_joined s.settings.base (events_in_force s r (suc v)) j at)))

  pub overload-of : (end v : ℕ) → v ≤ length r → overload (schedule_upto s r end) v ≤ overload_of s r v
  unfolding overload overload_of
  overload-of end zero le = omega arith
  overload-of end (suc v) le = omega (arith, overload-of end v (omega (arith, le)), load-in end v le)
