-- What the next slot costs in comparisons, by what the engine keeps and by the run that it fits.
use Rattle.std.proofs.Common.{◌≡◌, ℕ, ◌+◌, ◌≤◌, Option, List, length, sym, ap, ap₂, ◌∙◌, subst}
use Rattle.std.proofs.lemmas.List.{length-map}
use Rattle.pf_order.specs.declared.pick.Pick.{Pick}
use Rattle.pf_scenario.specs.Scenario.{Plan, events_of}
use Rattle.pf_scenario.specs.declared.event.Numbered.{Numbered}
use Rattle.pf_run.specs.declared.denied.Denied.{Denied}
use Rattle.pf_run.specs.Inside.{inside}
use Rattle.pf_run.specs.Run.{events_in_force}
use Rattle.pf_run.specs.Computed.{run_of}
use Rattle.pf_run.specs.RunRows.{count_in_last}
use Rattle.pf_run.proofs.Runs.{computed_length}
use Rattle.pf_engine.specs.Fits.{Kept, kept_task, kept_after, Taken, TakesSlot}
use Rattle.pf_engine.specs.Comparisons.{most_comparisons}
use Rattle.pf_timeline.specs.Keeping.{KeepsRun}
use Rattle.pf_timeline.specs.Comparisons.{tasks_before, processors_in, most_comparisons_at}
use Rattle.pf_timeline.proofs.Grown.{kept_now, count_is, run_grown}

module _ (s : Plan) (n : ℕ) (rows : List (List (Option Pick))) (denials : List Denied) (e : Kept) (keeps : KeepsRun s n rows denials e) where
  -- the engine keeps the tasks inside
  tasks_are : length e.tasks ≡ tasks_before s n
  unfolding kept_after
  tasks_are =
      let r = run_of s n in
      let xs = events_in_force s r (length r) in
      ap (λ (k : Kept). length k.tasks) keeps.engine.keeps
      ∙ length-map (inside s.settings.base xs) (kept_task r xs)
      ∙ ap (λ t. length (inside s.settings.base (events_in_force s (run_of s n) t))) (computed_length s n keeps.of_run.scenario)

  module _ (events : List Numbered) (are : events ≡ events_of s e.now) (taken : Taken) (after : Kept) (next : TakesSlot s (run_of s n) taken after) where
    processors_are : taken.count ≡ processors_in s n
    processors_are = count_is s n rows denials e keeps taken after next ∙ ap (count_in_last s) (sym (run_grown s n rows denials e keeps taken after next))

    events_are : length events ≡ length (events_of s n)
    events_are = ap length (are ∙ ap (events_of s) (kept_now s n rows denials e keeps))

    most_are : most_comparisons taken.count (length e.tasks) (length events) ≡ most_comparisons_at s n
    unfolding most_comparisons_at
    most_are =
        ap₂ (λ c k. most_comparisons c k (length events)) processors_are tasks_are
        ∙ ap (most_comparisons (processors_in s n) (tasks_before s n)) events_are

    -- Use: the slot that the engine takes makes no more comparisons than that of the run may.
    pub slot_compared : (old new : ℕ) → new ≤ old + most_comparisons taken.count (length e.tasks) (length events) → new ≤ old + most_comparisons_at s n
    slot_compared old new few = subst (λ k. new ≤ old + k) most_are few
