-- The greatest costs of a run's tasks, a task further.
use Rattle.std.proofs.Common.{◌≡◌, ◌∙◌, ℕ, ◌+◌, ◌*◌, ◌/◌, ◌<◌, ◌≤◌, Option, List, [], ◌∷◌, ◌++◌, length, map, take, get_or, filter_map, sym, ap, ap₂}
use Rattle.std.proofs.lemmas.List.{map_more, take_all}
use Rattle.pf_scenario.specs.Scenario.{Plan}
use Rattle.pf_scenario.specs.declared.event.Numbered.{Numbered}
use Rattle.pf_run.specs.Record.{Slot}
use Rattle.pf_run.specs.Inside.{Joined, join_of}
use Rattle.pf_run.specs.Run.{events_in_force}
use Rattle.pf_run.specs.Computed.{run_of}
use Rattle.pf_collections.specs.Table.Lists.{noted_of}
use Rattle.pf_tally.specs.Figures.{last_slot}
use Rattle.pf_tally.specs.Lags.{by_task}
use Rattle.pf_tally.specs.Ledger.{IsLedger}
use Rattle.pf_tally.specs.declared.ledger.Ledger.{Ledger}
use Rattle.pf_tally.proofs.Figured.{last_own, sorted_at}
use Rattle.pf_tally.proofs.Ledgers.{task_diary}
use Rattle.pf_verdict.specs.Grow.{cost_of, end_of, grow_of, grows_of, least_left}

module _ (s : Plan) (n : ℕ) (ledger : Ledger) (known : IsLedger s n ledger) (tasks : List Joined)
    (of_tasks : tasks ≡ by_task (filter_map (join_of ledger.settings.base) ledger.events.items)) where
  abbrev r : List Slot
  r = run_of s n

  module _ (k : ℕ) (j : Joined) (within : k < length tasks) (is : j ≡ get_or tasks k j) where
    end_is : (diary : List Numbered) (last : ℕ) → diary ≡ noted_of ledger.diaries j.task → last ≡ last_slot diary j ledger.now → last ≡ end_of s r j
    end_is diary last of_diary last_is =
        last_is
        ∙ ap (λ xs. last_slot xs j ledger.now) (task_diary s n ledger known j (sorted_at s n ledger known tasks of_tasks k j within is) diary of_diary)
        ∙ last_own ledger.events.items j ledger.now
        ∙ ap₂ (λ xs m. last_slot xs j m) known.events known.now
        ∙ ap (λ m. last_slot (events_in_force s r m) j m) (sym known.slots)

    pub grow_added : (diary : List Numbered) (last left period base : ℕ) (new : Option ℕ) (before after : List (Option ℕ)) →
        diary ≡ noted_of ledger.diaries j.task → last ≡ last_slot diary j ledger.now → left ≡ least_left s r j last n → period ≡ j.weight.period →
        base ≡ s.settings.base → new ≡ cost_of (left * period / base) → after ≡ before ++ new ∷ [] → before ≡ map (grow_of s r) (take k tasks) →
        after ≡ map (grow_of s r) (take (k + 1) tasks)
    unfolding grow_of
    grow_added diary last left period base new before after of_diary last_is left_is period_is base_is new_is push so_far =
        let least : left ≡ least_left s r j (end_of s r j) (length r) =
        left_is ∙ ap₂ (least_left s r j) (end_is diary last of_diary last_is) (sym known.slots) in
        push
        ∙ ap₂ (λ xs x. xs ++ x ∷ []) so_far
        (new_is ∙ ap cost_of (ap₂ (λ a b. a / b) (ap₂ (λ a b. a * b) least period_is) base_is)
        ∙ ap (grow_of s r) is)
        ∙ sym (map_more (grow_of s r) tasks k j within)

  pub grows_all : (k : ℕ) (grows : List (Option ℕ)) → length tasks ≤ k → grows ≡ map (grow_of s r) (take k tasks) → grows ≡ grows_of s r
  grows_all k grows over so_far =
      so_far ∙ ap (map (grow_of s r)) (take_all k tasks over ∙ of_tasks)
      ∙ ap₂ (λ base xs. map (grow_of s r) (by_task (filter_map (join_of base) xs))) (ap (λ z. z.base) known.settings)
      (known.events ∙ ap (events_in_force s r) (sym known.slots))
