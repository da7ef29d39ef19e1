-- The rows of a run of renumbered events.
use Rattle.std.proofs.Common.{◌≡◌, ℕ, zero, suc, List, [], ◌∷◌, ◌++◌, length, map, refl, sym, ap, ap₂, ◌∙◌, append_assoc}
use Rattle.std.proofs.lemmas.List.{map-append}
use Rattle.pf_order.specs.declared.pick.Pick.{Pick}
use Rattle.pf_place.specs.RunRows.{rows_of}
use Rattle.pf_scenario.specs.Scenario.{Plan}
use Rattle.pf_scenario.specs.Edit.{IsScenario}
use Rattle.pf_scenario.proofs.Lists.{Pairs}
use Rattle.pf_run.specs.Record.{Slot, denials_of}
use Rattle.pf_run.specs.Inside.{count_of}
use Rattle.pf_run.specs.Run.{events_in_force}
use Rattle.pf_run.specs.Computed.{course_of, run_of}
use Rattle.pf_run.specs.RunRows.{count_in_last, turns_behind, turns_of, rows_in, denials_in}
use Rattle.pf_run.proofs.Runs.{course_is_run, computed_length}
use Rattle.pf_script_laws.specs.Reopening.Renumbered.{renumber, denied_under}
use Rattle.pf_script_laws.proofs.ReopeningLemmas.Renumbering.{RiseUnder, slot_under, plan_under, course_kept, run_kept, denials_of_kept, count_kept}

-- the turns, one slot further
turns_push : (s : Plan) (r slots : List Slot) (slot : Slot)
    → turns_behind s r (slots ++ slot ∷ []) ≡ turns_behind s r slots ++ (count_in_last s (r ++ (slots ++ slot ∷ [])), slot.picks) ∷ []
turns_push s r [] slot = refl
turns_push s r (x ∷ slots) slot =
    let first : ℕ × List Pick = (count_in_last s (r ++ x ∷ []), x.picks) in
    let before = turns_behind s (r ++ x ∷ []) slots in
    ap (λ turns. first ∷ turns) (turns_push s (r ++ x ∷ []) slots slot)
    ∙ (λ k. first ∷ (before ++ (count_in_last s (append_assoc r (x ∷ []) (slots ++ slot ∷ []) k), slot.picks) ∷ []))

-- the events in force after a run are those of its course
standing_in_force : (s : Plan) (n : ℕ) → IsScenario s → (course_of s n).standing ≡ events_in_force s (run_of s n) (length (run_of s n))
standing_in_force s n scenario =
    (course_is_run s n scenario).stands ∙ ap (events_in_force s (run_of s n)) (sym (computed_length s n scenario))

module _ (f : ℕ → ℕ) (s : Plan) (next : ℕ) (of_s : IsScenario s) (of_new : IsScenario (plan_under f s next)) (rise : Pairs (RiseUnder f) s.events) where
  -- what is in force after the run
  pub in_force_kept : (n : ℕ) → events_in_force (plan_under f s next) (map (slot_under f) (run_of s n)) (length (map (slot_under f) (run_of s n)))
      ≡ map (renumber f) (events_in_force s (run_of s n) (length (run_of s n)))
  in_force_kept n =
      ap (λ r. events_in_force (plan_under f s next) r (length r)) (sym (run_kept f s next n rise))
      ∙ sym (standing_in_force (plan_under f s next) n of_new)
      ∙ ap (λ c. c.standing) (course_kept f s next n rise)
      ∙ ap (map (renumber f)) (standing_in_force s n of_s)

  last_kept : (n : ℕ) → count_in_last (plan_under f s next) (map (slot_under f) (run_of s n)) ≡ count_in_last s (run_of s n)
  last_kept n =
      ap (count_of s.settings.processors) (in_force_kept n)
      ∙ count_kept f s.settings.processors (events_in_force s (run_of s n) (length (run_of s n)))

  turns_kept : (n : ℕ) → turns_of (plan_under f s next) (map (slot_under f) (run_of s n)) ≡ turns_of s (run_of s n)
  unfolding course_of
  turns_kept zero = refl
  turns_kept (suc n) = more (run_of s n) (run_of s (suc n)) _ refl (turns_kept n) (last_kept (suc n))
    where
      more : (r all : List Slot) (slot : Slot) → all ≡ r ++ slot ∷ []
          → turns_of (plan_under f s next) (map (slot_under f) r) ≡ turns_of s r
          → count_in_last (plan_under f s next) (map (slot_under f) all) ≡ count_in_last s all
          → turns_of (plan_under f s next) (map (slot_under f) all) ≡ turns_of s all
      more r all slot is before last =
          ap (turns_of (plan_under f s next)) (ap (map (slot_under f)) is ∙ map-append (slot_under f) r (slot ∷ []))
          ∙ turns_push (plan_under f s next) [] (map (slot_under f) r) (slot_under f slot)
          ∙ ap₂ (λ (turns : List (ℕ × List Pick)) (n : ℕ). turns ++ (n, slot.picks) ∷ []) before
          (ap (count_in_last (plan_under f s next)) (sym (ap (map (slot_under f)) is ∙ map-append (slot_under f) r (slot ∷ []))) ∙ last ∙ ap (count_in_last s) is)
          ∙ sym (turns_push s [] r slot)
          ∙ ap (turns_of s) (sym is)

  pub rows_kept : (n : ℕ) → rows_in (plan_under f s next) n ≡ rows_in s n
  unfolding rows_in
  rows_kept n =
      ap (rows_of s.settings.processors) (ap (turns_of (plan_under f s next)) (run_kept f s next n rise) ∙ turns_kept n)

  pub denials_in_kept : (n : ℕ) → denials_in (plan_under f s next) n ≡ map (denied_under f) (denials_in s n)
  unfolding denials_in
  denials_in_kept n = ap denials_of (run_kept f s next n rise) ∙ denials_of_kept f (run_of s n)
