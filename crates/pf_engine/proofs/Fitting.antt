-- An engine that fits a scenario and a run of it gives the next slot, and then fits the longer run.
use Rattle.std.proofs.Common.{◌≡◌, ℕ, suc, ◌+◌, ◌≤◌, List, [], ◌∷◌, ◌++◌, length, refl, sym, ap, ap₂, ◌∙◌, subst, subst₂, arith, ⊎_elim}
use Rattle.std.proofs.lemmas.Bool.{cases_lt}
use Rattle.std.proofs.lemmas.List.{length-append, take-append-le, take_at, get_or_append_left, get_or_push}
use Rattle.std.proofs.lemmas.List.Elements.{All-nil}
use Rattle.pf_order.specs.First.{AreFirst}
use Rattle.pf_scenario.specs.Event.{slot_of}
use Rattle.pf_scenario.specs.Scenario.{Plan, events_of, past}
use Rattle.pf_scenario.specs.Edit.{IsScenario}
use Rattle.pf_scenario.specs.declared.event.Numbered.{Numbered}
use Rattle.pf_run.specs.Record.{Slot, denials_of, in_force}
use Rattle.pf_run.specs.Inside.{ready, count_of}
use Rattle.pf_run.specs.Run.{events_in_force, ArePicks, IsNextSlot, IsRun}
use Rattle.pf_run.specs.Computed.{after_events}
use Rattle.pf_engine.specs.Fits.{Kept, kept_after, Fits, Taken, TakesSlot}
use Rattle.pf_engine.specs.Kept.{ready_keys, kept_after_picks}
use Rattle.pf_engine.specs.Taking.{Advances}
use Rattle.pf_run.proofs.Judged.{along_run, length_snoc, next_from_equation, next_from_one_by_one}
use Rattle.pf_engine.specs.Points.{IsPoint, CanFollow}
use Rattle.pf_engine.proofs.Events.{AreTaken, kept_taken}
use Rattle.pf_engine.proofs.Picks.{AreNext, kept_picked}
use Rattle.pf_engine.proofs.Ready.{ready_same, next_chosen, point_picked}
use Rattle.pf_run.proofs.Plans.{slots_of_events, limits_of_events, past_few, in_force_few, joins_at}
use Rattle.pf_run.proofs.Within.{in_force_limits}

-- the point that a run leads to
point_none : (s : Plan) → IsPoint [] (events_in_force s [] 0)
unfolding in_force
point_none s = record {
  past = All-nil (λ x. slot_of x.event ≤ 0);
  fresh = λ task none. record { stays = refl; undelayed = λ q i. refl; idle = refl };
}

-- the events of the slot that comes next can follow
pub can_follow : (s : Plan) (r : List Slot) → IsScenario s → IsPoint r (events_in_force s r (length r)) →
    CanFollow s.settings r (events_in_force s r (length r)) (events_of s (length r))
can_follow s r scenario point =
    let t = length r in
    record {
      point = point;
      limits = in_force_limits s t (denials_of r) scenario;
      limits_of_events = limits_of_events s t scenario;
      slots = slots_of_events s t;
      once = joins_at s (denials_of r) t scenario;
      few = omega (
        arith,
        scenario.few,
        past_few s (suc t),
        length-append (past s t) (events_of s t),
        in_force_few (denials_of r) (past s t),
      );
    }

events_taken : (s : Plan) (r : List Slot) → IsScenario s → IsPoint r (events_in_force s r (length r)) →
    AreTaken s.settings r (events_in_force s r (length r)) (events_of s (length r))
events_taken s r scenario point = kept_taken s.settings r (events_in_force s r (length r)) (events_of s (length r)) (can_follow s r scenario point)

point_more : (s : Plan) → IsScenario s → (r : List Slot) (slot : Slot) → IsRun s (length r) r → IsNextSlot s r slot →
    IsPoint r (events_in_force s r (length r)) → IsPoint (r ++ slot ∷ []) (events_in_force s (r ++ slot ∷ []) (length (r ++ slot ∷ [])))
point_more s scenario r slot run next point =
    let stands = (next_from_equation s r slot scenario run next.denials).stands in
    let picks = subst (λ xs. ArePicks s r xs slot.picks) stands next.picks in
    let taken = events_taken s r scenario point in
    let after = point_picked s.settings.base _ r slot _ picks.chosen picks.are_first picks.subtasks taken.after.point in
    subst (IsPoint (r ++ slot ∷ []))
    (sym stands ∙ ap (λ t. events_in_force s (r ++ slot ∷ []) t) (sym (length_snoc r slot))) after

pub point_of_run : (s : Plan) → IsScenario s → (n : ℕ) (r : List Slot) → IsRun s n r → IsPoint r (events_in_force s r (length r))
point_of_run s scenario = along_run s (λ r. IsPoint r (events_in_force s r (length r))) (point_none s) (point_more s scenario)

-- a run and its next slot
pub run_push : (s : Plan) (r : List Slot) (slot : Slot) → IsRun s (length r) r → IsNextSlot s r slot →
    IsRun s (length (r ++ slot ∷ [])) (r ++ slot ∷ [])
run_push s r slot run next = record {
  slots = refl;
  each = λ t d below. ⊎_elim
      (λ before. subst₂ (IsNextSlot s) (sym (take-append-le t r (slot ∷ []) (omega arith)))
      (sym (get_or_append_left r (slot ∷ []) d t before)) (run.each t d before))
      (λ last.
      let at : length r ≡ t = omega (arith, length_snoc r slot) in
      subst₂ (IsNextSlot s) (sym (take_at r (slot ∷ []) t at)) (sym (get_or_push r slot d t at)) next)
      (cases_lt t (length r));
}

-- the slot that an engine gives
takes_kept : (s : Plan) (r : List Slot) (o : Taken) (e' : Kept) → IsScenario s → IsRun s (length r) r →
    Advances (kept_after s.settings r (events_in_force s r (length r))) (events_of s (length r)) o e' → TakesSlot s r o e'
unfolding kept_after
takes_kept s r o e' scenario run advances =
    let xs = events_in_force s r (length r) in
    let ys = events_of s (length r) in
    let taken = events_taken s r scenario (point_of_run s scenario (length r) r run) in
    let after = after_events s.settings r xs ys in
    let chosen = advances.chosen in
    let first : AreFirst (count_of s.settings.processors after) (ready s.settings.base r after) chosen =
    subst (λ keys. AreFirst (count_of s.settings.processors after) keys chosen) (ready_same s.settings r after)
    (subst (λ e. AreFirst e.count (ready_keys e) chosen) taken.kept advances.are_first) in
    let denials = next_from_one_by_one s r o.slot scenario run (advances.denials ∙ taken.denied) in
    let next : IsNextSlot s r o.slot = record {
      denials = denials.equation;
      picks = subst (λ at. ArePicks s r at o.slot.picks) (sym denials.stands)
          (record { chosen = chosen; are_first = first; subtasks = advances.picks });
    } in
    let now : length r + 1 ≡ length (r ++ o.slot ∷ []) = omega (arith, length_snoc r o.slot) in
    let stands : after ≡ events_in_force s (r ++ o.slot ∷ []) (length (r ++ o.slot ∷ [])) =
    sym denials.stands ∙ ap (λ t. events_in_force s (r ++ o.slot ∷ []) t) (sym (length_snoc r o.slot)) in
    let of_next = subst (AreNext r) (sym advances.picks) (next_chosen s.settings.base (count_of s.settings.processors after) r after chosen first) in
    record {
      next = next;
      count = advances.count ∙ ap (λ (e : Kept). e.count) taken.kept
          ∙ ap (count_of s.settings.processors) (stands ∙ ap (λ t. events_in_force s (r ++ o.slot ∷ []) t) (sym now));
      fits = record {
        is_run = run_push s r o.slot run next;
        keeps = advances.after
            ∙ ap₂ kept_after_picks taken.kept (sym advances.picks)
            ∙ kept_picked s.settings r o.slot after of_next taken.after.point.past
            ∙ ap (kept_after s.settings (r ++ o.slot ∷ [])) stands;
      };
    }

pub fits_slot : (s : Plan) (r : List Slot) (e : Kept) (events : List Numbered) (o : Taken) (e' : Kept) → IsScenario s →
    Fits s r e → events ≡ events_of s (length r) → Advances e events o e' → TakesSlot s r o e'
fits_slot s r e events o e' scenario fits same advances =
    takes_kept s r o e' scenario fits.is_run (subst₂ (λ k ys. Advances k ys o e') fits.keeps same advances)
