-- The keys of the subtasks that may run: of tasks inside, each the next of its task, and no two of one task.
use Rattle.std.proofs.Common.{◌≡◌, ℕ, ◌+◌, ◌≤◌, false, ◌==◌, cond, List, [], ◌∷◌, ◌++◌, length, map, ap, ap₂, ◌∙◌, arith}
use Rattle.std.proofs.lemmas.Bool.{ne_eqb}
use Rattle.std.proofs.lemmas.List.{length_push}
use Rattle.std.proofs.lemmas.List.Elements.{All-weaker, All-map}
use Rattle.std.proofs.lemmas.List.Folds.{list_any_none}
use Rattle.pf_lemmas.proofs.Filters.{filter_map_map}
use Rattle.pf_order.specs.Priority.{Priority}
use Rattle.pf_order.specs.First.{AreFirst}
use Rattle.pf_order.specs.declared.pick.Pick.{Pick}
use Rattle.pf_scenario.specs.System.{System}
use Rattle.pf_scenario.specs.Event.{slot_of}
use Rattle.pf_scenario.specs.declared.event.Numbered.{Numbered}
use Rattle.pf_run.specs.Record.{Slot, runs, next_sub}
use Rattle.pf_run.specs.Inside.{inside, ready_key, ready}
use Rattle.pf_run.specs.Run.{pick_of_key}
use Rattle.pf_engine.specs.Fits.{kept_task, kept_after}
use Rattle.pf_engine.specs.Kept.{ready_keys}
use Rattle.pf_run.specs.Inside.{joins_of}
use Rattle.pf_engine.specs.Points.{IsPoint}
use Rattle.pf_engine.proofs.Picks.{AreNext, is_picked}
use Rattle.pf_run.proofs.Later.{runs_push}
use Rattle.pf_run.proofs.Keys.{IsNextKey, ready_next, all_chosen}

-- the keys are those of the definition
pub ready_same : (s : System) (r : List Slot) (xs : List Numbered) → ready_keys (kept_after s r xs) ≡ ready s.base r xs
unfolding kept_after ready
ready_same s r xs = filter_map_map (λ k. ready_key (length r) k.task k.member) (kept_task r xs) (inside s.base xs)

pub next_chosen : (base n : ℕ) (r : List Slot) (xs : List Numbered) (chosen : List Priority) → AreFirst n (ready base r xs) chosen →
    AreNext r (map pick_of_key chosen)
next_chosen base n r xs chosen first =
    All-map (λ p. p.sub ≡ next_sub r p.task) pick_of_key chosen
    (All-weaker (IsNextKey r xs) (λ k. k.sub ≡ next_sub r k.task) (λ k h. h.next) chosen
    (all_chosen (IsNextKey r xs) n (ready base r xs) chosen first (ready_next base r xs)))

-- a task that didn't join isn't picked
none_picked : (base n : ℕ) (r : List Slot) (xs : List Numbered) (chosen : List Priority) → AreFirst n (ready base r xs) chosen →
    (task : ℕ) → joins_of task xs ≡ 0 → is_picked task (map pick_of_key chosen) ≡ false
none_picked base n r xs chosen first task none =
    list_any_none (λ (p : Pick). p.task == task) (map pick_of_key chosen)
    (All-map (λ p. (p.task == task) ≡ false) pick_of_key chosen
    (All-weaker (IsNextKey r xs) (λ k. (k.task == task) ≡ false)
    (λ k h. ne_eqb k.task task (λ e. absurd (omega (arith, h.joined, ap (λ t. joins_of t xs) e)))) chosen
    (all_chosen (IsNextKey r xs) n (ready base r xs) chosen first (ready_next base r xs))))

-- the point after the picks
pub point_picked : (base n : ℕ) (r : List Slot) (d : Slot) (xs : List Numbered) (chosen : List Priority) →
    AreFirst n (ready base r xs) chosen → d.picks ≡ map pick_of_key chosen → IsPoint r xs → IsPoint (r ++ d ∷ []) xs
point_picked base n r d xs chosen first picks point = record {
  past = All-weaker (λ x. slot_of x.event ≤ length r) (λ x. slot_of x.event ≤ length (r ++ d ∷ []))
      (λ x h. omega (arith, length_push r d)) xs point.past;
  fresh = λ task none.
      let new = point.fresh task none in
      let idle : runs task d ≡ false = ap (is_picked task) picks ∙ none_picked base n r xs chosen first task none in
      record {
        stays = new.stays;
        undelayed = new.undelayed;
        idle = runs_push r d task ∙ ap₂ (λ m b. m + cond b 1 0) new.idle idle;
      };
}
