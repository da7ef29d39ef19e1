-- The events of a slot, one after another, on what is kept.
use Rattle.std.proofs.Common.{◌≡◌, ℕ, ◌+◌, ◌≤◌, Bool, true, false, ◌&&◌, ◌==◌, cond, Option, Some, None, List, [], ◌∷◌, ◌++◌, length, option_map, refl, sym, ap, ap₂, ◌∙◌, arith}
use Rattle.std.proofs.lemmas.Bool.{or_from, ne_eqb}
use Rattle.std.proofs.lemmas.Bool.Decides.{nat_tests}
use Rattle.std.proofs.lemmas.List.{length_push}
use Rattle.std.proofs.lemmas.List.Sums.{sum_by_push}
use Rattle.std.proofs.lemmas.List.Elements.{All-push, All-head, All-tail}
use Rattle.pf_scenario.specs.System.{System}
use Rattle.pf_scenario.specs.Event.{slot_of, is_join_of, is_leave_of}
use Rattle.pf_scenario.specs.Edit.{IsEvent}
use Rattle.pf_scenario.specs.declared.event.Event.{Event}
use Rattle.pf_scenario.specs.declared.event.Event.TheVariants.{Join, Leave, Delay, Limit}
use Rattle.pf_scenario.specs.declared.event.Numbered.{Numbered}
use Rattle.pf_admit.specs.Admission.{leave_denial, delay_denial}
use Rattle.pf_admit.specs.declared.denial.Denial.{Denial}
use Rattle.pf_run.specs.Record.{Slot}
use Rattle.pf_run.specs.Inside.{inside, hold_back_of, member_of, member_at}
use Rattle.pf_run.specs.Denials.{denial_of, denied_for}
use Rattle.pf_run.specs.Computed.{with_event, after_events, denials_among}
use Rattle.pf_engine.specs.Fits.{kept_after}
use Rattle.pf_engine.specs.Kept.{kept_with_event, kept_after_verdict, kept_after_event, kept_after_events, denials_of_slot}
use Rattle.pf_run.specs.Inside.{joins_of}
use Rattle.pf_run.proofs.Counting.{none_found, count_by-cons}
use Rattle.pf_run.proofs.Points.{has_left_push, inside_count}
use Rattle.pf_engine.specs.Points.{IsNewTask, IsPoint, CanFollow}
use Rattle.pf_engine.proofs.Steps.{denial_same, limit_step, leave_step, join_step, delay_step}

pub joins_push : (xs : List Numbered) (x : Numbered) (task : ℕ) →
    joins_of task (xs ++ x ∷ []) ≡ joins_of task xs + cond (is_join_of task x.event) 1 0
joins_push xs x task = sum_by_push (λ y. cond (is_join_of task y.event) 1 0) xs x

-- no task joins twice among the events in force and this one
abbrev pub JoinsOnce : List Numbered → Event → Type 0
JoinsOnce xs event = (task : ℕ) → joins_of task xs + cond (is_join_of task event) 1 0 ≤ 1

joins_first : (xs : List Numbered) (task : ℕ) → joins_of task xs + cond (task == task) 1 0 ≤ 1 → joins_of task xs ≡ 0
joins_first xs task once = grind (arith, nat_tests)

with_event_step : (s : System) (r : List Slot) (xs : List Numbered) (id : ℕ) (event : Event) → slot_of event ≡ length r →
    JoinsOnce xs event → IsPoint r xs →
    kept_with_event (kept_after s r xs) event ≡ kept_after s r (xs ++ record { id = id; event = event } ∷ [])
with_event_step s r xs id (Join slot task cost period early) at once point =
    join_step s r xs id slot task cost period early (point.fresh task (joins_first xs task (once task)))
with_event_step s r xs id (Leave slot task) at once point = leave_step s r xs id slot task (omega (arith, once task))
with_event_step s r xs id (Delay slot task by) at once point = delay_step s r xs id slot task by at
with_event_step s r xs id (Limit slot count) at once point = limit_step s r xs id slot count

kept_unless : (s : System) (r : List Slot) (xs : List Numbered) (x : Numbered) (o : Option Denial) →
    slot_of x.event ≡ length r → JoinsOnce xs x.event → IsPoint r xs →
    kept_after_verdict o (kept_after s r xs) (kept_with_event (kept_after s r xs) x.event) ≡ kept_after s r (with_event xs x o)
kept_unless s r xs x None at once point = with_event_step s r xs x.id x.event at once point
kept_unless s r xs x (Some denial) at once point = refl

kept_step : (s : System) (r : List Slot) (xs : List Numbered) (x : Numbered) →
    slot_of x.event ≡ length r → JoinsOnce xs x.event → IsPoint r xs →
    kept_after_event (kept_after s r xs) x.event ≡ kept_after s r (with_event xs x (denial_of s r xs x.event))
kept_step s r xs x at once point =
    ap (λ o. kept_after_verdict o (kept_after s r xs) (kept_with_event (kept_after s r xs) x.event)) (denial_same s r xs x.event)
    ∙ kept_unless s r xs x (denial_of s r xs x.event) at once point

-- a task that joined nowhere isn't inside
pub no_member : (base : ℕ) (r : List Slot) (xs : List Numbered) (task : ℕ) → joins_of task xs ≡ 0 → member_at base r xs task ≡ None
no_member base r xs task none =
    ap (option_map (member_of r xs)) (none_found (λ j. j.task == task) (inside base xs) (omega (arith, inside_count base task xs)))

-- a task that is new stays so where an event speaks of another
new_push : (r : List Slot) (xs : List Numbered) (x : Numbered) (task : ℕ) → IsNewTask r xs task →
    is_leave_of task x.event ≡ false → ((q : List Slot) (i : ℕ) → hold_back_of q task i x.event ≡ 0) → IsNewTask r (xs ++ x ∷ []) task
new_push r xs x task new stays undelayed = record {
  stays = has_left_push xs x task ∙ or_from _ _ new.stays stays;
  undelayed = λ q i. omega (arith, sum_by_push (λ y. hold_back_of q task i y.event) xs x, new.undelayed q i, undelayed q i);
  idle = new.idle;
}

apart_from : (s : System) (r : List Slot) (xs : List Numbered) (task task' : ℕ) →
    (member_at s.base r xs task ≡ None → ⊥) → joins_of task' xs ≡ 0 → (task == task') ≡ false
apart_from s r xs task task' inside none =
    ne_eqb task task' (λ e. inside (no_member s.base r xs task (ap (λ t. joins_of t xs) e ∙ none)))

not_held : (b c : Bool) (by : ℕ) → b ≡ false → cond (b && c) by 0 ≡ 0
not_held true c by e = cc
not_held false c by e = refl

fresh_push : (s : System) (r : List Slot) (xs : List Numbered) (id : ℕ) (event : Event) → denial_of s r xs event ≡ None →
    (task : ℕ) → joins_of task xs ≡ 0 → IsNewTask r xs task → IsNewTask r (xs ++ record { id = id; event = event } ∷ []) task
fresh_push s r xs id (Join slot task' cost period early) admitted task none new =
    new_push r xs _ task new refl (λ q i. refl)
fresh_push s r xs id (Leave slot task') admitted task none new =
    new_push r xs _ task new
    (apart_from s r xs task' task (λ e. let k = sym (ap (leave_denial slot) e) ∙ admitted in cc) none)
    (λ q i. refl)
fresh_push s r xs id (Delay slot task' by) admitted task none new =
    new_push r xs _ task new refl
    (λ q i. not_held (task' == task) _ by
    (apart_from s r xs task' task (λ e. let k = sym (ap (delay_denial slot) e) ∙ admitted in cc) none))
fresh_push s r xs id (Limit slot count) admitted task none new =
    new_push r xs _ task new refl (λ q i. refl)

pub point_admitted : (s : System) (r : List Slot) (xs : List Numbered) (x : Numbered) → slot_of x.event ≡ length r →
    denial_of s r xs x.event ≡ None → IsPoint r xs → IsPoint r (xs ++ x ∷ [])
point_admitted s r xs x at admitted point = record {
  past = All-push (λ y. slot_of y.event ≤ length r) xs x point.past (omega arith);
  fresh = λ task none.
      let before : joins_of task xs ≡ 0 = omega (arith, joins_push xs x task) in
      fresh_push s r xs x.id x.event admitted task before (point.fresh task before);
}

-- one of the events more is taken
follow_with : (s : System) (r : List Slot) (xs : List Numbered) (y : Numbered) (ys : List Numbered) (o : Option Denial) →
    denial_of s r xs y.event ≡ o → CanFollow s r xs (y ∷ ys) → CanFollow s r (with_event xs y o) ys
follow_with s r xs y ys o e can =
    let limits = All-tail (λ x. IsEvent s x.event) y ys can.limits_of_events in
    let at = All-head (λ x. slot_of x.event ≡ length r) y ys can.slots in
    let slots = All-tail (λ x. slot_of x.event ≡ length r) y ys can.slots in
    elim o as (λ o. denial_of s r xs y.event ≡ o → CanFollow s r (with_event xs y o) ys) [
      | None ↦ λ admitted. record {
        point = point_admitted s r xs y at admitted can.point;
        limits = All-push (λ x. IsEvent s x.event) xs y can.limits (All-head (λ x. IsEvent s x.event) y ys can.limits_of_events);
        limits_of_events = limits;
        slots = slots;
        once = λ task. omega (arith, can.once task, joins_push xs y task, count_by-cons (λ x. is_join_of task x.event) y ys);
        few = omega (arith, can.few, length_push xs y);
      }
      | Some denial ↦ λ _. record {
        point = can.point;
        limits = can.limits;
        limits_of_events = limits;
        slots = slots;
        once = λ task. omega (arith, can.once task, count_by-cons (λ x. is_join_of task x.event) y ys);
        few = omega (arith, can.few);
      }
    ] e

pub follow_more : (s : System) (r : List Slot) (xs : List Numbered) (y : Numbered) (ys : List Numbered) → CanFollow s r xs (y ∷ ys) →
    CanFollow s r (with_event xs y (denial_of s r xs y.event)) ys
follow_more s r xs y ys can = follow_with s r xs y ys (denial_of s r xs y.event) refl can

pub kept_more : (s : System) (r : List Slot) (xs : List Numbered) (y : Numbered) (ys : List Numbered) → CanFollow s r xs (y ∷ ys) →
    kept_after_event (kept_after s r xs) y.event ≡ kept_after s r (with_event xs y (denial_of s r xs y.event))
kept_more s r xs y ys can =
    kept_step s r xs y (All-head (λ x. slot_of x.event ≡ length r) y ys can.slots)
    (λ task. omega (arith, can.once task, count_by-cons (λ x. is_join_of task x.event) y ys)) can.point

-- what the events of a slot leave, on what is kept and in the record
pub record AreTaken (s : System) (r : List Slot) (xs ys : List Numbered) : Type 0 where
  pub kept : kept_after_events (kept_after s r xs) ys ≡ kept_after s r (after_events s r xs ys)
  pub denied : denials_of_slot (kept_after s r xs) ys ≡ denials_among s r xs ys
  pub after : CanFollow s r (after_events s r xs ys) []

pub kept_taken : (s : System) (r : List Slot) (xs ys : List Numbered) → CanFollow s r xs ys → AreTaken s r xs ys
unfolding kept_after
kept_taken s r xs [] can = record { kept = refl; denied = refl; after = can }
kept_taken s r xs (y ∷ ys) can =
    let o = denial_of s r xs y.event in
    let step = kept_more s r xs y ys can in
    let rest = kept_taken s r (with_event xs y o) ys (follow_more s r xs y ys can) in
    record {
      kept = ap (λ e. kept_after_events e ys) step ∙ rest.kept;
      denied = ap₂ (λ q e. denied_for y (length r) q ++ denials_of_slot e ys) (denial_same s r xs y.event) step
          ∙ ap (λ ds. denied_for y (length r) o ++ ds) rest.denied;
      after = rest.after;
    }
