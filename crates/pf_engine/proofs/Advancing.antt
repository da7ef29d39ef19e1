-- What a slot asks of its memory and of the choice.
use Rattle.std.proofs.Common.{◌≡◌, ℕ, ◌+◌, ◌<◌, ◌≤◌, true, not, ◌==◌, get_or, Option, Some, None, All, List, [], ◌∷◌, length, sym, ap, ◌∙◌, subst, arith}
use Rattle.std.proofs.lemmas.Bool.{eqb-true}
use Rattle.std.proofs.lemmas.List.{length_push, length-map}
use Rattle.std.proofs.lemmas.List.Elements.{All-map}
use Rattle.std.proofs.lemmas.List.Sums.{length-filter, count_by-le-length}
use Rattle.pf_weight.specs.declared.task.TheConstants.{LARGEST_TASK}
use Rattle.pf_scenario.specs.System.{System}
use Rattle.pf_scenario.specs.Event.{is_join_of}
use Rattle.pf_scenario.specs.Edit.{IsEvent}
use Rattle.pf_scenario.specs.declared.event.Event.{Event}
use Rattle.pf_scenario.specs.declared.event.Event.TheVariants.{Join, Leave, Delay, Limit}
use Rattle.pf_scenario.specs.declared.event.Numbered.{Numbered}
use Rattle.pf_admit.specs.declared.denial.Denial.{Denial}
use Rattle.pf_run.specs.Computed.{after_events}
use Rattle.pf_engine.specs.Fits.{KeptTask, Kept, kept_task, kept_after}
use Rattle.pf_engine.specs.Kept.{changed_task, member_after_delay, new_task, denial_at, kept_with_event, kept_after_verdict, kept_after_event, kept_after_events, ready_keys}
use Rattle.pf_engine.specs.Points.{IsAt}
use Rattle.pf_engine.specs.Roll.{AllJoinBelow}
use Rattle.pf_run.specs.Record.{Slot}
use Rattle.pf_run.specs.Inside.{inside, member_of, ready}
use Rattle.pf_run.proofs.Keys.{ready_count}
use Rattle.pf_run.proofs.Firsts.{TasksDiffer}
use Rattle.pf_run.proofs.Within.{done_within}
use Rattle.pf_engine.proofs.Chosen.{keys_differ}
use Rattle.pf_run.proofs.Limits.{join_task}
use Rattle.pf_engine.proofs.Events.{kept_taken}
use Rattle.pf_engine.proofs.Ready.{ready_same}

-- each event joins a task of a number within the limits, or none
join_below : (s : System) (event : Event) (task : ℕ) → IsEvent s event → is_join_of task event ≡ true → task < LARGEST_TASK + 1
join_below s (Join slot task' cost period early) task limits joins =
    omega (arith, (join_task s slot task' cost period early limits).1, eqb-true task' task joins)
join_below s (Leave slot task') task limits joins = cc
join_below s (Delay slot task' by) task limits joins = cc
join_below s (Limit slot count) task limits joins = cc

pub all_join_below : (e : Kept) (events : List Numbered) → IsAt e events → AllJoinBelow (LARGEST_TASK + 1) events
all_join_below e events at =
    λ k d within task joins. join_below at.settings (get_or events k d).event task (at.follow.limits_of_events k d within) joins

-- each event brings one task at most
with_event_few : (e : Kept) (event : Event) → length (kept_with_event e event).tasks ≤ length e.tasks + 1
with_event_few e (Join slot task cost period early) =
    omega (arith, length_push e.tasks (new_task e.settings.base slot task cost period early))
with_event_few e (Leave slot task) =
    omega (arith, length-filter (λ (k : KeptTask). not (k.task == task)) e.tasks, count_by-le-length (λ (k : KeptTask). not (k.task == task)) e.tasks)
with_event_few e (Delay slot task by) = omega (arith, length-map e.tasks (changed_task task (member_after_delay by)))
with_event_few e (Limit slot count) = omega arith

unless_denied_few : (o : Option Denial) (e after : Kept) → length after.tasks ≤ length e.tasks + 1 → length (kept_after_verdict o e after).tasks ≤ length e.tasks + 1
unless_denied_few None e after few = few
unless_denied_few (Some denial) e after few = omega arith

pub event_few : (e : Kept) (event : Event) → length (kept_after_event e event).tasks ≤ length e.tasks + 1
event_few e event = unless_denied_few (denial_at e event) e (kept_with_event e event) (with_event_few e event)

pub events_few : (e : Kept) (xs : List Numbered) → length (kept_after_events e xs).tasks ≤ length e.tasks + length xs
events_few e [] = omega arith
events_few e (x ∷ xs) =
    omega (arith, events_few (kept_after_event e x.event) xs, event_few e x.event)

-- no two keys of eligible subtasks are of one task
pub ready_differ : (e : Kept) (events : List Numbered) → IsAt e events → TasksDiffer (ready_keys e)
ready_differ e events at =
    let s = at.settings in
    subst (λ k. TasksDiffer (ready_keys k)) (sym at.keeps)
    (subst TasksDiffer (sym (ready_same s at.run at.standing))
    (keys_differ (ready s.base at.run at.standing) (λ task. omega (arith, ready_count s.base at.run at.standing task, at.follow.once task))))

-- no task ran more often than slots were taken
done_after : (s : System) (r : List Slot) (xs : List Numbered) → All (λ k. k.member.done ≤ length r) (kept_after s r xs).tasks
unfolding kept_after member_of
done_after s r xs =
    All-map (λ (k : KeptTask). k.member.done ≤ length r) (kept_task r xs) (inside s.base xs) (λ k d within. done_within r (get_or (inside s.base xs) k d).task)

done_in_slots : (s : System) (r : List Slot) (xs : List Numbered) → All (λ k. k.member.done ≤ (kept_after s r xs).now) (kept_after s r xs).tasks
unfolding kept_after done_after
done_in_slots s r xs = done_after s r xs

pub done_at : (e : Kept) (events : List Numbered) → IsAt e events → All (λ k. k.member.done ≤ e.now) e.tasks
done_at e events at =
    subst (λ k. All (λ (x : KeptTask). x.member.done ≤ k.now) k.tasks) (sym at.keeps) (done_in_slots at.settings at.run at.standing)

-- after all events
pub at_end : (e e' : Kept) (ys : List Numbered) → e' ≡ kept_after_events e ys → IsAt e ys → IsAt e' []
at_end e e' ys same at =
    let taken = kept_taken at.settings at.run at.standing ys at.follow in
    record {
      settings = at.settings;
      run = at.run;
      standing = after_events at.settings at.run at.standing ys;
      is_system = at.is_system;
      reached = at.reached;
      follow = taken.after;
      keeps = same ∙ ap (λ k. kept_after_events k ys) at.keeps ∙ taken.kept;
    }

pub same_settings : (e e' : Kept) (ys : List Numbered) → e' ≡ kept_after_events e ys → IsAt e ys → e'.settings ≡ e.settings
unfolding kept_after at_end
same_settings e e' ys same at =
    ap (λ (k : Kept). k.settings) (at_end e e' ys same at).keeps ∙ sym (ap (λ (k : Kept). k.settings) at.keeps)
