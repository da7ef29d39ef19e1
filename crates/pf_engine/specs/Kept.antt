-- What events and picks make of what an engine keeps.
use Rattle.std.specs.Prelude.{ℕ, ◌+◌, ◌-◌, ◌==◌, not, if◌then◌else◌, Option, Some, None, List, [], ◌∷◌, ◌++◌, map, filter, filter_map, find, fold}
use Rattle.std.specs.Option.{option_map}
use Rattle.pf_weight.specs.Share.{share_of}
use Rattle.pf_order.specs.Priority.{Priority}
use Rattle.pf_order.specs.declared.pick.Pick.{Pick}
use Rattle.pf_scenario.specs.declared.event.Event.{Event}
use Rattle.pf_scenario.specs.declared.event.Event.TheVariants.{Join, Leave, Delay, Limit}
use Rattle.pf_scenario.specs.declared.event.Numbered.{Numbered}
use Rattle.pf_admit.specs.Admission.{join_denial, leave_denial, delay_denial}
use Rattle.pf_admit.specs.declared.member.Member.{Member}
use Rattle.pf_admit.specs.declared.denial.Denial.{Denial}
use Rattle.pf_run.specs.declared.denied.Denied.{Denied}
use Rattle.pf_run.specs.Inside.{ready_key}
use Rattle.pf_run.specs.Denials.{denied_for}
use Rattle.pf_engine.specs.Fits.{KeptTask, Kept}

-- the member of this number among the tasks
abbrev pub member_in : List KeptTask → ℕ → Option Member
member_in tasks task = option_map (λ k. k.member) (find (λ k. k.task == task) tasks)

-- the tasks, where the member of this number is changed
abbrev pub changed_task : ℕ → (Member → Member) → KeptTask → KeptTask
changed_task task f k = if k.task == task then record { task = k.task; member = f k.member } else k

abbrev pub changed_tasks : ℕ → (Member → Member) → List KeptTask → List KeptTask
changed_tasks task f tasks = map (changed_task task f) tasks

-- the tasks of other numbers
abbrev pub other_tasks : ℕ → List KeptTask → List KeptTask
other_tasks task tasks = filter (λ k. not (k.task == task)) tasks

-- the units of a member, where there is one
abbrev pub units_of : Option Member → ℕ
units_of None = 0
units_of (Some m) = m.weight.units

-- a task that joins
abbrev pub new_task : ℕ → ℕ → ℕ → ℕ → ℕ → ℕ → KeptTask
new_task base slot task cost period early = record {
  task = task;
  member = record {
    weight = share_of base cost period;
    joined = slot;
    early = early;
    done = 0;
    shift = slot;
    last = slot;
  };
}

-- a member that is delayed, and one whose subtask runs
abbrev pub member_after_delay : ℕ → Member → Member
member_after_delay by m = record m { shift = m.shift + by }

abbrev pub member_after_run : ℕ → Member → Member
member_after_run sub m = record m { done = sub; last = m.shift }

-- why an event's rule fails
abbrev pub denial_at : Kept → Event → Option Denial
denial_at e (Join slot task cost period early) =
    join_denial e.load (share_of e.settings.base cost period).units e.settings.cap
denial_at e (Leave slot task) = leave_denial slot (member_in e.tasks task)
denial_at e (Delay slot task by) = delay_denial slot (member_in e.tasks task)
denial_at e (Limit slot count) = None

-- what is kept after an event that isn't denied
abbrev pub kept_with_event : Kept → Event → Kept
kept_with_event e (Join slot task cost period early) = record e {
  tasks = e.tasks ++ new_task e.settings.base slot task cost period early ∷ [];
  load = e.load + (share_of e.settings.base cost period).units;
}
kept_with_event e (Leave slot task) = record e {
  tasks = other_tasks task e.tasks;
  load = e.load - units_of (member_in e.tasks task);
}
kept_with_event e (Delay slot task by) = record e { tasks = changed_tasks task (member_after_delay by) e.tasks }
kept_with_event e (Limit slot count) = record e { count = count }

-- what is kept after an event with this denial
abbrev pub kept_after_verdict : Option Denial → Kept → Kept → Kept
kept_after_verdict None e after = after
kept_after_verdict (Some denial) e after = e

abbrev pub kept_after_event : Kept → Event → Kept
kept_after_event e event = kept_after_verdict (denial_at e event) e (kept_with_event e event)

-- what is kept after the events of a slot
abbrev pub kept_after_events : Kept → List Numbered → Kept
kept_after_events e [] = e
kept_after_events e (x ∷ xs) = kept_after_events (kept_after_event e x.event) xs

-- those of the events of a slot that are denied
abbrev pub denials_of_slot : Kept → List Numbered → List Denied
denials_of_slot e [] = []
denials_of_slot e (x ∷ xs) = denied_for x e.now (denial_at e x.event) ++ denials_of_slot (kept_after_event e x.event) xs

-- the keys of the subtasks that may run
abbrev pub ready_keys : Kept → List Priority
ready_keys e = filter_map (λ k. ready_key e.now k.task k.member) e.tasks

-- the tasks after a pick
abbrev pub tasks_after_pick : List KeptTask → Pick → List KeptTask
tasks_after_pick tasks p = changed_tasks p.task (member_after_run p.sub) tasks

-- what is kept after a slot in which these subtasks run
abbrev pub kept_after_picks : Kept → List Pick → Kept
kept_after_picks e picks = record e { now = e.now + 1; tasks = fold tasks_after_pick e.tasks picks }
