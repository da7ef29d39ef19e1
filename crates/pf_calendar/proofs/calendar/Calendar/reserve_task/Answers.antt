use Rattle.std.proofs.Common.{ℕ, ◌+◌, ◌-◌, max, length, ap, ◌∙◌, arith, rules, replicate}
use Rattle.pf_calendar.specs.Queues.{Queues}
use Rattle.std.proofs.lemmas.List.{length-append, length-replicate}
use Rattle.pf_collections.specs.Table.Grown.{Grown}
use Rattle.pf_heap.specs.Keys.{Heaps}
use Rattle.pf_calendar.proofs.Whole.{tasks_seen}
use Rattle.pf_calendar.proofs.Notes.{notes_grown}
use Rattle.pf_calendar.proofs.calendar.Calendar.reserve_task.Goals as goal

pub returns-clause-ok : goal.returns-clause-ok
returns-clause-ok c =
    tasks_seen c.self.inside.heaps c.reserve_task.new.self c.self.inside.waiting.items (c.self.inside.limit - c.self.inside.held)
    (max c.self.inside.heaps.tasks (c.args.task + 1)) c.in_ok-reserve_task.ensures.ok
    ∙ ap (λ (q : Queues). record q { tasks = max q.tasks (c.args.task + 1) }) c.self.view_is

pub invariant_of-self-2 : goal.invariant_of-self-2
invariant_of-self-2 c = (
  search rules,
  notes_grown
      (ap (λ (q : Queues). q.waiting) (tasks_seen c.self.inside.heaps c.reserve_task.new.self c.self.inside.waiting.items 0
      (max c.self.inside.heaps.tasks (c.args.task + 1)) c.in_ok-reserve_task.ensures.ok))
      c.in_ok-reserve.ensures.same
      (omega (
        arith,
        c.self.invariant.1.room,
        ap (λ (h : Heaps). h.tasks) c.in_ok-reserve_task.ensures.ok,
        ap (λ (g : Grown ℕ). length g.0) c.in_ok-reserve.ensures.ok,
        length-append c.self.inside.slots.0 (replicate (c.args.task + 1 - length c.self.inside.slots.0) c.self.inside.slots.1),
        length-replicate (c.args.task + 1 - length c.self.inside.slots.0) c.self.inside.slots.1,
      ))
      c.self.invariant.1,
)
