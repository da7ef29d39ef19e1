use Rattle.std.proofs.Common.{ap}
use Rattle.pf_calendar.specs.Queues.{Queues}
use Rattle.pf_heap.specs.Keys.{Heaps}
use Rattle.pf_calendar.proofs.Whole.{new_calendar, new_seen}
use Rattle.pf_calendar.proofs.Notes.{notes_none}
use Rattle.pf_calendar.proofs.calendar.Calendar.new.Goals as goal

pub invariant_of-result : goal.invariant_of-result
invariant_of-result c =
    let none = c.in_ok-new.ensures in (
      new_calendar c.in_ok-new.field-0 c.new-2.result.items c.new-3.result.items _ _ none c.new-2.ensures.items c.new-3.ensures.items,
      notes_none (ap (λ (q : Queues). q.waiting) (new_seen c.in_ok-new.field-0 c.new-2.result.items none c.new-2.ensures.items)) (ap (λ (h : Heaps). h.tasks) none),
    )

pub returns : goal.returns
returns c = new_seen c.in_ok-new.field-0 c.new-2.result.items c.in_ok-new.ensures c.new-2.ensures.items
