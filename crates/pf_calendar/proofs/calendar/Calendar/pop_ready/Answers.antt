use Rattle.std.proofs.Common.{◌-◌, refl, ap, sym, subst, arith}
use Rattle.pf_order.proofs.Comparing.{compares_within}
use Rattle.pf_heap.specs.Keys.{Heaps, IsFirst}
use Rattle.pf_calendar.specs.Invariant.{waiting_in}
use Rattle.pf_calendar.specs.Queues.{Queues, EachTaskOnce, NoneEmpty}
use Rattle.pf_calendar.proofs.Whole.{none_empty, each_task_once, ready_digits, popped, one_fewer}
use Rattle.pf_calendar.proofs.Notes.{notes_after}
use Rattle.pf_calendar.proofs.calendar.Calendar.pop_ready.Goals as goal

pub returns-in_err-key-clause-comparisons : goal.returns-in_err-key-clause-comparisons
returns-in_err-key-clause-comparisons c = compares_within (omega (arith, ready_digits c.self.invariant.0.laid c.self.view_is)) c.pop_main.ensures.comparisons

pub overflow_sub-self : goal.overflow_sub-self
overflow_sub-self c = (popped c.self.invariant.0 c.self.view_is c.in_ok-key.key c.in_ok-key.ensures.popped.0.0 c.in_ok-key.ensures.popped.1).0

pub invariant_of-self-2 : goal.invariant_of-self-2
invariant_of-self-2 c =
    let p = (popped c.self.invariant.0 c.self.view_is c.in_ok-key.key c.in_ok-key.ensures.popped.0.0 c.in_ok-key.ensures.popped.1).1 in (
      p.calendar,
      notes_after (ap (λ (q : Queues). q.waiting) c.self.view_is) (ap (λ (q : Queues). q.waiting) p.view) (ap (λ (h : Heaps). h.tasks) c.in_ok-key.ensures.popped.1)
          (λ s q h. h) c.self.invariant.1,
    )

pub returns-clause-popped : goal.returns-clause-popped
returns-clause-popped c = (
  subst (λ (q : Queues). IsFirst q.ready c.in_ok-key.key) c.self.view_is c.in_ok-key.ensures.popped.0,
  (popped c.self.invariant.0 c.self.view_is c.in_ok-key.key c.in_ok-key.ensures.popped.0.0 c.in_ok-key.ensures.popped.1).1.view,
)

pub returns-clause-comparisons : goal.returns-clause-comparisons
returns-clause-comparisons c = compares_within (omega (arith, ready_digits c.self.invariant.0.laid c.self.view_is)) c.pop_main.ensures.comparisons

pub returns-in_err-key-clause-some : goal.returns-in_err-key-clause-some
returns-in_err-key-clause-some c =
    subst (λ (h : Heaps). NoneEmpty (waiting_in h c.self.inside.waiting.items)) (sym c.in_err-key.ensures.popped.1) (none_empty c.self.invariant.0)

pub returns-clause-some : goal.returns-clause-some
returns-clause-some c = none_empty (popped c.self.invariant.0 c.self.view_is c.in_ok-key.key c.in_ok-key.ensures.popped.0.0 c.in_ok-key.ensures.popped.1).1.calendar

pub returns-in_err-key-clause-once : goal.returns-in_err-key-clause-once
returns-in_err-key-clause-once c = subst EachTaskOnce c.self.view_is (each_task_once c.self.invariant.0 (c.self.inside.limit - c.self.inside.held))

pub returns-clause-once : goal.returns-clause-once
returns-clause-once c = subst EachTaskOnce c.self.view_is (each_task_once c.self.invariant.0 (c.self.inside.limit - c.self.inside.held))

pub returns-clause-counted : goal.returns-clause-counted
returns-clause-counted c =
    let p = popped c.self.invariant.0 c.self.view_is c.in_ok-key.key c.in_ok-key.ensures.popped.0.0 c.in_ok-key.ensures.popped.1 in
    one_fewer (c.self.inside.limit - c.self.inside.held) (c.self.inside.limit - (c.self.inside.held - 1)) c.self.invariant.0.laid c.self.view_is p.0 p.1.calendar.laid refl
