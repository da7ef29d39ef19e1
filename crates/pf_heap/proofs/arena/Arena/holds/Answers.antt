use Rattle.pf_heap.proofs.Whole.{each_task_once}
use Rattle.pf_heap.proofs.Holding.{held_by_rank, not_held_past}
use Rattle.pf_heap.proofs.arena.Arena.holds.Goals as goal

pub returns-in-Some-clause-held : goal.returns-in-Some-clause-held
returns-in-Some-clause-held c =
    held_by_rank c.self.invariant c.self.view_is c.deref.ensures.value c.in-Some.ensures.lookup.3.0 c.in-Some.ensures.lookup.1

pub returns-in-Some-clause-once : goal.returns-in-Some-clause-once
returns-in-Some-clause-once c = each_task_once c.self.invariant c.self.view_is

pub returns-in-None-clause-held : goal.returns-in-None-clause-held
returns-in-None-clause-held c = not_held_past c.self.invariant c.self.view_is c.deref.ensures.value c.in-None.ensures.lookup.3

pub returns-in-None-clause-once : goal.returns-in-None-clause-once
returns-in-None-clause-once c = each_task_once c.self.invariant c.self.view_is
