use Rattle.std.proofs.Common.{◌≡◌, ◌+◌, ◌-◌, ◌++◌, length, set, take, drop, ap, ◌∙◌, arith}
use Rattle.std.proofs.Math.ListN.{length-set}
use Rattle.std.specs.FinSet as fin
use Rattle.pf_heap.specs.Keys.{list_of, with_list}
use Rattle.pf_heap.specs.Digits.{digits}
use Rattle.pf_heap.proofs.Lists.{written_back}
use Rattle.pf_heap.proofs.Whole.{name_within, now_tasks}
use Rattle.pf_heap.proofs.Changes.{IsArenaAfter, arena_as, fresh}
use Rattle.pf_heap.proofs.Inserting.{inserted}
use Rattle.pf_heap.proofs.Inserting.{insert_heaps}
use Rattle.pf_heap.proofs.arena.Arena.insert.Goals.{After-add-heap}
use Rattle.pf_heap.proofs.arena.Arena.insert.Goals as goal

pub index-head-requires : goal.index-head-requires
index-head-requires c = name_within c.self.invariant c.self.view_is c.h.view_is c.self.inside.heads.ok.0 c.requires.heap

pub index_mut-requires : goal.index_mut-requires
index_mut-requires c = omega (arith, now_tasks c.self.invariant c.self.view_is, c.requires.placed, c.task-task.ensures.value, c.self.inside.nodes.ok.0)

pub add-heap-requires : goal.add-heap-requires
add-heap-requires c = record {
  can = insert_heaps c.self.invariant c.self.view_is c.args.key c.h.view_is c.requires.heap c.index-head.ensures c.requires.placed c.requires.absent c.requires.room
      (c.deref_mut.ensures.value ∙ ap (λ x. set c.self.inside.nodes.items x (fresh c.args.key)) c.task-task.ensures.value) c.task-task.ensures.value;
}

pub index_mut-requires-2 : goal.index_mut-requires-2
index_mut-requires-2 c = name_within c.self.invariant c.self.view_is c.h.view_is c.self.inside.heads.ok.0 c.requires.heap

-- the arena after the insert
done : (c : After-add-heap) →
    IsArenaAfter (take c.self.inside.nodes.len (c.add-heap.new.nodes ++ drop (length c.add-heap.new.nodes) (set c.self.inside.nodes.items c.task-task.result (fresh c.args.key))))
    (set c.self.inside.heads.items c.h.inside.index c.add-heap.result) c.self.inside.main (c.self.inside.room - 1)
    (record (with_list c.args.self.now c.args.h (fin.insert (list_of c.args.self.now c.args.h) c.args.key)) { spare = c.args.self.now.spare - 1 })
    (digits (fin.len (list_of c.args.self.now c.args.h) + 1)) c.args.meter.now c.add-heap.new.meter
done c =
    let a = c.self.invariant in
    let e = c.deref_mut.ensures.value ∙ ap (λ x. set c.self.inside.nodes.items x (fresh c.args.key)) c.task-task.ensures.value in
    let long : length c.add-heap.new.nodes ≡ length c.self.inside.nodes.items =
    omega (arith, ap length c.deref_mut.ensures.value, length-set c.self.inside.nodes.items c.task-task.result (fresh c.args.key)) in
    let same : length c.add-heap.new.nodes ≡ length (set c.self.inside.nodes.items c.task-task.result (fresh c.args.key)) = omega (arith, ap length c.deref_mut.ensures.value) in
    let m = c.add-heap.ensures (insert_heaps a c.self.view_is c.args.key c.h.view_is c.requires.heap c.index-head.ensures c.requires.placed c.requires.absent c.requires.room
    e c.task-task.ensures.value) in
    arena_as (written_back c.add-heap.new.nodes (set c.self.inside.nodes.items c.task-task.result (fresh c.args.key)) c.self.inside.nodes.len same
    (omega (arith, c.self.inside.nodes.ok.0, length-set c.self.inside.nodes.items c.task-task.result (fresh c.args.key))))
    (ap (λ x. set c.self.inside.heads.items x c.add-heap.result) c.h.view_is)
    (inserted a c.self.view_is c.args.key c.h.view_is c.requires.heap c.index-head.ensures c.requires.placed c.requires.absent c.requires.room m long)

pub invariant_of-self : goal.invariant_of-self
invariant_of-self c = (done (goal.at.invariant_of-self c).After-add-heap).arena

pub returns-clause-inserted : goal.returns-clause-inserted
returns-clause-inserted c = (done (goal.at.returns-clause-inserted c).After-add-heap).view

pub returns-clause-comparisons : goal.returns-clause-comparisons
returns-clause-comparisons c = (done (goal.at.returns-clause-comparisons c).After-add-heap).counted
