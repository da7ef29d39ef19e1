use Rattle.std.proofs.Common.{◌≡◌, ◌+◌, ◌*◌, ◌++◌, length, get_or, set, take, drop, refl, ap, arith}
use Rattle.std.proofs.lemmas.Bool.{both_ways}
use Rattle.std.specs.FinSet as fin
use Rattle.pf_heap.specs.Forest.{none}
use Rattle.pf_heap.specs.Memory.{all_roots}
use Rattle.pf_heap.specs.Taking.{IsTaken}
use Rattle.pf_heap.specs.Keys.{list_of, with_list, other_keys}
use Rattle.pf_heap.specs.Digits.{digits}
use Rattle.pf_heap.proofs.Lists.{written_back}
use Rattle.pf_heap.proofs.Room.{room_low}
use Rattle.pf_heap.proofs.Whole.{name_within, has_heap, heap_in}
use Rattle.pf_heap.proofs.Changes.{IsArenaAfter, arena_as}
use Rattle.pf_heap.proofs.Holders.{can_take}
use Rattle.pf_heap.proofs.ListTakes.{none_unheld, held_low, held_small, held_node, none_without_root, tree_found, task_removed, key_removed}
use Rattle.pf_heap.proofs.arena.Arena.remove.Goals.{After-take-heap}
use Rattle.pf_heap.proofs.arena.Arena.remove.Goals as goal

pub returns-then-not-holds-clause-removed : goal.returns-then-not-holds-clause-removed
returns-then-not-holds-clause-removed c = (
  none_unheld c.args.self.now c.args.h c.args.task (λ held. both_ways c.holds.result c.if-not-holds.true (c.holds.ensures.held.1 held)) c.requires,
  refl,
)

pub index-head-requires : goal.index-head-requires
index-head-requires c = name_within c.self.invariant c.self.view_is c.h.view_is c.self.inside.heads.ok.0 c.requires

pub overflow_cast-task : goal.overflow_cast-task
overflow_cast-task c = omega (arith, held_small c.self.invariant c.self.view_is (c.holds.ensures.held.0 c.if-not-holds.false))

pub top-root-requires : goal.top-root-requires
top-root-requires c = record { can = held_node c.self.invariant c.self.view_is (c.holds.ensures.held.0 c.if-not-holds.false) c.deref.ensures.value }

pub has_root-requires-clause-can : goal.has_root-requires-clause-can
has_root-requires-clause-can c = has_heap c.self.invariant c.self.view_is c.h.view_is c.requires c.index-head.ensures c.deref-2.ensures.value

pub returns-then-not-has_root-clause-removed : goal.returns-then-not-has_root-clause-removed
returns-then-not-has_root-clause-removed c = (
  none_without_root c.self.invariant c.self.view_is (c.holds.ensures.held.0 c.if-not-holds.false) c.h.view_is c.requires c.index-head.ensures
      c.deref.ensures.value c.top-root.ensures c.deref-2.ensures.value c.has_root.ensures c.if-not-has_root.true,
  refl,
)

pub index-requires : goal.index-requires
index-requires c = omega (arith, c.self.inside.nodes.ok.0, held_low c.self.invariant c.self.view_is (c.holds.ensures.held.0 c.if-not-holds.false))

pub overflow_cast-task-3 : goal.overflow_cast-task-3
overflow_cast-task-3 c = omega (arith, held_small c.self.invariant c.self.view_is (c.holds.ensures.held.0 c.if-not-holds.false))

pub take-heap-requires : goal.take-heap-requires
take-heap-requires c =
    let held = c.holds.ensures.held.0 c.if-not-holds.false in
    let m = tree_found c.self.invariant c.self.view_is held c.h.view_is c.requires c.index-head.ensures
    c.deref.ensures.value c.top-root.ensures c.deref-2.ensures.value c.has_root.ensures c.if-not-has_root.false in
    record { can = can_take c.self.invariant c.self.view_is c.h.view_is c.requires c.index-head.ensures m c.deref_mut.ensures.value }

pub index_mut-requires : goal.index_mut-requires
index_mut-requires c = name_within c.self.invariant c.self.view_is c.h.view_is c.self.inside.heads.ok.0 c.requires

pub overflow_add-self : goal.overflow_add-self
overflow_add-self c = omega (arith, room_low c.self.invariant)

-- what the call took
taken : (c : After-take-heap) → IsTaken c.take-heap.new.nodes (get_or c.self.invariant.heaps c.args.h none)
    (all_roots c.self.invariant.trees ++ (all_roots (set c.self.invariant.heaps c.args.h none) ++ all_roots c.self.invariant.idles)) c.args.task c.take-heap.result c.args.meter.now c.take-heap.new.meter
taken c =
    let a = c.self.invariant in
    let held = c.holds.ensures.held.0 c.if-not-holds.false in
    let m = tree_found a c.self.view_is held c.h.view_is c.requires c.index-head.ensures
    c.deref.ensures.value c.top-root.ensures c.deref-2.ensures.value c.has_root.ensures c.if-not-has_root.false in
    c.take-heap.ensures (can_take a c.self.view_is c.h.view_is c.requires c.index-head.ensures m c.deref_mut.ensures.value)

same_length : (c : After-take-heap) → length c.take-heap.new.nodes ≡ length c.self.inside.nodes.items
same_length c = omega (arith, ap length c.deref_mut.ensures.value)

-- the arena after the call
done : (c : After-take-heap) →
    IsArenaAfter (take c.self.inside.nodes.len (c.take-heap.new.nodes ++ drop (length c.take-heap.new.nodes) c.self.inside.nodes.items))
    (set c.self.inside.heads.items c.h.inside.index c.take-heap.result) c.self.inside.main (c.self.inside.room + 1)
    (record (with_list c.args.self.now c.args.h (other_keys (list_of c.args.self.now c.args.h) c.args.task)) { spare = c.args.self.now.spare + 1 })
    (2 * digits (fin.len (list_of c.args.self.now c.args.h))) c.args.meter.now c.take-heap.new.meter
done c =
    let a = c.self.invariant in
    arena_as (written_back c.take-heap.new.nodes c.self.inside.nodes.items c.self.inside.nodes.len (same_length c) (omega (arith, c.self.inside.nodes.ok.0)))
    (ap (λ x. set c.self.inside.heads.items x c.take-heap.result) c.h.view_is)
    (task_removed a c.self.view_is c.h.view_is (heap_in a c.self.view_is c.h.view_is c.requires c.index-head.ensures) (taken c) (same_length c))

pub invariant_of-self : goal.invariant_of-self
invariant_of-self c = (done (goal.at.invariant_of-self c).After-take-heap).arena

pub returns-clause-removed : goal.returns-clause-removed
returns-clause-removed c =
    let b = (goal.at.returns-clause-removed c).After-take-heap in
    let a = c.self.invariant in
    let k = key_removed a c.self.view_is c.h.view_is (heap_in a c.self.view_is c.h.view_is c.requires c.index-head.ensures) (taken b) (same_length b)
    (held_low a c.self.view_is (c.holds.ensures.held.0 c.if-not-holds.false)) c.index.ensures in
    (k.0, k.1, (done b).view)

pub returns-clause-comparisons : goal.returns-clause-comparisons
returns-clause-comparisons c = (done (goal.at.returns-clause-comparisons c).After-take-heap).counted
