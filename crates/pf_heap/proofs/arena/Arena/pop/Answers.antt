use Rattle.std.proofs.Common.{◌≡◌, ◌+◌, ◌*◌, ◌++◌, length, get_or, set, take, drop, refl, ap, arith}
use Rattle.std.specs.FinSet as fin
use Rattle.pf_heap.specs.Forest.{none}
use Rattle.pf_heap.specs.Memory.{all_roots}
use Rattle.pf_heap.specs.Taking.{IsTaken}
use Rattle.pf_heap.specs.Keys.{list_of, with_list}
use Rattle.pf_heap.specs.Digits.{digits}
use Rattle.pf_heap.proofs.Lists.{written_back}
use Rattle.pf_heap.proofs.Room.{room_low}
use Rattle.pf_heap.proofs.Whole.{name_within, no_keys, has_heap, heap_in, least_of, least_node, is_first, least_counted}
use Rattle.pf_heap.proofs.Changes.{IsArenaAfter, arena_as}
use Rattle.pf_heap.proofs.Holders.{can_take}
use Rattle.pf_heap.proofs.ListTakes.{own_tree, read_key, first_removed}
use Rattle.pf_heap.proofs.arena.Arena.pop.Goals.{After-take-heap}
use Rattle.pf_heap.proofs.arena.Arena.pop.Goals as goal

pub index-head-requires : goal.index-head-requires
index-head-requires c = name_within c.self.invariant c.self.view_is c.h.view_is c.self.inside.heads.ok.0 c.requires

pub returns-then-head-clause-popped : goal.returns-then-head-clause-popped
returns-then-head-clause-popped c = (no_keys c.self.invariant c.self.view_is c.h.view_is c.requires c.index-head.ensures c.if-head.true, refl)

pub least_root-at-requires-clause-can : goal.least_root-at-requires-clause-can
least_root-at-requires-clause-can c = has_heap c.self.invariant c.self.view_is c.h.view_is c.requires c.index-head.ensures c.deref.ensures.value

pub index-requires : goal.index-requires
index-requires c =
    let node = least_node c.self.invariant c.self.view_is c.h.view_is c.requires c.index-head.ensures c.deref.ensures.value c.least_root-at.ensures in
    omega (arith, c.self.inside.nodes.ok.0, node.within)

pub take-heap-requires : goal.take-heap-requires
take-heap-requires c =
    let l = least_of c.self.invariant c.self.view_is c.h.view_is c.requires c.index-head.ensures c.deref.ensures.value c.least_root-at.ensures in
    let m = own_tree c.least_root-at.result l.key l.rank l.kids (get_or c.self.invariant.heaps c.args.h none) l.has in
    record { can = can_take c.self.invariant c.self.view_is c.h.view_is c.requires c.index-head.ensures m c.deref_mut.ensures.value }

pub index_mut-requires : goal.index_mut-requires
index_mut-requires c = name_within c.self.invariant c.self.view_is c.h.view_is c.self.inside.heads.ok.0 c.requires

pub overflow_add-self : goal.overflow_add-self
overflow_add-self c = omega (arith, room_low c.self.invariant)

-- what the call took
taken : (c : After-take-heap) → IsTaken c.take-heap.new.nodes (get_or c.self.invariant.heaps c.args.h none)
    (all_roots c.self.invariant.trees ++ (all_roots (set c.self.invariant.heaps c.args.h none) ++ all_roots c.self.invariant.idles)) c.least_root-at.result c.take-heap.result c.least_root-at.new.meter c.take-heap.new.meter
taken c =
    let a = c.self.invariant in
    let l = least_of a c.self.view_is c.h.view_is c.requires c.index-head.ensures c.deref.ensures.value c.least_root-at.ensures in
    let m = own_tree c.least_root-at.result l.key l.rank l.kids (get_or a.heaps c.args.h none) l.has in
    c.take-heap.ensures (can_take a c.self.view_is c.h.view_is c.requires c.index-head.ensures m c.deref_mut.ensures.value)

same_length : (c : After-take-heap) → length c.take-heap.new.nodes ≡ length c.self.inside.nodes.items
same_length c = omega (arith, ap length c.deref_mut.ensures.value)

-- the arena after the call
done : (c : After-take-heap) →
    IsArenaAfter (take c.self.inside.nodes.len (c.take-heap.new.nodes ++ drop (length c.take-heap.new.nodes) c.self.inside.nodes.items))
    (set c.self.inside.heads.items c.h.inside.index c.take-heap.result) c.self.inside.main (c.self.inside.room + 1)
    (record (with_list c.args.self.now c.args.h (fin.remove (list_of c.args.self.now c.args.h) c.index.result.now.key)) { spare = c.args.self.now.spare + 1 })
    (2 * digits (fin.len (list_of c.args.self.now c.args.h))) c.args.meter.now c.take-heap.new.meter
done c =
    let a = c.self.invariant in
    let listed = heap_in a c.self.view_is c.h.view_is c.requires c.index-head.ensures in
    let node = least_node a c.self.view_is c.h.view_is c.requires c.index-head.ensures c.deref.ensures.value c.least_root-at.ensures in
    arena_as (written_back c.take-heap.new.nodes c.self.inside.nodes.items c.self.inside.nodes.len (same_length c) (omega (arith, c.self.inside.nodes.ok.0)))
    (ap (λ x. set c.self.inside.heads.items x c.take-heap.result) c.h.view_is)
    (first_removed a c.self.view_is c.h.view_is listed (taken c) (same_length c) c.index.result.now.key
    (read_key a c.self.view_is c.h.view_is listed (taken c) (same_length c) node.within c.index.ensures)
    (least_counted a c.self.view_is c.h.view_is c.requires c.index-head.ensures c.deref.ensures.value c.least_root-at.ensures))

pub invariant_of-self : goal.invariant_of-self
invariant_of-self c = (done (goal.at.invariant_of-self c).After-take-heap).arena

pub returns-clause-popped : goal.returns-clause-popped
returns-clause-popped c = (
  is_first c.self.invariant c.self.view_is c.h.view_is c.requires c.index-head.ensures c.deref.ensures.value c.least_root-at.ensures c.index.ensures,
  (done (goal.at.returns-clause-popped c).After-take-heap).view,
)

pub returns-clause-comparisons : goal.returns-clause-comparisons
returns-clause-comparisons c = (done (goal.at.returns-clause-comparisons c).After-take-heap).counted
