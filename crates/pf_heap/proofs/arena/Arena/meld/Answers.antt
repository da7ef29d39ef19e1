use Rattle.std.proofs.Common.{◌≡◌, ◌+◌, ◌++◌, length, set, take, drop, ap, arith}
use Rattle.std.specs.FinSet as fin
use Rattle.pf_heap.specs.Forest.{nowhere}
use Rattle.pf_heap.specs.Keys.{list_of, with_list}
use Rattle.pf_heap.specs.Digits.{digits}
use Rattle.pf_order.proofs.Comparing.{compares_within}
use Rattle.pf_heap.proofs.Lists.{written_back}
use Rattle.pf_heap.proofs.Whole.{name_within}
use Rattle.pf_heap.proofs.Changes.{IsArenaAfter, arena_as}
use Rattle.pf_heap.proofs.Melding.{meld_heaps, melded, both_keys, both_digits}
use Rattle.pf_heap.proofs.arena.Arena.meld.Goals.{After-merge-heap}
use Rattle.pf_heap.proofs.arena.Arena.meld.Goals as goal

pub index-first-requires : goal.index-first-requires
index-first-requires c = name_within c.self.invariant c.self.view_is c.into.view_is c.self.inside.heads.ok.0 c.requires.first

pub index-second-requires : goal.index-second-requires
index-second-requires c = name_within c.self.invariant c.self.view_is c.from.view_is c.self.inside.heads.ok.0 c.requires.second

pub merge-heap-requires : goal.merge-heap-requires
merge-heap-requires c = record {
  can = meld_heaps c.self.invariant c.self.view_is c.into.view_is c.from.view_is c.requires.first c.requires.second c.requires.differ c.index-first.ensures
      c.index-second.ensures c.deref_mut.ensures.value;
}

pub index_mut-requires : goal.index_mut-requires
index_mut-requires c = name_within c.self.invariant c.self.view_is c.from.view_is c.self.inside.heads.ok.0 c.requires.second

pub index_mut-requires-2 : goal.index_mut-requires-2
index_mut-requires-2 c = name_within c.self.invariant c.self.view_is c.into.view_is c.self.inside.heads.ok.0 c.requires.first

-- the arena after the meld
done : (c : After-merge-heap) →
    IsArenaAfter (take c.self.inside.nodes.len (c.merge-heap.new.nodes ++ drop (length c.merge-heap.new.nodes) c.self.inside.nodes.items))
    (set (set c.self.inside.heads.items c.from.inside.index nowhere) c.into.inside.index c.merge-heap.result) c.self.inside.main c.self.inside.room
    (with_list (with_list c.args.self.now c.args.from fin.empty) c.args.into (fin.union (list_of c.args.self.now c.args.into) (list_of c.args.self.now c.args.from)))
    (digits (fin.len (list_of c.args.self.now c.args.into) + fin.len (list_of c.args.self.now c.args.from))) c.args.meter.now c.merge-heap.new.meter
done c =
    let long : length c.merge-heap.new.nodes ≡ length c.self.inside.nodes.items = omega (arith, ap length c.deref_mut.ensures.value) in
    let a = c.self.invariant in
    let m = c.merge-heap.ensures (meld_heaps a c.self.view_is c.into.view_is c.from.view_is c.requires.first c.requires.second c.requires.differ c.index-first.ensures
    c.index-second.ensures c.deref_mut.ensures.value) in
    arena_as (written_back c.merge-heap.new.nodes c.self.inside.nodes.items c.self.inside.nodes.len long (omega (arith, c.self.inside.nodes.ok.0)))
    (λ i. set (set c.self.inside.heads.items (c.from.view_is i) nowhere) (c.into.view_is i) c.merge-heap.result)
    (melded a c.self.view_is c.into.view_is c.from.view_is c.requires.first c.requires.second c.requires.differ c.index-first.ensures c.index-second.ensures
    m.heap m.heap_is m.rises m.parts m.kept long (fin.union (list_of c.args.self.now c.args.into) (list_of c.args.self.now c.args.from))
    (both_keys a c.self.view_is c.into.view_is c.from.view_is c.requires.first c.requires.second c.requires.differ c.index-first.ensures c.index-second.ensures m.heap m.kept)
    (compares_within (omega (arith, both_digits a c.self.view_is c.into.view_is c.from.view_is c.requires.first c.requires.second c.requires.differ c.index-first.ensures c.index-second.ensures)) m.counted))

pub invariant_of-self : goal.invariant_of-self
invariant_of-self c = (done (goal.at.invariant_of-self c).After-merge-heap).arena

pub returns-clause-melded : goal.returns-clause-melded
returns-clause-melded c = (done (goal.at.returns-clause-melded c).After-merge-heap).view

pub returns-clause-comparisons : goal.returns-clause-comparisons
returns-clause-comparisons c = (done (goal.at.returns-clause-comparisons c).After-merge-heap).counted
