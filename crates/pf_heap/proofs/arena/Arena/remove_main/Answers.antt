use Rattle.std.proofs.Common.{◌≡◌, ◌++◌, length, take, drop, refl, ap, arith}
use Rattle.pf_heap.specs.Memory.{all_roots}
use Rattle.pf_heap.specs.Taking.{IsTakenFrom}
use Rattle.pf_heap.proofs.Lists.{written_back}
use Rattle.pf_heap.proofs.Whole.{small}
use Rattle.pf_heap.proofs.MainTakes.{held_low, node_lent, rank_low, not_in_main, can_take_from, removed, removed_key}
use Rattle.pf_heap.proofs.Room.{room_low}
use Rattle.pf_heap.proofs.arena.Arena.remove_main.Goals.{After-take_from}
use Rattle.pf_heap.proofs.arena.Arena.remove_main.Goals as goal

pub overflow_cast-task : goal.overflow_cast-task
overflow_cast-task c = omega (arith, held_low c.self.invariant c.self.view_is (c.if-not-holds.ensures.held.0 refl), small c.self.invariant)

pub top-root-requires : goal.top-root-requires
top-root-requires c = record { can = node_lent c.self.invariant c.self.view_is (c.if-not-holds.ensures.held.0 refl) c.deref.ensures.value }

pub has_root-requires : goal.has_root-requires
has_root-requires c = rank_low c.self.invariant c.self.view_is (c.if-not-holds.ensures.held.0 refl) c.deref.ensures.value c.top-root.ensures c.index.ensures

pub returns-then-not-has_root-clause-removed : goal.returns-then-not-has_root-clause-removed
returns-then-not-has_root-clause-removed c = (
  not_in_main c.self.invariant c.self.view_is (c.if-not-holds.ensures.held.0 refl) c.deref.ensures.value c.top-root.ensures c.index.ensures
      (λ z. let no = c.if-not-has_root.ensures.1 z in cc),
  refl,
)

pub index-requires-2 : goal.index-requires-2
index-requires-2 c = omega (arith, held_low c.self.invariant c.self.view_is (c.if-not-holds.ensures.held.0 refl), c.self.inside.nodes.ok.0)

pub overflow_cast-task-3 : goal.overflow_cast-task-3
overflow_cast-task-3 c = omega (arith, held_low c.self.invariant c.self.view_is (c.if-not-holds.ensures.held.0 refl), small c.self.invariant)

pub take_from-requires-clause-can : goal.take_from-requires-clause-can
take_from-requires-clause-can c =
    can_take_from c.self.invariant c.self.view_is (c.if-not-holds.ensures.held.0 refl) c.deref.ensures.value c.top-root.ensures c.index.ensures
    (c.if-not-has_root.ensures.0 refl) c.deref_mut.ensures.value

-- what was taken
taken : (c : After-take_from) →
    IsTakenFrom c.take_from.new.nodes c.take_from.new.roots c.self.invariant.trees (all_roots c.self.invariant.heaps ++ all_roots c.self.invariant.idles)
    c.args.task c.args.meter.now c.take_from.new.meter
taken c =
    c.take_from.ensures (can_take_from c.self.invariant c.self.view_is (c.if-not-holds.ensures.held.0 refl) c.deref.ensures.value c.top-root.ensures c.index.ensures
    (c.if-not-has_root.ensures.0 refl) c.deref_mut.ensures.value)

long : (c : After-take_from) → length c.take_from.new.nodes ≡ length c.self.inside.nodes.items
long c = omega (arith, ap length c.deref_mut.ensures.value)

-- the nodes that were lent are back
back : (c : After-take_from) →
    take c.self.inside.nodes.len (c.take_from.new.nodes ++ drop (length c.take_from.new.nodes) c.self.inside.nodes.items) ≡ c.take_from.new.nodes
back c = written_back c.take_from.new.nodes c.self.inside.nodes.items c.self.inside.nodes.len (long c) (omega (arith, c.self.inside.nodes.ok.0))

pub invariant_of-self : goal.invariant_of-self
invariant_of-self c =
    let b = (goal.at.invariant_of-self c).After-take_from in
    (removed b.self.invariant b.self.view_is (taken b) (long b) (back b)).arena

pub returns-clause-removed : goal.returns-clause-removed
returns-clause-removed c =
    let b = (goal.at.returns-clause-removed c).After-take_from in
    let k = removed_key b.self.invariant b.self.view_is (taken b) (long b) c.index-2.ensures in
    (k.0, k.1, (removed b.self.invariant b.self.view_is (taken b) (long b) (back b)).view)

pub returns-clause-comparisons : goal.returns-clause-comparisons
returns-clause-comparisons c =
    let b = (goal.at.returns-clause-comparisons c).After-take_from in
    (removed b.self.invariant b.self.view_is (taken b) (long b) (back b)).counted

pub overflow_add-self : goal.overflow_add-self
overflow_add-self c = omega (arith, room_low c.self.invariant)
