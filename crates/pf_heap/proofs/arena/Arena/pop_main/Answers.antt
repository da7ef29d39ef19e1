use Rattle.std.proofs.Common.{◌≡◌, ◌++◌, length, take, drop, refl, ap, arith}
use Rattle.pf_heap.specs.Memory.{all_roots}
use Rattle.pf_heap.specs.Taking.{IsFirstTaken}
use Rattle.pf_heap.proofs.Lists.{written_back}
use Rattle.pf_heap.proofs.Holders.{main_empty}
use Rattle.pf_heap.proofs.TakingOut.{has_main, popped_low}
use Rattle.pf_heap.proofs.MainTakes.{popped, popped_is}
use Rattle.pf_heap.proofs.Room.{room_low}
use Rattle.pf_heap.proofs.arena.Arena.pop_main.Goals.{After-take_first-at}
use Rattle.pf_heap.proofs.arena.Arena.pop_main.Goals as goal

pub returns-then-is_empty-clause-popped : goal.returns-then-is_empty-clause-popped
returns-then-is_empty-clause-popped c = (main_empty c.self.invariant c.self.view_is (c.if-is_empty.ensures.0 refl), refl)

-- what was taken
first : (c : After-take_first-at) →
    IsFirstTaken c.take_first-at.new.nodes c.take_first-at.new.roots c.self.invariant.trees (all_roots c.self.invariant.heaps ++ all_roots c.self.invariant.idles)
    c.take_first-at.result c.args.meter.now c.take_first-at.new.meter
first c = c.take_first-at.ensures (has_main c.self.invariant c.self.view_is c.deref_mut.ensures.value)

long : (c : After-take_first-at) → length c.take_first-at.new.nodes ≡ length c.self.inside.nodes.items
long c = omega (arith, ap length c.deref_mut.ensures.value)

-- the nodes that were lent are back
back : (c : After-take_first-at) →
    take c.self.inside.nodes.len (c.take_first-at.new.nodes ++ drop (length c.take_first-at.new.nodes) c.self.inside.nodes.items) ≡ c.take_first-at.new.nodes
back c = written_back c.take_first-at.new.nodes c.self.inside.nodes.items c.self.inside.nodes.len (long c) (omega (arith, c.self.inside.nodes.ok.0))

pub index-requires : goal.index-requires
index-requires c =
    let b = (goal.at.index-requires c).After-take_first-at in
    omega (arith, popped_low b.self.invariant b.self.view_is (first b) (long b), long b, b.self.inside.nodes.ok.0)

pub invariant_of-self : goal.invariant_of-self
invariant_of-self c =
    let b = (goal.at.invariant_of-self c).After-take_first-at in
    (popped b.self.invariant b.self.view_is (first b) (long b) (back b)).arena

pub returns-clause-popped : goal.returns-clause-popped
returns-clause-popped c =
    let b = (goal.at.returns-clause-popped c).After-take_first-at in
    popped_is b.self.invariant b.self.view_is (first b) (long b) (back b) c.index.ensures

pub returns-clause-comparisons : goal.returns-clause-comparisons
returns-clause-comparisons c =
    let b = (goal.at.returns-clause-comparisons c).After-take_first-at in
    (popped b.self.invariant b.self.view_is (first b) (long b) (back b)).counted

pub overflow_add-self : goal.overflow_add-self
overflow_add-self c = omega (arith, room_low c.self.invariant)
