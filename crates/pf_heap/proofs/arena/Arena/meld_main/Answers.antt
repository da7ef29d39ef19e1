use Rattle.std.proofs.Common.{◌≡◌, ◌+◌, ◌++◌, length, set, take, drop, ap, arith}
use Rattle.std.specs.FinSet as fin
use Rattle.pf_heap.specs.Forest.{nowhere}
use Rattle.pf_heap.specs.Keys.{list_of, with_list}
use Rattle.pf_heap.specs.Digits.{digits}
use Rattle.pf_heap.proofs.Lists.{written_back}
use Rattle.pf_heap.proofs.Whole.{name_within}
use Rattle.pf_heap.proofs.Changes.{IsArenaAfter, arena_as}
use Rattle.pf_heap.proofs.Melding.{main_joined}
use Rattle.pf_heap.proofs.Melding.{main_and_list}
use Rattle.pf_heap.proofs.arena.Arena.meld_main.Goals.{After-add_all}
use Rattle.pf_heap.proofs.arena.Arena.meld_main.Goals as goal

pub index-head-requires : goal.index-head-requires
index-head-requires c = name_within c.self.invariant c.self.view_is c.from.view_is c.self.inside.heads.ok.0 c.requires

pub add_all-requires : goal.add_all-requires
add_all-requires c = record { can = main_and_list c.self.invariant c.self.view_is c.from.view_is c.requires c.index-head.ensures c.deref_mut.ensures.value }

pub index_mut-requires : goal.index_mut-requires
index_mut-requires c = name_within c.self.invariant c.self.view_is c.from.view_is c.self.inside.heads.ok.0 c.requires

-- the arena after the meld
done : (c : After-add_all) →
    IsArenaAfter (take c.self.inside.nodes.len (c.add_all.new.nodes ++ drop (length c.add_all.new.nodes) c.self.inside.nodes.items))
    (set c.self.inside.heads.items c.from.inside.index nowhere) c.add_all.new.self c.self.inside.room
    (record (with_list c.args.self.now c.args.from fin.empty) { main = fin.union c.args.self.now.main (list_of c.args.self.now c.args.from) })
    (digits (fin.len c.args.self.now.main + fin.len (list_of c.args.self.now c.args.from))) c.args.meter.now c.add_all.new.meter
done c =
    let a = c.self.invariant in
    let long : length c.add_all.new.nodes ≡ length c.self.inside.nodes.items = omega (arith, ap length c.deref_mut.ensures.value) in
    let d = c.add_all.ensures (main_and_list a c.self.view_is c.from.view_is c.requires c.index-head.ensures c.deref_mut.ensures.value) in
    arena_as (written_back c.add_all.new.nodes c.self.inside.nodes.items c.self.inside.nodes.len long (omega (arith, c.self.inside.nodes.ok.0)))
    (ap (λ x. set c.self.inside.heads.items x nowhere) c.from.view_is)
    (main_joined a c.self.view_is c.from.view_is c.requires c.index-head.ensures d long)

pub invariant_of-self : goal.invariant_of-self
invariant_of-self c = (done (goal.at.invariant_of-self c).After-add_all).arena

pub returns-clause-melded : goal.returns-clause-melded
returns-clause-melded c = (done (goal.at.returns-clause-melded c).After-add_all).view

pub returns-clause-comparisons : goal.returns-clause-comparisons
returns-clause-comparisons c = (done (goal.at.returns-clause-comparisons c).After-add_all).counted
