use Rattle.pf_heap.proofs.Takes.{first_list, second_list, both_in, merged}
use Rattle.pf_heap.proofs.taking.merge.Goals as goal

pub add_all-requires : goal.add_all-requires
add_all-requires c = record { can = first_list c.requires.can c.new-roots.ensures }

pub add_all-requires-2 : goal.add_all-requires-2
add_all-requires-2 c =
    let can = c.requires.can in
    record { can = second_list can (c.add_all.ensures (first_list can c.new-roots.ensures)) }

pub list-requires : goal.list-requires
list-requires c =
    let can = c.requires.can in
    let d = c.add_all.ensures (first_list can c.new-roots.ensures) in
    record { can = both_in can d (c.add_all-2.ensures (second_list can d)) }

pub returns : goal.returns
returns c = λ can.
    let d = c.add_all.ensures (first_list can c.new-roots.ensures) in
    let e = c.add_all-2.ensures (second_list can d) in
    merged can d e (c.list.ensures (both_in can d e))
