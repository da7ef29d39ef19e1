use Rattle.pf_heap.proofs.TableTakes.{table_tree, enough_bits, halves_list, from_within, taken_from}
use Rattle.pf_heap.proofs.taking.take_from.Goals as goal

pub split-halves-requires : goal.split-halves-requires
split-halves-requires c = record { can = table_tree c.requires.low c.requires.can }

pub remove-requires-clause-some : goal.remove-requires-clause-some
remove-requires-clause-some c = enough_bits c.requires.low c.requires.can

pub add_all-requires : goal.add_all-requires
add_all-requires c =
    let can = c.requires.can in
    record { can = halves_list c.requires.low can (c.split-halves.ensures (table_tree c.requires.low can)) c.remove.ensures }

pub release-requires : goal.release-requires
release-requires c =
    let can = c.requires.can in
    let s = c.split-halves.ensures (table_tree c.requires.low can) in
    from_within c.requires.low can s c.remove.ensures (c.add_all.ensures (halves_list c.requires.low can s c.remove.ensures))

pub returns : goal.returns
returns c = λ can.
    let s = c.split-halves.ensures (table_tree c.requires.low can) in
    taken_from c.requires.low can s c.remove.ensures (c.add_all.ensures (halves_list c.requires.low can s c.remove.ensures)) c.release.ensures
