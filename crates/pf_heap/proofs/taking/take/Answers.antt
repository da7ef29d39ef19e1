use Rattle.std.proofs.Common.{arith}
use Rattle.pf_heap.proofs.Takes.{its_root, its_tree, rest_and_halves, taken_within, taken}
use Rattle.pf_heap.proofs.taking.take.Goals as goal

pub part-rest-requires : goal.part-rest-requires
part-rest-requires c = record { can = its_root c.requires.can }

pub split-halves-requires : goal.split-halves-requires
split-halves-requires c =
    let can = c.requires.can in
    record { can = its_tree can (c.part-rest.ensures (its_root can)) (omega (arith, can.small)) }

pub merge-left-requires : goal.merge-left-requires
merge-left-requires c =
    let can = c.requires.can in
    let p = c.part-rest.ensures (its_root can) in
    record { can = rest_and_halves can p (omega (arith, can.small)) (c.split-halves.ensures (its_tree can p (omega (arith, can.small)))) }

pub release-requires : goal.release-requires
release-requires c =
    let can = c.requires.can in
    let p = c.part-rest.ensures (its_root can) in
    let s = c.split-halves.ensures (its_tree can p (omega (arith, can.small))) in
    taken_within can p (omega (arith, can.small)) s (c.merge-left.ensures (rest_and_halves can p (omega (arith, can.small)) s))

pub returns : goal.returns
returns c = λ can.
    let p = c.part-rest.ensures (its_root can) in
    let s = c.split-halves.ensures (its_tree can p (omega (arith, can.small))) in
    taken can p (omega (arith, can.small)) s (c.merge-left.ensures (rest_and_halves can p (omega (arith, can.small)) s)) c.release.ensures
