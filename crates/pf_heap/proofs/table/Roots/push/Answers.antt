use Rattle.std.proofs.Common.{◌≢◌, refl, arith}
use Rattle.std.proofs.lemmas.List.{get_or_default}
use Rattle.std.specs.Int.{bit_at}
use Rattle.pf_heap.specs.Forest.{nowhere}
use Rattle.pf_heap.proofs.Seeking.{not_pushed, pushed_tree, pushed_within, pushed}
use Rattle.pf_heap.proofs.table.Roots.push.Goals as goal

pub returns-then-not-has : goal.returns-then-not-has
returns-then-not-has c = λ can.
    let vacant : bit_at c.args.self.now.ranks c.args.rank ≢ 1 = λ z. let no = c.if-not-has.ensures.1 z in cc in
    not_pushed c.requires.low can vacant

pub relink-requires : goal.relink-requires
relink-requires c =
    let can = c.requires.can in
    let is = get_or_default c.args.self.now.trees c.args.rank 0 nowhere (omega (arith, c.requires.low, can.table_is.places)) in
    pushed_within c.requires.low can (c.if-not-has.ensures.0 refl) is (pushed_tree c.requires.low can (c.if-not-has.ensures.0 refl) is)

pub returns : goal.returns
returns c = λ can.
    let is = get_or_default c.args.self.now.trees c.args.rank 0 nowhere (omega (arith, c.requires.low, can.table_is.places)) in
    pushed c.requires.low can (c.if-not-has.ensures.0 refl) is (pushed_tree c.requires.low can (c.if-not-has.ensures.0 refl) is) c.relink.ensures (omega (arith, can.now.small))
