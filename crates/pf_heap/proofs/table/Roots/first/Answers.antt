use Rattle.std.proofs.Common.{refl, sym, ◌∙◌, arith, w32}
use Rattle.std.specs.Int.{trailing_zeros}
use Rattle.std.proofs.lemmas.List.{get_or_default}
use Rattle.pf_heap.specs.Forest.{nowhere}
use Rattle.pf_heap.proofs.Seeking.{lowest_low, seek_begun, seek_ended, seek_all, best_node, low, there, there_node, seek_step, and_low, rest_and_low}
use Rattle.pf_heap.proofs.table.Roots.first.Goals as goal

pub bounds-self-lowest : goal.bounds-self-lowest
bounds-self-lowest c =
    let t = c.requires.can.table_is in
    lowest_low t c.requires.can.trees t.ranks refl c.requires.some

pub loop-step-init : goal.loop-step-init
loop-step-init c = λ can.
    let t = can.table_is in
    let within = lowest_low t can.trees t.ranks refl c.requires.some in
    seek_begun t _ c.requires.some refl
    (get_or_default c.args.self.now.trees (trailing_zeros w32 c.args.self.now.ranks) 0 nowhere (omega (arith, within, t.places))) refl (and_low t _)

pub returns-then-rest-eq0 : goal.returns-then-rest-eq0
returns-then-rest-eq0 c = λ can.
    let m = c.loop-step.invariant can in
    seek_ended can.table_is can.small can.others can.parts m (sym m.rest_is ∙ c.if-rest-eq0.true)

pub bounds-self-rank : goal.bounds-self-rank
bounds-self-rank c =
    let can = c.requires.can in
    low can.table_is can.small can.others can.parts (c.loop-step.invariant can) c.if-rest-eq0.false refl refl

pub earlier-best-requires-clause-first : goal.earlier-best-requires-clause-first
earlier-best-requires-clause-first c =
    let can = c.requires.can in
    (best_node can.table_is can.small can.others can.parts (c.loop-step.invariant can)).0

pub earlier-best-requires-clause-second : goal.earlier-best-requires-clause-second
earlier-best-requires-clause-second c =
    let can = c.requires.can in
    let t = can.table_is in
    let m = c.loop-step.invariant can in
    let some = c.if-rest-eq0.false in
    let is = get_or_default c.args.self.now.trees (trailing_zeros w32 c.loop-step.rest) 0 nowhere
    (omega (arith, low t can.small can.others can.parts m some refl refl, t.places)) in
    (there_node t can.small can.others can.parts m some refl is (there t can.small can.others can.parts m some refl is)).0

pub loop-step-preserved : goal.loop-step-preserved
loop-step-preserved c = λ can.
    let t = can.table_is in
    let m = c.loop-step.invariant can in
    let some = c.if-rest-eq0.false in
    let is = get_or_default c.args.self.now.trees (trailing_zeros w32 c.loop-step.rest) 0 nowhere
    (omega (arith, low t can.small can.others can.parts m some refl refl, t.places)) in
    seek_step t can.small can.others can.parts m some refl is (there t can.small can.others can.parts m some refl is)
    c.earlier-best.ensures.earlier c.earlier-best.ensures.counted refl (rest_and_low t m _)

pub returns : goal.returns
returns c = λ can. seek_all can.table_is can.small can.others can.parts (c.loop-step.invariant can) (omega arith)
