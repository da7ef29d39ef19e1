use Rattle.pf_convert.proofs.Stretches.{stretch_is, divisor_is}
use Rattle.pf_convert.proofs.stretch.stretch_from.Goals as goal

pub returns-clause-stretch : goal.returns-clause-stretch
returns-clause-stretch c =
    stretch_is c.args.divided.now c.deref.result.now c.deref-2.result.now c.last_within-index.result c.index-divisor.result.now c.next_divisor.result
    c.requires.divided c.deref.ensures.value c.deref-2.ensures.value c.last_within-index.ensures.there c.index-divisor.ensures c.next_divisor.ensures.next

pub returns-clause-divisor : goal.returns-clause-divisor
returns-clause-divisor c =
    divisor_is c.args.divided.now c.deref.result.now c.last_within-index.result c.index-divisor.result.now c.args.period c.requires.divided
    c.deref.ensures.value c.last_within-index.ensures.there c.last_within-index.ensures.within c.last_within-index.ensures.last c.index-divisor.ensures
