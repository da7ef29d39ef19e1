use Rattle.std.proofs.Common.{◌∙◌}
use Rattle.pf_convert.proofs.ConversionLemmas.Times.{times_timed}
use Rattle.pf_convert.proofs.conversion.times.work_of.Goals as goal

pub work_in_billionths-requires-clause-timed : goal.work_in_billionths-requires-clause-timed
work_in_billionths-requires-clause-timed c =
    times_timed c.args.tasks.now c.deref.result.now (c.deref.ensures.value ∙ c.in_ok-times.ensures) c.requires.timed
