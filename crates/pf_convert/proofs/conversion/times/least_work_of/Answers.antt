use Rattle.std.proofs.Common.{◌∙◌}
use Rattle.pf_convert.proofs.ConversionLemmas.Times.{times_timed}
use Rattle.pf_convert.proofs.conversion.times.least_work_of.Goals as goal

pub least_work_in_billionths-requires-clause-timed : goal.least_work_in_billionths-requires-clause-timed
least_work_in_billionths-requires-clause-timed c =
    times_timed c.args.tasks.now c.deref.result.now (c.deref.ensures.value ∙ c.in_ok-times.ensures) c.requires.timed
