use Rattle.pf_cli.proofs.Telling.{few_failed}
use Rattle.pf_cli.proofs.ending.tell_text.Goals as goal

pub returns-clause-few : goal.returns-clause-few
returns-clause-few g c = few_failed c.write_out.result _ _ c.write_out.ensures.count
