use Rattle.std.proofs.Common.{[], append-nil}
use Rattle.pf_desk.specs.Desk.{Shown}
use Rattle.std.specs.Prelude.{option_map}
use Rattle.std.proofs.lemmas.Result.{err_from_is_err_and}
use Rattle.pf_commands.specs.Meaning.{script_meaning}
use Rattle.pf_commands.specs.declared.ran.Ran.{Ran}
use Rattle.pf_commands.proofs.Outside.{nothing_outside, outside_keeps}
use Rattle.pf_commands.proofs.run.run.Goals as goal

pub returns-in_err-status_of-in-Ok-clause-meaning : goal.returns-in_err-status_of-in-Ok-clause-meaning
returns-in_err-status_of-in-Ok-clause-meaning g c =
    let p = err_from_is_err_and c.from_residual.result c.from_residual.ensures.1 in
    rw (p.1, p.2) ([], (_, c.in-Ok.ensures.meaning.1, append-nil _))

pub returns-in-Err-clause-outside : goal.returns-in-Err-clause-outside
returns-in-Err-clause-outside g c =
    outside_keeps Shown Ran (script_meaning c.args.format c.args.titles.now (option_map (λ o. o.now) c.args.origins) c.args.script.now) c.in-Err.fault _ _ (nothing_outside c.args.format c.args.titles.now (option_map (λ o. o.now) c.args.origins) c.args.script.now) c.in-Err.ensures.meaning
