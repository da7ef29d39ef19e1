use Rattle.std.proofs.Common.{[], refl}
use Rattle.std.proofs.KnownBytes.{Appends-nil}
use Rattle.pf_cli.specs.Runs.{run_meaning}
use Rattle.pf_cli.proofs.Running.{plan_answers}
use Rattle.pf_cli.proofs.run.run_bytes.Goals as goal

pub returns-in-Ok-Some-clause-meaning : goal.returns-in-Ok-Some-clause-meaning
returns-in-Ok-Some-clause-meaning g c =
    plan_answers c.args.format c.args.bytes.now c.in-Ok-Some.plain c.run_plan.result _ _ c.requires.short
    (rw c.in-Ok-Some.field-0-is at c.in-Ok-Some.ensures) c.run_plan.ensures.meaning

pub returns-clause-meaning : goal.returns-clause-meaning
returns-clause-meaning g c = ((run_meaning c.args.format c.args.bytes.now).text, ([], Appends-nil (g.W.Write.contents c.args.writer.now), refl))
