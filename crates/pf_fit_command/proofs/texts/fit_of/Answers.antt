use Rattle.pf_fit_command.proofs.texts.fit_of.Goals as goal

pub returns-in-Json : goal.returns-in-Json
returns-in-Json c = rw c.in-Json.is (c.json_of.ensures c.args.file.now c.args.hints)
