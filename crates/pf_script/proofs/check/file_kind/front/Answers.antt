use Rattle.std.proofs.Common.{◌∙◌, take, ap}
use Rattle.std.proofs.lemmas.List.{take_min}
use Rattle.pf_script.proofs.check.file_kind.front.Goals as goal

pub returns : goal.returns
returns c = ap (λ n. take n c.args.script.now) c.min-end.ensures ∙ take_min 1024 c.args.script.now
