use Rattle.std.proofs.Common.{◌∙◌, take, ap}
use Rattle.std.proofs.lemmas.List.{take_min}
use Rattle.pf_convert.specs.declared.list.file_fault.TheConstants.{LOOKED_AT}
use Rattle.pf_convert.proofs.list.file_fault.looked_at.Goals as goal

pub returns : goal.returns
returns c = ap (λ n. take n c.args.text.now) c.min-end.ensures ∙ take_min LOOKED_AT c.args.text.now
