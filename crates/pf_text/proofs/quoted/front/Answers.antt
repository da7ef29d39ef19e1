use Rattle.std.proofs.Common.{◌∙◌, take, ap}
use Rattle.std.proofs.lemmas.List.{take_min}
use Rattle.pf_text.proofs.quoted.front.Goals as goal

pub returns : goal.returns
returns c = ap (λ n. take n c.args.field.now) c.min-end.ensures ∙ take_min 40 c.args.field.now
