use Rattle.std.proofs.Common.{[], ◌∙◌, ap, unwrap_or}
use Rattle.csv.specs.Records.{fields_of}
use Rattle.pf_convert.proofs.ListLemmas.Reading.{or_nothing}
use Rattle.pf_convert.proofs.list.heading.field_of.Goals as goal

pub returns-in-Some : goal.returns-in-Some
returns-in-Some c = ap (λ o. unwrap_or o []) c.in-Some.ensures.value ∙ or_nothing (fields_of c.args.row.now) c.args.place

pub returns-in-None : goal.returns-in-None
returns-in-None c = ap (λ o. unwrap_or o []) c.in-None.ensures.value ∙ or_nothing (fields_of c.args.row.now) c.args.place
