use Rattle.std.proofs.Common.{refl}
use Rattle.csv.specs.Records.{fields_of}
use Rattle.pf_script.proofs.Places.{field-from}
use Rattle.pf_script.proofs.fields.Fields.field.Goals as goal

pub returns : goal.returns
returns c = rw (c.unwrap_or.ensures, ← c.self.view_is) (field-from (fields_of c.self.inside.row.now) c.self.inside.at c.args.place c.get.result _ c.get.ensures.value refl)
