use Rattle.std.proofs.Common.{◌∙◌, sym}
use Rattle.csv.specs.Records.{fields_of}
use Rattle.pf_text.proofs.RowsLemmas.Reading.{no-field, one-field}
use Rattle.pf_text.proofs.rows.rows.is_blank.Goals as goal

pub returns-in-Some : goal.returns-in-Some
returns-in-Some c = c.is_empty.ensures ∙ one-field (fields_of c.args.row.now) c.in-Some.field.now (sym c.len.ensures ∙ c.if-len-ne1.false) c.in-Some.ensures.value

pub returns-in-None : goal.returns-in-None
returns-in-None c = no-field (fields_of c.args.row.now) (sym c.len.ensures ∙ c.if-len-ne1.false) c.in-None.ensures.value
