use Rattle.pf_text.proofs.RowsLemmas.Counting.{few_rows}
use Rattle.pf_text.proofs.rows.rows.Rows.new.Goals as goal

pub returns-clause-few : goal.returns-clause-few
returns-clause-few c = rw (c.new.ensures, c.new-2.ensures) (few_rows c.args.text.now)
