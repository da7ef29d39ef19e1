use Rattle.std.proofs.Common.{◌≡◌, ◌++◌, []}
use Rattle.pf_text.specs.Page.{table_text}
use Rattle.pf_text.proofs.sheets.fill.Given as goal

-- what the table has and the records left are what there was
abbrev pub invariant-loop-at : goal.invariant-loop-at
invariant-loop-at g l = record {
  text : l.table.text ++ table_text (g.S.Sheet.rest l.sheet l.at) ≡ l.fn.table.text ++ table_text (g.S.Sheet.rest l.sheet l.from);
  fields : l.table.fields ≡ [];
}
