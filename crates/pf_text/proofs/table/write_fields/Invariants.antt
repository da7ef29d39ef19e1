use Rattle.std.proofs.Common.{◌≡◌, ◌==◌, ◌||◌, ◌&&◌, ◌++◌, not, take}
use Rattle.csv.specs.Writing.{fields_written, has_written, is_blank, row_body, writer_setup}
use Rattle.pf_text.specs.Page.{table_writer, text_given}
use Rattle.pf_text.proofs.table.write_fields.Given as goal

-- the writer has the fields so far
abbrev pub invariant-loop-at : goal.invariant-loop-at
invariant-loop-at g l = record {
  setup : writer_setup l.writer ≡ table_writer;
  text : text_given l.writer ≡ text_given l.fn.writer ++ row_body table_writer (take l.at (g.F.Fields.texts l.fields));
  count : fields_written l.writer ≡ l.at;
  blank : is_blank table_writer (take l.at (g.F.Fields.texts l.fields)) ≡ (not (has_written l.writer) && ((l.at == 0) || (l.at == 1)));
}
