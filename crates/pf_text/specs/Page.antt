-- A table, as csv writes it: commas, line feeds, quotes only where they are needed.
use Rattle.std.specs.Prelude.{◌≡◌, ℕ, true, false, List, [], ◌∷◌, ◌++◌}
use Rattle.std.specs.List.{flat_map}
use Rattle.std.specs.declared.vec.Vec.{Vec}
use Rattle.std.specs.declared.alloc.Global.{Global}
use Rattle.csv.specs.Writing.{row_text, default_writer, with_flexible, writer_setup, writer_under, writer_pending, fields_written, has_written}
use Rattle.csv.specs.declared.writer.Writer.{Writer}
use Rattle.csv.specs.declared.writer.WriterBuilder.{WriterBuilder}

-- a table: its records, each a list of fields, the heading first
abbrev pub table_text : List (List (List ℕ)) → List ℕ
table_text records = flat_map (row_text default_writer) records

-- a table that is being written: the text of its whole records, and the fields of the next one so far
pub record Page : Type 0 where
  pub text : List ℕ
  pub fields : List (List ℕ)

abbrev pub empty_page : Page
empty_page = record { text = []; fields = [] }

-- the page with a field more
abbrev pub with_field : Page → List ℕ → Page
with_field page field = record page { fields = page.fields ++ field ∷ [] }

-- the page with a record more
abbrev pub with_record : Page → List (List ℕ) → Page
with_record page fields = record { text = page.text ++ row_text default_writer fields; fields = [] }

-- what a writer over memory was given
abbrev pub text_given : Writer (Vec ℕ Global) → List ℕ
text_given w = (writer_under w).items ++ writer_pending w

-- how a table is written: as csv does by default, but its records may have different numbers of fields
abbrev pub table_writer : WriterBuilder
table_writer = with_flexible default_writer true

-- the writer writes so, and stands between two records
pub record IsBetweenRecords (w : Writer (Vec ℕ Global)) : Type 0 where
  pub setup : writer_setup w ≡ table_writer
  pub fields : fields_written w ≡ 0
  pub wrote : has_written w ≡ false
