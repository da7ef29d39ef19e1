-- The text of records is read as these records.
use Rattle.std.proofs.Common.{◌≡◌, ◌∙◌, ◌+◌, ◌<◌, ◌≤◌, ℕ, zero, suc, List, [], ◌∷◌, ◌++◌, Ok, Err, Result, map, length, length-append, ap, arith, refl}
use Rattle.std.specs.Prelude.{if◌then◌else◌, Option, None, Some}
use Rattle.csv.specs.Machine.{next_record}
use Rattle.csv.specs.Reading.{records, records_from, default_config, strip_bom}
use Rattle.csv.specs.Writing.{row_body, row_text, end_text, default_writer, read_back, escaped, fields_text, is_blank}
use Rattle.csv.specs.declared.parser.State.TheVariants as st
use Rattle.csv.proofs.RoundTrip.{read-write}
use Rattle.pf_text.specs.Rows.Rows.{Row}
use Rattle.pf_script.specs.Script.{script_records}
use Rattle.pf_text.specs.Page.{table_text}
use Rattle.pf_script.specs.Plan.Parsing.{end_fault, said_at}
use Rattle.pf_script.specs.declared.plan.fault.RecordFault.{RecordFault}
use Rattle.pf_script.specs.declared.plan.said.Said.{Said}
use Rattle.pf_script.specs.declared.plan.said.Said.TheVariants.{Settings, Slot, Name, Asks}
use Rattle.pf_plain_script.specs.declared.origin.Origin.{Origin}
use Rattle.pf_plain_script.specs.Plain.{Course, Plain, course_behind, ended, origin_at, plain_behind, plain_from, plain_next, start, with_said}
use Rattle.pf_plain_script.specs.Written.{heading_fields, line_fields, settings_fields}
use Rattle.pf_script.specs.declared.plan.state.Progress.{Progress}
use Rattle.pf_version_laws.proofs.Writing.{line_kept}

-- a record has a byte at least: the end of its line
row_some : (fields : List (List ℕ)) → 1 ≤ length (row_text default_writer fields)
row_some fields =
    let quotes = if is_blank default_writer fields then default_writer.quote ∷ default_writer.quote ∷ [] else [] in
    let end = end_text default_writer.terminator in
    omega (arith, length-append (row_body default_writer fields) (quotes ++ end), length-append quotes end)

table_again : (n : ℕ) (rows : List (List (List ℕ))) → length (table_text rows) < n
    → records_from default_config n st.StartRecord (table_text rows) ≡ map read_back rows
unfolding records_from next_record
table_again zero rows long = absurd (omega arith)
table_again (suc n) [] long = refl
table_again (suc n) (row ∷ rows) long =
    let some = row_some row in
    rw (read-write row (table_text rows))
    (ap (λ (t : List (List (List ℕ))). read_back row ∷ t)
    (table_again n rows (omega (arith, some, length-append (row_text default_writer row) (table_text rows)))))

ended_kept : (p : Progress) (origin : Origin) (fault : Option RecordFault) → map read_back (ended p origin fault).records ≡ (ended p origin fault).records
ended_kept p origin None = refl
ended_kept p origin (Some fault) = refl

said_kept : (origin : Origin) (said : Said) (p : Plain) → map read_back p.records ≡ p.records
    → map read_back (with_said origin said p).records ≡ (with_said origin said p).records
said_kept origin (Settings s) p kept = ap (λ (t : List (List (List ℕ))). settings_fields s ∷ t) kept
said_kept origin (Slot length) p kept = kept
said_kept origin (Name task name) p kept = kept
said_kept origin (Asks line label) p kept = rw (line_kept line) (ap (λ (t : List (List (List ℕ))). line_fields line ∷ t) kept)

records_kept : (column : ℕ → ℕ) (rows : List Row) (c : Course) (n end : ℕ) → map read_back (plain_from column c n end rows).records ≡ (plain_from column c n end rows).records
records_kept column [] c n end = ended_kept c.progress (origin_at column n end) (end_fault c.progress)
records_kept column (row ∷ rows) c n end = by (said_at c.progress row.fields) (λ next. records_kept column rows next (n + 1) end)
  where
    by : (r : Result Said RecordFault) → ((next : Course) → map read_back (plain_from column next (n + 1) end rows).records ≡ (plain_from column next (n + 1) end rows).records)
        → map read_back (plain_next (λ next. plain_from column next (n + 1) end rows) c (origin_at column n row.line) r).records
        ≡ (plain_next (λ next. plain_from column next (n + 1) end rows) c (origin_at column n row.line) r).records
    by (Ok said) more = said_kept (origin_at column n row.line) said (plain_from column (course_behind c said) (n + 1) end rows) (more (course_behind c said))
    by (Err fault) more = ended_kept c.progress (origin_at column n row.line) (Some fault)

records_behind : (column : ℕ → ℕ) (fault : Option RecordFault) (line end : ℕ) (rows : List Row)
    → map read_back (plain_behind column fault line end rows).records ≡ (plain_behind column fault line end rows).records
records_behind column None line end rows = records_kept column rows start 2 end
records_behind column (Some fault) line end rows = ended_kept start.progress (origin_at column 1 line) (Some fault)

-- no such text begins with a byte order mark
unmarked : (rows : List (List (List ℕ))) → strip_bom (table_text (heading_fields ∷ rows)) ≡ table_text (heading_fields ∷ rows)
unfolding strip_bom escaped fields_text is_blank
unmarked rows = refl

-- Use: after the heading.
pub read_again : (column : ℕ → ℕ) (fault : Option RecordFault) (line end : ℕ) (rows : List Row)
    → script_records (table_text (heading_fields ∷ (plain_behind column fault line end rows).records)) ≡ heading_fields ∷ (plain_behind column fault line end rows).records
read_again column fault line end rows =
    let all = heading_fields ∷ (plain_behind column fault line end rows).records in
    ap (records default_config) (unmarked (plain_behind column fault line end rows).records)
    ∙ table_again (length (table_text all) + 1) all (omega arith)
    ∙ ap (λ (t : List (List (List ℕ))). heading_fields ∷ t) (records_behind column fault line end rows)
