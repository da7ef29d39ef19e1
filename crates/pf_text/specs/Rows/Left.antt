-- What is left of a text: the lines of its records, and its rows.
use Rattle.std.specs.Prelude.{ℕ, ◌≡◌, ◌+◌, true, false, List, [], drop, length, Option, None, Some}
use Rattle.std.specs.Borrow.{Bor}
use Rattle.csv.specs.Reading.{records_from, source_of, has_failed, reader_config, reader_trim, names_headers, is_flexible, Ready, reader_state}
use Rattle.csv.specs.declared.parser.State.{State}
use Rattle.csv.specs.declared.reader.Reader.{Reader}
use Rattle.csv.specs.declared.reader.Trim.TheVariants as trim
use Rattle.pf_text.specs.declared.rows.row_lines.RowLines.{RowLines}
use Rattle.pf_text.specs.Rows.Places.{lines_from, row_config, state_of}

-- the lines from the byte on where it stands
abbrev pub lines_ahead : RowLines → List ℕ
lines_ahead r = lines_from (state_of r.place) r.line r.before (drop r.at r.bytes.now)

-- the records from a state on; none where the reader has failed
abbrev pub records_after : State → Option (List ℕ) → List (List (List ℕ))
records_after state None = []
records_after state (Some bytes) = records_from row_config (length bytes + 1) state bytes

-- the records that a reader over bytes has left
abbrev pub records_left : Reader (Bor (List ℕ)) → List (List (List ℕ))
records_left r = records_after (reader_state r) (source_of (λ s. Some s.now) r)

-- a reader of rows: commas, double quotes, comments, no heading, fields without the blanks around them, records of any lengths
pub record IsRowReader (r : Reader (Bor (List ℕ))) : Type 0 where
  pub config : reader_config r ≡ row_config
  pub trim : reader_trim r ≡ trim.Fields
  pub headers : names_headers r ≡ false
  pub flexible : is_flexible r ≡ true
  pub ready : Ready r

-- and which has not failed, so its bytes are read to their end
abbrev pub ReadsRows : Reader (Bor (List ℕ)) → Type 0
ReadsRows r = has_failed r ≡ false → IsRowReader r
