-- A text has few rows.
use Rattle.std.proofs.Common.{◌≡◌, ◌≤◌, ◌+◌, ℕ, zero, suc, Bool, true, false, List, [], ◌∷◌, length, map, Option, Some, None, arith}
use Rattle.std.specs.Prelude.{if◌then◌else◌}
use Rattle.std.proofs.lemmas.List.{length-map}
use Rattle.csv.specs.Machine.{Read, next_record}
use Rattle.csv.specs.Reading.{records_from, records_next, strip_bom, is_bom}
use Rattle.csv.specs.Records.{trimmed}
use Rattle.csv.specs.declared.parser.Config.{Config}
use Rattle.csv.specs.declared.parser.State.{State}
use Rattle.csv.specs.declared.parser.State.TheVariants as st
use Rattle.pf_text.specs.Rows.Places.{line_at, lines_behind, record_lines, row_config}
use Rattle.pf_text.specs.Rows.Rows.{Table, is_blank, rows, rows_of, text_records, with_row}

few_from : (cfg : Config) (n : ℕ) (s : State) (bytes : List ℕ) → length (records_from cfg n s bytes) ≤ n
unfolding records_from
few_from cfg zero s bytes = omega arith
few_from cfg (suc n) s bytes = by (next_record cfg s [] [] bytes) (λ t rest. few_from cfg n t rest)
  where
    by : (o : Option Read) → ((t : State) (rest : List ℕ) → length (records_from cfg n t rest) ≤ n)
        → length (records_next (records_from cfg n) o) ≤ suc n
    by None few = omega arith
    by (Some p) few = let h = few p.1 p.2 in omega arith

-- without its mark a text is no longer
shorter : (bytes : List ℕ) → length (strip_bom bytes) ≤ length bytes
unfolding strip_bom
shorter [] = omega arith
shorter (a ∷ []) = omega arith
shorter (a ∷ b ∷ []) = omega arith
shorter (a ∷ b ∷ c ∷ rest) = by (is_bom a b c)
  where
    by : (m : Bool) → length (if m then rest else a ∷ b ∷ c ∷ rest) ≤ length (a ∷ b ∷ c ∷ rest)
    by true = omega arith
    by false = omega arith

-- a record is a row at most
few_rows_of : (lines : List ℕ) (records : List (List (List ℕ))) → length (rows_of lines records).rows ≤ length records
few_rows_of lines [] = omega arith
few_rows_of lines (fields ∷ records) = by (is_blank fields) (few_rows_of (lines_behind lines) records)
  where
    by : (b : Bool) → length (rows_of (lines_behind lines) records).rows ≤ length records
        → length (if b then rows_of (lines_behind lines) records else record (rows_of (lines_behind lines) records) { rows = record { line = line_at lines; fields = fields } ∷ (rows_of (lines_behind lines) records).rows }).rows ≤ length (fields ∷ records)
    by true few = omega (arith, few)
    by false few = omega (arith, few)

-- Use: the number of a row fits.
pub few_rows : (text : List ℕ) → length (rows text).rows ≤ length text + 1
few_rows text =
    omega (
      arith,
      few_rows_of (record_lines text) (text_records text),
      length-map (records_from row_config (length (strip_bom text) + 1) st.StartRecord (strip_bom text)) (map trimmed),
      few_from row_config (length (strip_bom text) + 1) st.StartRecord (strip_bom text),
      shorter text,
    )
