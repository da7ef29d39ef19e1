-- The records of a script, each as the list of its fields.
use Rattle.std.specs.Prelude.{ℕ, ◌+◌, ◌≡◌, true, false, List, [], length, Option, Some, None}
use Rattle.std.specs.Borrow.{Bor}
use Rattle.csv.specs.Reading.{records, records_from, default_config, strip_bom, source_of, has_failed, reader_config, reader_trim, names_headers, is_flexible, took_first, reader_headers, reader_state}
use Rattle.csv.specs.declared.parser.State.{State}
use Rattle.csv.specs.declared.reader.Reader.{Reader}
use Rattle.csv.specs.declared.reader.Trim.TheVariants as trim

-- the records of a script: of its bytes without one byte order mark
abbrev pub script_records : List ℕ → List (List (List ℕ))
script_records bytes = records default_config (strip_bom bytes)

-- the records from a state on; none where the reader has failed
abbrev pub records_after : State → Option (List ℕ) → List (List (List ℕ))
records_after state None = []
records_after state (Some bytes) = records_from default_config (length bytes + 1) state bytes

-- the records that a reader over bytes has left
abbrev pub records_left : Reader (Bor (List ℕ)) → List (List (List ℕ))
records_left r = records_after (reader_state r) (source_of (λ s. Some s.now) r)

-- a reader that reads scripts: commas, double quotes, no heading, no trimming, records of any lengths
pub record IsScriptReader (r : Reader (Bor (List ℕ))) : Type 0 where
  pub config : reader_config r ≡ default_config
  pub trim : reader_trim r ≡ trim.None
  pub headers : names_headers r ≡ false
  pub flexible : is_flexible r ≡ true
  pub no_header : took_first r ≡ false → reader_headers r ≡ None

-- and which has not failed, so its bytes are read to their end
abbrev pub ReadsScripts : Reader (Bor (List ℕ)) → Type 0
ReadsScripts r = has_failed r ≡ false → IsScriptReader r
