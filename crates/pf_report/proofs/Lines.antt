-- The records of quanta, one after another.
use Rattle.std.proofs.Common.{◌≡◌, ◌∙◌, ℕ, ◌+◌, ◌<◌, ◌≤◌, List, ◌++◌, Option, Some, None, length, drop, take, ap, sym, arith, append_assoc}
use Rattle.std.specs.List.{slice_get}
use Rattle.std.proofs.lemmas.Grind.{flat_map-append}
use Rattle.std.proofs.lemmas.List.{at_drop_more, length-take-le}
use Rattle.csv.specs.Writing.{row_text, default_writer}
use Rattle.pf_order.specs.declared.pick.Pick.{Pick}
use Rattle.pf_place.specs.Occupancy.{sitter}
use Rattle.pf_tally.proofs.Noting.{got_at}
use Rattle.pf_report.specs.Quanta.{quantum_records, row_records, quanta_records}
use Rattle.pf_text.specs.Page.{table_text}
use Rattle.pf_report.proofs.Parted.{front_row}

-- some records are written, and those left after them
pub records_written : (text whole : List ℕ) (written rest : List (List (List ℕ))) → text ++ table_text (written ++ rest) ≡ whole
    → (text ++ table_text written) ++ table_text rest ≡ whole
records_written text whole written rest h =
    append_assoc text (table_text written) (table_text rest)
    ∙ ap (λ t. text ++ t) (sym (flat_map-append (row_text default_writer) written rest)) ∙ h

-- the records of a row from a processor on begin with those of that processor
pub sitter_first : (t processor : ℕ) (row : List (Option Pick)) → processor < length row
    → row_records t processor (drop processor row)
    ≡ quantum_records t processor (sitter row processor) ++ row_records t (processor + 1) (drop (processor + 1) row)
sitter_first t processor row within = at_drop_more (row_records t processor) row processor None within

-- those of the rows from slot t on begin with those of that slot's row
pub row_first_of : (rows : List (List (Option Pick))) (to t : ℕ) (row : List (Option Pick)) → to ≤ length rows → t < to → Some row ≡ slice_get rows t
    → quanta_records t (drop t (take to rows)) ≡ row_records t 0 row ++ quanta_records (t + 1) (drop (t + 1) (take to rows))
row_first_of rows to t row within below is =
    let front = take to rows in
    let long = length-take-le to rows within in
    at_drop_more (quanta_records t) front t row (omega (arith, long))
    ∙ ap (λ r. row_records t 0 r ++ quanta_records (t + 1) (drop (t + 1) front)) (got_at front t row (front_row rows to t row within below is))
