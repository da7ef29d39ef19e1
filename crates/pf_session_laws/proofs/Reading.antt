-- The lines of records are read as these records, after a blank each or after nothing.
use Rattle.std.proofs.Common.{◌≡◌, ◌∙◌, ◌<◌, ◌+◌, ◌==◌, ℕ, zero, suc, Bool, true, false, List, [], ◌∷◌, ◌++◌, Some, All, map, codes, length, length-append, append_assoc, refl, sym, ap, ap₂, arith}
use Rattle.std.specs.Prelude.{⊤}
use Rattle.std.specs.Char.{is_ascii_alphabetic}
use Rattle.std.specs.List.{flat_map, list_any}
use Rattle.std.proofs.lemmas.Bool.Decides.{nat_tests}
use Rattle.std.proofs.lemmas.List.Elements.{All-head, All-tail}
use Rattle.csv.specs.Machine.{next_record}
use Rattle.csv.specs.Reading.{records, records_from, strip_bom}
use Rattle.csv.specs.Records.{trim_start, trimmed}
use Rattle.csv.specs.Writing.{default_writer, fields_text, needs_byte}
use Rattle.csv.specs.declared.parser.State.TheVariants as st
use Rattle.csv.proofs.RoundTrip.{plain-run, record-same, rest-run, start-same}
use Rattle.pf_session_lines.specs.Lines.{line_of}
use Rattle.pf_text.specs.Rows.Places.{lines_behind, record_lines, row_config}
use Rattle.pf_text.specs.Rows.Rows.{is_blank, rows, rows_of, text_records}
use Rattle.pf_script_laws.proofs.ConversionsLemmas.Alike.{record_alike}

-- a field that needs no quotes, and has no blanks around it
abbrev pub IsPlain : List ℕ → Type 0
IsPlain x = (list_any (needs_byte default_writer) x ≡ false) × (trimmed x ≡ x)

-- a record that begins with a letter, and has such fields
abbrev pub IsRead : List (List ℕ) → Type 0
IsRead [] = ⊥
IsRead ([] ∷ xs) = ⊥
IsRead ((c ∷ w) ∷ xs) = (is_ascii_alphabetic c ≡ true) × IsPlain (c ∷ w) × All IsPlain xs

abbrev pub AreRead : List (List (List ℕ)) → Type 0
AreRead [] = ⊤
AreRead (r ∷ rs) = IsRead r × AreRead rs

-- a gate, which is a blank, or none
abbrev pub gate : Bool → List ℕ
gate true = codes " "
gate false = []

-- the lines of records, each after a gate
abbrev pub lines_text : Bool → List (List (List ℕ)) → List ℕ
lines_text g [] = []
lines_text g (r ∷ rs) = gate g ++ (line_of r ++ lines_text g rs)

-- a record as it is read after a gate, the blanks kept
abbrev behind_gate : Bool → List (List ℕ) → List (List ℕ)
behind_gate g [] = []
behind_gate g (x ∷ xs) = (gate g ++ x) ∷ xs

more_text : (xs : List (List ℕ)) → All IsPlain xs → fields_text default_writer xs ≡ flat_map (λ f. codes "," ++ f) xs
unfolding fields_text
more_text [] plain = refl
more_text (x ∷ xs) plain =
    let p = All-head IsPlain x xs plain in
    rw p.0 (ap (λ (t : List ℕ). 44 ∷ (x ++ t)) (more_text xs (All-tail IsPlain x xs plain)))

-- one record
run : (c : ℕ) (w : List ℕ) (xs : List (List ℕ)) (tail : List ℕ) → (c == 13) ≡ false → (c == 10) ≡ false → (35 == c) ≡ false → (c == 34) ≡ false
    → list_any (needs_byte default_writer) (c ∷ w) ≡ false
    → next_record row_config st.StartRecord [] [] ((c ∷ w) ++ (fields_text default_writer xs ++ (10 ∷ tail))) ≡ Some ((c ∷ w) ∷ xs, st.StartRecord, tail)
run c w xs tail no_cr no_lf no_mark no_quote plain =
    let more = fields_text default_writer xs ++ (10 ∷ tail) in
    record_alike c (w ++ more) no_cr no_lf no_mark ∙ record-same [] [] c (w ++ more) no_cr no_lf ∙ start-same [] [] c (w ++ more) no_quote
    ∙ plain-run [] [] (c ∷ w) more plain ∙ rest-run [] (c ∷ w) xs tail

line_then : (g : Bool) (x : List ℕ) (xs : List (List ℕ)) (tail : List ℕ) → All IsPlain xs
    → gate g ++ (line_of (x ∷ xs) ++ tail) ≡ (gate g ++ x) ++ (fields_text default_writer xs ++ (10 ∷ tail))
line_then g x xs tail plain =
    let more = flat_map (λ f. codes "," ++ f) xs in
    ap (λ (t : List ℕ). gate g ++ t) (append_assoc x (more ++ codes "\n") tail ∙ ap (λ (t : List ℕ). x ++ t) (append_assoc more (codes "\n") tail))
    ∙ sym (append_assoc (gate g) x (more ++ (10 ∷ tail)))
    ∙ ap (λ (t : List ℕ). (gate g ++ x) ++ (t ++ (10 ∷ tail))) (sym (more_text xs plain))

letter_marks : (c : ℕ) → is_ascii_alphabetic c ≡ true → ((c == 13) ≡ false) × ((c == 10) ≡ false) × ((35 == c) ≡ false) × ((c == 34) ≡ false)
letter_marks c letter =
    (grind (arith, nat_tests, letter), grind (arith, nat_tests, letter), grind (arith, nat_tests, letter), grind (arith, nat_tests, letter))

record_again : (g : Bool) (r : List (List ℕ)) (tail : List ℕ) → IsRead r
    → next_record row_config st.StartRecord [] [] (gate g ++ (line_of r ++ tail)) ≡ Some (behind_gate g r, st.StartRecord, tail)
record_again g [] tail is = absurd is
record_again g ([] ∷ xs) tail is = absurd is
record_again true ((c ∷ w) ∷ xs) tail is =
    ap (λ (t : List ℕ). next_record row_config st.StartRecord [] [] t) (line_then true (c ∷ w) xs tail is.2)
    ∙ run 32 (c ∷ w) xs tail refl refl refl refl is.1.0
record_again false ((c ∷ w) ∷ xs) tail is =
    let marks = letter_marks c is.0 in
    ap (λ (t : List ℕ). next_record row_config st.StartRecord [] [] t) (line_then false (c ∷ w) xs tail is.2)
    ∙ run c w xs tail marks.0 marks.1 marks.2 marks.3 is.1.0

line_some : (g : Bool) (r : List (List ℕ)) (tail : List ℕ) → IsRead r → length tail < length (gate g ++ (line_of r ++ tail))
line_some g [] tail is = absurd is
line_some g ([] ∷ xs) tail is = absurd is
line_some g ((c ∷ w) ∷ xs) tail is =
    omega (arith, length-append (gate g) (line_of ((c ∷ w) ∷ xs) ++ tail), length-append (line_of ((c ∷ w) ∷ xs)) tail)

records_again : (n : ℕ) (g : Bool) (rs : List (List (List ℕ))) → AreRead rs → length (lines_text g rs) < n
    → records_from row_config n st.StartRecord (lines_text g rs) ≡ map (behind_gate g) rs
unfolding records_from next_record
records_again zero g rs read long = absurd (omega arith)
records_again (suc n) g [] read long = refl
records_again (suc n) g (r ∷ rs) read long =
    rw (record_again g r (lines_text g rs) read.0)
    (ap (λ (t : List (List (List ℕ))). behind_gate g r ∷ t)
    (records_again n g rs read.1 (omega (arith, line_some g r (lines_text g rs) read.0))))

-- the blanks are left out
trims : (xs : List (List ℕ)) → All IsPlain xs → map trimmed xs ≡ xs
trims [] plain = refl
trims (x ∷ xs) plain =
    ap₂ (λ (f : List ℕ) (t : List (List ℕ)). f ∷ t) ((All-head IsPlain x xs plain).1) (trims xs (All-tail IsPlain x xs plain))

gate_trimmed : (g : Bool) (x : List ℕ) → trimmed (gate g ++ x) ≡ trimmed x
unfolding trim_start
gate_trimmed true x = refl
gate_trimmed false x = refl

trim_one : (g : Bool) (r : List (List ℕ)) → IsRead r → map trimmed (behind_gate g r) ≡ r
trim_one g [] is = absurd is
trim_one g ([] ∷ xs) is = absurd is
trim_one g ((c ∷ w) ∷ xs) is =
    ap₂ (λ (f : List ℕ) (t : List (List ℕ)). f ∷ t) (gate_trimmed g (c ∷ w) ∙ is.1.1) (trims xs is.2)

trim_all : (g : Bool) (rs : List (List (List ℕ))) → AreRead rs → map (map trimmed) (map (behind_gate g) rs) ≡ rs
trim_all g [] read = refl
trim_all g (r ∷ rs) read = ap₂ (λ (f : List (List ℕ)) (t : List (List (List ℕ))). f ∷ t) (trim_one g r read.0) (trim_all g rs read.1)

shown : (r : List (List ℕ)) → IsRead r → is_blank r ≡ false
shown [] is = absurd is
shown ([] ∷ xs) is = absurd is
shown ((c ∷ w) ∷ xs) is = refl

rows_kept : (lines : List ℕ) (rs : List (List (List ℕ))) → AreRead rs → map (λ row. row.fields) (rows_of lines rs).rows ≡ rs
rows_kept lines [] read = refl
rows_kept lines (r ∷ rs) read = rw (shown r read.0) (ap (λ (t : List (List (List ℕ))). r ∷ t) (rows_kept (lines_behind lines) rs read.1))

-- Use: the rows of the lines are the records.
pub rows_again : (g : Bool) (rs : List (List (List ℕ))) → AreRead rs → strip_bom (lines_text g rs) ≡ lines_text g rs
    → map (λ row. row.fields) (rows (lines_text g rs)).rows ≡ rs
rows_again g rs read unmarked =
    let text = lines_text g rs in
    let found : text_records text ≡ rs =
    ap (λ (t : List ℕ). map (map trimmed) (records row_config t)) unmarked
    ∙ ap (λ (t : List (List (List ℕ))). map (map trimmed) t) (records_again (length text + 1) g rs read (omega arith)) ∙ trim_all g rs read in
    ap (λ (t : List (List (List ℕ))). map (λ row. row.fields) (rows_of (record_lines text) t).rows) found ∙ rows_kept (record_lines text) rs read
