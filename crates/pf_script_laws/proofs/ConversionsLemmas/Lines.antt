-- The lines of a plan's script are the rows of its records.
use Rattle.std.proofs.Common.{◌≡◌, ◌∙◌, ◌^◌, ◌<◌, ◌*◌, ◌==◌, ℕ, true, false, List, [], ◌∷◌, ◌++◌, All, map, codes, ap, ap₂, arith, refl, sym, append_assoc}
use Rattle.std.specs.Fmt.{decimal}
use Rattle.std.specs.List.{list_any}
use Rattle.std.proofs.lemmas.List.Elements.{All-cons, All-head, All-tail}
use Rattle.csv.specs.Records.{trim_end, trim_start, trimmed}
use Rattle.csv.specs.Writing.{default_writer, fields_text, is_blank as shows_nothing, needs_byte, row_text}
use Rattle.pf_convert.specs.declared.slotted.Slotted.{Slotted}
use Rattle.pf_vocabulary.specs.declared.names.unit.Unit.{Unit}
use Rattle.pf_vocabulary.specs.declared.names.unit.Unit.TheVariants.{Nanosecond, Microsecond, Millisecond, Second}
use Rattle.pf_vocabulary.specs.Names.Slots.{unit_word}
use Rattle.pf_vocabulary.specs.Names.Text.{is_text}
use Rattle.pf_convert.specs.declared.list.listed.Listed.{Listed}
use Rattle.pf_convert.specs.Conversion.Script.{join_line, name_line, step_line}
use Rattle.pf_script_laws.specs.Conversions.Records.{heading_record, join_record, name_record, settings_record, slot_record, step_record}
use Rattle.pf_script_laws.proofs.ConversionsLemmas.Again.{IsPlainRow}
use Rattle.pf_script_laws.proofs.ConversionsLemmas.Fields.{AreShort}
use Rattle.pf_script_laws.proofs.ConversionsLemmas.Plain.{name_plain, number_plain, number_trimmed}

-- a field that needs no quotes, and has no blanks around it
abbrev pub IsPlainField : List ℕ → Type 0
IsPlainField x = (list_any (needs_byte default_writer) x ≡ false) × (trimmed x ≡ x)

-- what stands after the first field of a line, and then a text
abbrev pub fields_then : List (List ℕ) → List ℕ → List ℕ
fields_then [] tail = 10 ∷ tail
fields_then (x ∷ xs) tail = 44 ∷ (x ++ fields_then xs tail)

behind_plain : (xs : List (List ℕ)) (tail : List ℕ) → All IsPlainField xs → fields_text default_writer xs ++ (10 ∷ tail) ≡ fields_then xs tail
unfolding fields_text
behind_plain [] tail plain = refl
behind_plain (x ∷ xs) tail plain =
    let p = All-head IsPlainField x xs plain in
    rw p.0 (ap (λ (t : List ℕ). 44 ∷ t) (append_assoc x (fields_text default_writer xs) (10 ∷ tail)
    ∙ ap (λ (t : List ℕ). x ++ t) (behind_plain xs tail (All-tail IsPlainField x xs plain))))

-- the row of a record, and then a text
pub row_then : (w x : List ℕ) (xs : List (List ℕ)) (tail : List ℕ) → list_any (needs_byte default_writer) w ≡ false → All IsPlainField (x ∷ xs)
    → row_text default_writer (w ∷ x ∷ xs) ++ tail ≡ w ++ fields_then (x ∷ xs) tail
unfolding shows_nothing
row_then w x xs tail word plain =
    rw word (append_assoc (w ++ fields_text default_writer (x ∷ xs)) (10 ∷ []) tail ∙ append_assoc w (fields_text default_writer (x ∷ xs)) (10 ∷ tail)
    ∙ ap (λ (t : List ℕ). w ++ t) (behind_plain (x ∷ xs) tail plain))

no_more : (t : List ℕ) → t ++ [] ≡ t
no_more [] = refl
no_more (x ∷ xs) = ap (λ (t : List ℕ). x ∷ t) (no_more xs)

row_alone : (w x : List ℕ) (xs : List (List ℕ)) → list_any (needs_byte default_writer) w ≡ false → All IsPlainField (x ∷ xs)
    → row_text default_writer (w ∷ x ∷ xs) ≡ w ++ fields_then (x ∷ xs) []
row_alone w x xs word plain = sym (no_more (row_text default_writer (w ∷ x ∷ xs))) ∙ row_then w x xs [] word plain

trims : (xs : List (List ℕ)) → All IsPlainField xs → map trimmed xs ≡ xs
trims [] plain = refl
trims (x ∷ xs) plain =
    ap₂ (λ (f : List ℕ) (t : List (List ℕ)). f ∷ t) ((All-head IsPlainField x xs plain).1) (trims xs (All-tail IsPlainField x xs plain))

pub plain_row : (c : ℕ) (w x : List ℕ) (xs : List (List ℕ)) → IsPlainField (c ∷ w) → (c == 13) ≡ false → (c == 10) ≡ false → (35 == c) ≡ false
    → All IsPlainField (x ∷ xs) → IsPlainRow ((c ∷ w) ∷ x ∷ xs)
plain_row c w x xs word cr lf mark plain = record {
  first = c;
  rest = w ++ fields_then (x ∷ xs) [];
  text = row_alone (c ∷ w) x xs word.0 plain;
  no_cr = cr;
  no_lf = lf;
  no_mark = mark;
  kept = refl;
  trim = ap₂ (λ (f : List ℕ) (t : List (List ℕ)). f ∷ t) word.1 (trims (x ∷ xs) plain);
  shown = refl;
}

pub no_fields : All IsPlainField []
no_fields k d lt = absurd (omega (arith, lt))

number_field : (n : ℕ) → n < 10 ^ 15 → IsPlainField (decimal n)
number_field n small = (number_plain n small, number_trimmed n small)

pub with_number : (n : ℕ) (xs : List (List ℕ)) → n < 10 ^ 15 → All IsPlainField xs → All IsPlainField (decimal n ∷ xs)
with_number n xs small plain = All-cons IsPlainField (decimal n) xs (number_field n small) plain

unit_field : (u : Unit) → IsPlainField (unit_word u)
unfolding trim_start trim_end
unit_field Nanosecond = (refl, refl)
unit_field Microsecond = (refl, refl)
unit_field Millisecond = (refl, refl)
unit_field Second = (refl, refl)

words : IsPlainField (codes "plan") × IsPlainField (codes "1") × IsPlainField (codes "settings") × IsPlainField (codes "64") × IsPlainField (codes "slot")
    × IsPlainField (codes "name") × IsPlainField (codes "join") × IsPlainField (codes "step")
unfolding trim_start trim_end
words = ((refl, refl), (refl, refl), (refl, refl), (refl, refl), (refl, refl), (refl, refl), (refl, refl), (refl, refl))

pub heading_plain : IsPlainRow heading_record
heading_plain = plain_row 112 (codes "lan") (codes "1") [] words.0 refl refl refl (All-cons IsPlainField (codes "1") [] words.1 no_fields)

pub settings_fields : (m b : ℕ) → m < 10 ^ 15 → b < 10 ^ 15 → m * b < 10 ^ 15 → All IsPlainField (decimal m ∷ decimal b ∷ decimal (m * b) ∷ codes "64" ∷ [])
settings_fields m b few low cap =
    with_number m (decimal b ∷ decimal (m * b) ∷ codes "64" ∷ []) few
    (with_number b (decimal (m * b) ∷ codes "64" ∷ []) low (with_number (m * b) (codes "64" ∷ []) cap (All-cons IsPlainField (codes "64") [] words.3 no_fields)))

pub slot_fields : (l : ℕ) (u : Unit) → l < 10 ^ 15 → All IsPlainField (decimal l ∷ unit_word u ∷ [])
slot_fields l u short = with_number l (unit_word u ∷ []) short (All-cons IsPlainField (unit_word u) [] (unit_field u) no_fields)

name_fields : (k : ℕ) (task : Listed) → k < 10 ^ 15 → is_text task.name ≡ true → All IsPlainField (decimal k ∷ task.name ∷ [])
name_fields k task small text = with_number k (task.name ∷ []) small (All-cons IsPlainField task.name [] (name_plain task.name text) no_fields)

join_fields : (k : ℕ) (s : Slotted) → AreShort k s → All IsPlainField (decimal s.join ∷ decimal k ∷ decimal s.cost ∷ decimal s.period ∷ decimal s.early ∷ [])
join_fields k s a =
    with_number s.join (decimal k ∷ decimal s.cost ∷ decimal s.period ∷ decimal s.early ∷ []) a.join
    (with_number k (decimal s.cost ∷ decimal s.period ∷ decimal s.early ∷ []) a.number
    (with_number s.cost (decimal s.period ∷ decimal s.early ∷ []) a.cost
    (with_number s.period (decimal s.early ∷ []) a.period (with_number s.early [] a.early no_fields))))

step_fields : (n : ℕ) → n < 10 ^ 15 → All IsPlainField (decimal n ∷ [])
step_fields n small = with_number n [] small no_fields

pub settings_plain : (m b : ℕ) → m < 10 ^ 15 → b < 10 ^ 15 → m * b < 10 ^ 15 → IsPlainRow (settings_record m b)
settings_plain m b few low cap = plain_row 115 (codes "ettings") (decimal m) (decimal b ∷ decimal (m * b) ∷ codes "64" ∷ []) words.2 refl refl refl (settings_fields m b few low cap)

pub slot_plain : (l : ℕ) (u : Unit) → l < 10 ^ 15 → IsPlainRow (slot_record (l, u))
slot_plain l u short = plain_row 115 (codes "lot") (decimal l) (unit_word u ∷ []) words.4 refl refl refl (slot_fields l u short)

pub name_row_plain : (k : ℕ) (task : Listed) → k < 10 ^ 15 → is_text task.name ≡ true → IsPlainRow (name_record k task)
name_row_plain k task small text = plain_row 110 (codes "ame") (decimal k) (task.name ∷ []) words.5 refl refl refl (name_fields k task small text)

pub join_plain : (k : ℕ) (s : Slotted) → AreShort k s → IsPlainRow (join_record k s)
join_plain k s a = plain_row 106 (codes "oin") (decimal s.join) (decimal k ∷ decimal s.cost ∷ decimal s.period ∷ decimal s.early ∷ []) words.6 refl refl refl (join_fields k s a)

pub step_plain : (n : ℕ) → n < 10 ^ 15 → IsPlainRow (step_record n)
step_plain n small = plain_row 115 (codes "tep") (decimal n) [] words.7 refl refl refl (step_fields n small)

-- each line is the row of its record
pub name_is_row : (k : ℕ) (task : Listed) → k < 10 ^ 15 → is_text task.name ≡ true → row_text default_writer (name_record k task) ≡ name_line k task
name_is_row k task small text = row_alone (codes "name") (decimal k) (task.name ∷ []) refl (name_fields k task small text)

pub join_is_row : (k : ℕ) (s : Slotted) → AreShort k s → row_text default_writer (join_record k s) ≡ join_line k s
join_is_row k s a = row_alone (codes "join") (decimal s.join) (decimal k ∷ decimal s.cost ∷ decimal s.period ∷ decimal s.early ∷ []) refl (join_fields k s a)

pub step_is_row : (n : ℕ) → n < 10 ^ 15 → row_text default_writer (step_record n) ≡ step_line n
step_is_row n small = row_alone (codes "step") (decimal n) [] refl (step_fields n small)
