-- The rows of a desk's plan are read as they were written.
use Rattle.std.proofs.Common.{◌≡◌, ◌^◌, ◌<◌, ◌≤◌, ◌==◌, ℕ, Bool, true, false, List, [], ◌∷◌, ◌++◌, Option, None, Some, All, map, codes, arith, refl}
use Rattle.std.specs.Prelude.{if◌then◌else◌}
use Rattle.std.specs.Fmt.{decimal}
use Rattle.std.proofs.lemmas.List.Elements.{All-append, All-cons, All-head, All-nil, All-tail}
use Rattle.csv.specs.Reading.{strip_bom}
use Rattle.csv.specs.Records.{trim_end, trim_start}
use Rattle.csv.specs.Writing.{escaped, fields_text, is_blank}
use Rattle.pf_scenario.specs.declared.event.Event.{Event}
use Rattle.pf_scenario.specs.declared.event.Event.TheVariants.{Join, Leave, Delay, Limit}
use Rattle.pf_scenario.specs.declared.event.Numbered.{Numbered}
use Rattle.pf_scenario.specs.System.{System, IsInLimits}
use Rattle.pf_vocabulary.specs.Names.Slots.{unit_word}
use Rattle.pf_vocabulary.specs.declared.names.named.Named.{Named}
use Rattle.pf_vocabulary.specs.declared.names.slot_length.SlotLength.{SlotLength}
use Rattle.pf_vocabulary.specs.declared.names.titles.Titles.{Titles}
use Rattle.pf_report.specs.Script.{insert_record, insert_records, name_record, settings_record, slot_records, step_records, title_records}
use Rattle.pf_text.specs.Page.{table_text}
use Rattle.pf_script_laws.proofs.ConversionsLemmas.Again.{IsPlainRow}
use Rattle.pf_script_laws.proofs.ConversionsLemmas.Lines.{IsPlainField, heading_plain, no_fields, plain_row, slot_plain, step_plain, with_number}
use Rattle.pf_script_laws.proofs.ConversionsLemmas.Plain.{name_plain}
use Rattle.pf_version_laws.proofs.Saying.{AreShort}
use Rattle.pf_version_laws.specs.Titles.{AreGivable, IsLength}

words : IsPlainField (codes "settings") × IsPlainField (codes "name") × IsPlainField (codes "join") × IsPlainField (codes "leave")
    × IsPlainField (codes "delay") × IsPlainField (codes "limit")
unfolding trim_start trim_end
words = ((refl, refl), (refl, refl), (refl, refl), (refl, refl), (refl, refl), (refl, refl))

settings_plain : (s : System) (every : ℕ) → IsInLimits s.processors s.base s.cap → (1 ≤ every) × (every ≤ 4096) → IsPlainRow (settings_record s every)
settings_plain s every limits distance =
    plain_row 115 (codes "ettings") (decimal s.processors) (decimal s.base ∷ decimal s.cap ∷ decimal every ∷ []) words.0 refl refl refl
    (with_number s.processors (decimal s.base ∷ decimal s.cap ∷ decimal every ∷ []) (omega (arith, limits.processors_within))
    (with_number s.base (decimal s.cap ∷ decimal every ∷ []) (omega (arith, limits.base.within))
    (with_number s.cap (decimal every ∷ []) (omega (arith, limits.cap_within)) (with_number every [] (omega (arith, distance.1)) no_fields))))

slots_plain : (slot : Option SlotLength) → IsLength slot → All IsPlainRow (slot_records slot)
slots_plain None is = All-nil IsPlainRow
slots_plain (Some slot) is =
    All-cons IsPlainRow (codes "slot" ∷ decimal slot.length ∷ unit_word slot.unit ∷ []) [] (slot_plain slot.length slot.unit (omega (arith, is.few))) (All-nil IsPlainRow)

names_plain : (names : List Named) → AreGivable names → All IsPlainRow (map name_record names)
unfolding AreGivable
names_plain [] are = All-nil IsPlainRow
names_plain (n ∷ names) are =
    All-cons IsPlainRow (name_record n) (map name_record names)
    (plain_row 110 (codes "ame") (decimal n.task) (n.name ∷ []) words.1 refl refl refl
    (with_number n.task (n.name ∷ []) (omega (arith, are.0.few)) (All-cons IsPlainField n.name [] (name_plain n.name are.0.text) no_fields)))
    (names_plain names are.3)

insert_plain : (event : Event) → AreShort event → IsPlainRow (insert_record event)
insert_plain (Join slot task cost period early) short =
    plain_row 106 (codes "oin") (decimal slot) (decimal task ∷ decimal cost ∷ decimal period ∷ decimal early ∷ []) words.2 refl refl refl
    (with_number slot (decimal task ∷ decimal cost ∷ decimal period ∷ decimal early ∷ []) short.0
    (with_number task (decimal cost ∷ decimal period ∷ decimal early ∷ []) short.1
    (with_number cost (decimal period ∷ decimal early ∷ []) short.2 (with_number period (decimal early ∷ []) short.3 (with_number early [] short.4 no_fields)))))
insert_plain (Leave slot task) short =
    plain_row 108 (codes "eave") (decimal slot) (decimal task ∷ []) words.3 refl refl refl
    (with_number slot (decimal task ∷ []) short.0 (with_number task [] short.1 no_fields))
insert_plain (Delay slot task by) short =
    plain_row 100 (codes "elay") (decimal slot) (decimal task ∷ decimal by ∷ []) words.4 refl refl refl
    (with_number slot (decimal task ∷ decimal by ∷ []) short.0 (with_number task (decimal by ∷ []) short.1 (with_number by [] short.2 no_fields)))
insert_plain (Limit slot count) short =
    plain_row 108 (codes "imit") (decimal slot) (decimal count ∷ []) words.5 refl refl refl
    (with_number slot (decimal count ∷ []) short.0 (with_number count [] short.1 no_fields))

inserts_plain : (xs : List Numbered) → All (λ x. AreShort x.event) xs → All IsPlainRow (insert_records xs)
inserts_plain [] short = All-nil IsPlainRow
inserts_plain (x ∷ xs) short =
    All-cons IsPlainRow (insert_record x.event) (insert_records xs) (insert_plain x.event (All-head (λ x. AreShort x.event) x xs short))
    (inserts_plain xs (All-tail (λ x. AreShort x.event) x xs short))

steps_plain : (n : ℕ) → n < 10 ^ 15 → All IsPlainRow (step_records n)
steps_plain n small = by (n == 0)
  where
    by : (b : Bool) → All IsPlainRow (if b then [] else (codes "step" ∷ decimal n ∷ []) ∷ [])
    by true = All-nil IsPlainRow
    by false = All-cons IsPlainRow (codes "step" ∷ decimal n ∷ []) [] (step_plain n small) (All-nil IsPlainRow)

-- Use: all rows of the script.
pub rows_plain : (s : System) (every n : ℕ) (titles : Titles) (xs : List Numbered) → IsInLimits s.processors s.base s.cap → (1 ≤ every) × (every ≤ 4096)
    → IsLength titles.slot → AreGivable titles.names → All (λ x. AreShort x.event) xs → n < 10 ^ 15
    → All IsPlainRow ((codes "plan" ∷ codes "1" ∷ []) ∷ settings_record s every ∷ (title_records titles ++ (insert_records xs ++ step_records n)))
rows_plain s every n titles xs limits distance slot names short small =
    let events = All-append IsPlainRow (insert_records xs) (step_records n) (inserts_plain xs short) (steps_plain n small) in
    let told = All-append IsPlainRow (slot_records titles.slot) (map name_record titles.names) (slots_plain titles.slot slot) (names_plain titles.names names) in
    let behind = title_records titles ++ (insert_records xs ++ step_records n) in
    All-cons IsPlainRow (codes "plan" ∷ codes "1" ∷ []) (settings_record s every ∷ behind) heading_plain
    (All-cons IsPlainRow (settings_record s every) behind (settings_plain s every limits distance)
    (All-append IsPlainRow (title_records titles) (insert_records xs ++ step_records n) told events))

-- Use: the script begins with no byte order mark.
pub unmarked : (s : System) (every : ℕ) (rows : List (List (List ℕ)))
    → strip_bom (table_text ((codes "plan" ∷ codes "1" ∷ []) ∷ settings_record s every ∷ rows))
    ≡ table_text ((codes "plan" ∷ codes "1" ∷ []) ∷ settings_record s every ∷ rows)
unfolding strip_bom escaped fields_text is_blank
unmarked s every rows = refl
