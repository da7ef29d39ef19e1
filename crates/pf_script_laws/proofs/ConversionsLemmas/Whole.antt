-- A plan's script, read as a plan.
use Rattle.std.proofs.Common.{◌≡◌, ◌∙◌, ◌^◌, ◌<◌, ◌≤◌, ◌+◌, ◌*◌, ℕ, None, List, [], ◌∷◌, ◌++◌, All, codes, length, map, ap, ap₂, arith, refl, sym, subst, append_assoc}
use Rattle.std.specs.Fmt.{decimal}
use Rattle.std.proofs.lemmas.List.Concat.{flat_map-append}
use Rattle.std.proofs.lemmas.List.Elements.{All-append, All-cons, All-head, All-tail}
use Rattle.std.proofs.lemmas.Nat.{mul-le}
use Rattle.csv.specs.Reading.{strip_bom}
use Rattle.csv.specs.Writing.{default_writer, escaped, fields_text, is_blank as shows_nothing, row_text}
use Rattle.pf_convert.specs.declared.plan.Plan.{Plan}
use Rattle.pf_convert.specs.declared.slotted.Slotted.{Slotted}
use Rattle.pf_convert.specs.Slots.{IsSlotted}
use Rattle.pf_vocabulary.specs.declared.names.unit.Unit.{Unit}
use Rattle.pf_script.specs.Plan.Heading.{heading_fault}
use Rattle.pf_script.specs.Fields.{is_word}
use Rattle.pf_vocabulary.specs.Names.Slots.{unit_word}
use Rattle.pf_text.specs.Rows.Rows.{rows}
use Rattle.pf_convert.specs.declared.list.listed.Listed.{Listed}
use Rattle.pf_text.specs.Page.{table_text}
use Rattle.pf_convert.specs.List.Parts.{joined}
use Rattle.pf_convert.specs.Conversion.Script.{head_lines, join_line, name_line, numbered, script_text, slot_of, step_line, steps_of}
use Rattle.pf_script_laws.specs.Conversions.Records.{each_numbered, heading_record, join_record, name_record, script_records, settings_record, slot_record, step_record}
use Rattle.pf_script_laws.specs.Conversions.Read.{AreNames, IsWritten, ScriptsHaveNoFault, plan_said}
use Rattle.pf_script_laws.proofs.ConversionsLemmas.Again.{IsPlainRow, none_found, rows_again}
use Rattle.pf_script_laws.proofs.ConversionsLemmas.Lines.{fields_then, heading_plain, join_is_row, join_plain, name_is_row, name_row_plain, row_then, settings_fields, settings_plain, slot_fields, slot_plain, step_is_row, step_plain}
use Rattle.pf_script_laws.proofs.ConversionsLemmas.Saying.{plans_said, short_join, slot_within, steps_within}

-- the rows of names
names_plain : (k : ℕ) (tasks : List Listed) → k + length tasks ≤ 4096 → AreNames tasks → All IsPlainRow (each_numbered name_record k tasks)
unfolding each_numbered AreNames
names_plain k [] few named = λ i d lt. absurd (omega (arith, lt))
names_plain k (t ∷ ts) few named =
    All-cons IsPlainRow (name_record k t) (each_numbered name_record (k + 1) ts) (name_row_plain k t (omega (arith, few)) named.0)
    (names_plain (k + 1) ts (omega (arith, few)) named.2)

names_text : (k : ℕ) (tasks : List Listed) → k + length tasks ≤ 4096 → AreNames tasks → table_text (each_numbered name_record k tasks) ≡ numbered name_line k tasks
unfolding each_numbered numbered AreNames
names_text k [] few named = refl
names_text k (t ∷ ts) few named =
    ap₂ (λ (a b : List ℕ). a ++ b) (name_is_row k t (omega (arith, few)) named.0) (names_text (k + 1) ts (omega (arith, few)) named.2)

-- and of joins
joins_plain : (base k : ℕ) (slots : List Slotted) → base ≤ 2 ^ 30 → k + length slots ≤ 4096 → All IsSlotted slots → All (λ s. s.period ≤ base) slots
    → All IsPlainRow (each_numbered join_record k slots)
unfolding each_numbered
joins_plain base k [] low few slotted within = λ i d lt. absurd (omega (arith, lt))
joins_plain base k (s ∷ ss) low few slotted within =
    All-cons IsPlainRow (join_record k s) (each_numbered join_record (k + 1) ss)
    (join_plain k s (short_join base k s (All-head IsSlotted s ss slotted) (All-head (λ t. t.period ≤ base) s ss within) low (omega (arith, few))))
    (joins_plain base (k + 1) ss low (omega (arith, few)) (All-tail IsSlotted s ss slotted) (All-tail (λ t. t.period ≤ base) s ss within))

joins_text : (base k : ℕ) (slots : List Slotted) → base ≤ 2 ^ 30 → k + length slots ≤ 4096 → All IsSlotted slots → All (λ s. s.period ≤ base) slots
    → table_text (each_numbered join_record k slots) ≡ numbered join_line k slots
unfolding each_numbered numbered
joins_text base k [] low few slotted within = refl
joins_text base k (s ∷ ss) low few slotted within =
    ap₂ (λ (a b : List ℕ). a ++ b)
    (join_is_row k s (short_join base k s (All-head IsSlotted s ss slotted) (All-head (λ t. t.period ≤ base) s ss within) low (omega (arith, few))))
    (joins_text base (k + 1) ss low (omega (arith, few)) (All-tail IsSlotted s ss slotted) (All-tail (λ t. t.period ≤ base) s ss within))

-- parts of a line, and then a text
abbrev joined_then : List (List ℕ) → List ℕ → List ℕ
joined_then [] tail = tail
joined_then (x ∷ xs) tail = x ++ joined_then xs tail

parts_then : (xs : List (List ℕ)) (tail : List ℕ) → joined xs ++ tail ≡ joined_then xs tail
parts_then [] tail = refl
parts_then (x ∷ xs) tail = append_assoc x (joined xs) tail ∙ ap (λ (t : List ℕ). x ++ t) (parts_then xs tail)

-- the heading, the settings and the slot, and then a text
heads : (m b l : ℕ) (u : Unit) (tail : List ℕ) → m < 10 ^ 15 → b < 10 ^ 15 → m * b < 10 ^ 15 → l < 10 ^ 15
    → row_text default_writer heading_record ++ (row_text default_writer (settings_record m b) ++ (row_text default_writer (slot_record (l, u)) ++ tail))
    ≡ head_lines m b (l, u) ++ tail
unfolding escaped fields_text shows_nothing
heads m b l u tail few low cap short =
    let slot = row_then (codes "slot") (decimal l) (unit_word u ∷ []) tail refl (slot_fields l u short) in
    let behind = codes "slot" ++ fields_then (decimal l ∷ unit_word u ∷ []) tail in
    let settings = row_then (codes "settings") (decimal m) (decimal b ∷ decimal (m * b) ∷ codes "64" ∷ []) behind refl (settings_fields m b few low cap) in
    let parts = codes "plan,1\nsettings," ∷ decimal m ∷ codes "," ∷ decimal b ∷ codes "," ∷ decimal (m * b) ∷ codes ",64\nslot," ∷ decimal l ∷ codes ","
    ∷ unit_word u ∷ codes "\n" ∷ [] in
    ap (λ (t : List ℕ). row_text default_writer heading_record ++ (row_text default_writer (settings_record m b) ++ t)) slot
    ∙ ap (λ (t : List ℕ). row_text default_writer heading_record ++ t) settings
    ∙ sym (parts_then parts tail)

no_mark : (m b : ℕ) (more : List (List (List ℕ))) → strip_bom (table_text (heading_record ∷ settings_record m b ∷ more)) ≡ table_text (heading_record ∷ settings_record m b ∷ more)
unfolding strip_bom escaped fields_text shows_nothing
no_mark m b more = refl

whole_text : (m q : ℕ) (tasks : List Listed) (plan : Plan) → IsWritten m q tasks plan
    → table_text (heading_record ∷ script_records m q tasks plan) ≡ script_text m q tasks plan
unfolding script_text
whole_text m q tasks plan w =
    let b = plan.base in
    let slots = plan.tasks.items in
    let n = steps_of b slots in
    let names = each_numbered name_record 1 tasks in
    let joins = each_numbered join_record 1 slots in
    let row = row_text default_writer in
    let slot = slot_within q w.some_time w.short in
    let steps = steps_within b slots w.some_base in
    let most : m * b ≤ 64 * 2 ^ 30 = mul-le m b 64 (2 ^ 30) w.few_processors w.base in
    let last : table_text (step_record n ∷ []) ≡ step_line n ++ [] = ap (λ (t : List ℕ). t ++ []) (step_is_row n (omega (arith, steps.1))) in
    let tail : table_text (names ++ (joins ++ step_record n ∷ [])) ≡ numbered name_line 1 tasks ++ (numbered join_line 1 slots ++ step_line n) =
    flat_map-append row names (joins ++ step_record n ∷ [])
    ∙ ap₂ (λ (x y : List ℕ). x ++ y) (names_text 1 tasks (omega (arith, w.few)) w.names)
    (flat_map-append row joins (step_record n ∷ [])
    ∙ ap₂ (λ (x y : List ℕ). x ++ y) (joins_text b 1 slots w.base (omega (arith, w.few_joins)) w.slotted w.periods) (last ∙ no_more (step_line n))) in
    let head = head_lines m b (slot_of q) in
    ap (λ (t : List ℕ). row heading_record ++ (row (settings_record m b) ++ (row (slot_record (slot_of q)) ++ t))) tail
    ∙ heads m b (slot_of q).0 (slot_of q).1 (numbered name_line 1 tasks ++ (numbered join_line 1 slots ++ step_line n))
    (omega (arith, w.few_processors)) (omega (arith, w.base)) (omega (arith, most)) (omega (arith, slot.1))
    ∙ sym (append_assoc head (numbered name_line 1 tasks) (numbered join_line 1 slots ++ step_line n))
    ∙ sym (append_assoc (head ++ numbered name_line 1 tasks) (numbered join_line 1 slots) (step_line n))
  where
    no_more : (t : List ℕ) → t ++ [] ≡ t
    no_more [] = refl
    no_more (x ∷ xs) = ap (λ (t : List ℕ). x ∷ t) (no_more xs)

whole_plain : (m q : ℕ) (tasks : List Listed) (plan : Plan) → IsWritten m q tasks plan → All IsPlainRow (heading_record ∷ script_records m q tasks plan)
whole_plain m q tasks plan w =
    let b = plan.base in
    let slots = plan.tasks.items in
    let n = steps_of b slots in
    let names = each_numbered name_record 1 tasks in
    let joins = each_numbered join_record 1 slots in
    let slot = slot_within q w.some_time w.short in
    let steps = steps_within b slots w.some_base in
    let most : m * b ≤ 64 * 2 ^ 30 = mul-le m b 64 (2 ^ 30) w.few_processors w.base in
    let last = All-cons IsPlainRow (step_record n) [] (step_plain n (omega (arith, steps.1))) (λ i d lt. absurd (omega (arith, lt))) in
    All-cons IsPlainRow heading_record (script_records m q tasks plan) heading_plain
    (All-cons IsPlainRow (settings_record m b) (slot_record (slot_of q) ∷ (names ++ (joins ++ step_record n ∷ [])))
    (settings_plain m b (omega (arith, w.few_processors)) (omega (arith, w.base)) (omega (arith, most)))
    (All-cons IsPlainRow (slot_record (slot_of q)) (names ++ (joins ++ step_record n ∷ [])) (slot_plain (slot_of q).0 (slot_of q).1 (omega (arith, slot.1)))
    (All-append IsPlainRow names (joins ++ step_record n ∷ []) (names_plain 1 tasks (omega (arith, w.few)) w.names)
    (All-append IsPlainRow joins (step_record n ∷ []) (joins_plain b 1 slots w.base (omega (arith, w.few_joins)) w.slotted w.periods) last))))

-- the rows of the script are its records
pub rows_of_script : (m q : ℕ) (tasks : List Listed) (plan : Plan) → IsWritten m q tasks plan
    → map (λ row. row.fields) (rows (script_text m q tasks plan)).rows ≡ heading_record ∷ script_records m q tasks plan
rows_of_script m q tasks plan w =
    let behind = script_records m q tasks plan in
    let read = rows_again (heading_record ∷ behind) (whole_plain m q tasks plan w)
    (no_mark m plan.base (slot_record (slot_of q) ∷ (each_numbered name_record 1 tasks ++ (each_numbered join_record 1 plan.tasks.items ++ step_record (steps_of plan.base plan.tasks.items) ∷ [])))) in
    subst (λ (t : List ℕ). map (λ row. row.fields) (rows t).rows ≡ heading_record ∷ behind) (whole_text m q tasks plan w) read

-- Use: the heading has none.
pub heading_good : heading_fault heading_record ≡ None
unfolding heading_fault is_word
heading_good = refl

pub no_fault : ScriptsHaveNoFault
no_fault m q tasks plan w =
    let text = script_text m q tasks plan in
    none_found (rows text).end (rows text).rows heading_record (script_records m q tasks plan) (plan_said m q tasks plan) (rows_of_script m q tasks plan w)
    heading_good (plans_said m q tasks plan w)
