-- The record that an undo makes says the change that it makes.
use Rattle.std.proofs.Common.{◌≡◌, ◌∙◌, ◌^◌, ◌<◌, ℕ, Bool, true, false, List, [], ◌∷◌, ◌++◌, Option, None, Some, Ok, codes, append_assoc, refl, sym, ap, arith}
use Rattle.std.specs.Prelude.{if◌then◌else◌, is_some, All}
use Rattle.std.specs.Char.{is_ascii_digit}
use Rattle.std.specs.Fmt.{decimal}
use Rattle.std.specs.List.{flat_map}
use Rattle.std.specs.Str.{all_ascii_digits}
use Rattle.std.proofs.lemmas.Bool.Decides.{nat_tests}
use Rattle.std.proofs.lemmas.Fmt.{digits_decimal}
use Rattle.std.proofs.lemmas.Str.Parse.{numerals_by_value, tells_all_ascii_digits}
use Rattle.std.proofs.lemmas.Bool.{and_parts}
use Rattle.pf_script.proofs.PlanLemmas.GivenLabels.{label_among, label_known}
use Rattle.pf_script_laws.proofs.ConversionsLemmas.Fields.{early_told, task_told}
use Rattle.pf_script_laws.proofs.ConversionsLemmas.Numbers.{number_here}
use Rattle.pf_session_lines.specs.Lines.{line_of}
use Rattle.pf_vocabulary.specs.Names.Text.{is_letter_first, is_text}
use Rattle.pf_vocabulary.specs.declared.names.named.Named.{Named}
use Rattle.pf_notes.specs.Refusal.{record_text}
use Rattle.pf_plain_script.specs.Written.{change_fields, event_fields}
use Rattle.pf_version_laws.proofs.Saying.{AreShort, IsShortChange}
use Rattle.pf_scenario.specs.declared.change.Change.{Change}
use Rattle.pf_scenario.specs.declared.change.Change.TheVariants.{Insert, Alter, Strike}
use Rattle.pf_scenario.specs.declared.event.Event.{Event}
use Rattle.pf_scenario.specs.declared.event.Event.TheVariants.{Join, Leave, Delay, Limit}
use Rattle.pf_script.specs.Fields.{field, is_word}
use Rattle.pf_script.specs.declared.line.Line.TheVariants.{Edit}
use Rattle.pf_session.specs.Made.{back_line, change_line, label_back, taking_back}
use Rattle.pf_session.specs.declared.made.Made.{Made}
use Rattle.pf_session.specs.declared.made.Made.TheVariants.{Inserted, Altered, Struck}
use Rattle.pf_script.specs.Plan.Labels.{label_of_number, number_of_label}
use Rattle.pf_session_laws.proofs.Sound.{IsShortMade, back_short}
use Rattle.pf_script.specs.Plan.Parsing.{alter_at, delay_at, edit_at, event_at, given_label_at, id_at, join_at, labelled_again_at, labelled_at, leave_at, limit_at, opening_at, record_at, said_at, strike_at}
use Rattle.pf_script.specs.declared.plan.fault.Reason.TheVariants.{NoEvent, NoNumber, NoRecord}
use Rattle.pf_script.specs.declared.plan.labels.Labelled.{Labelled}
use Rattle.pf_script.specs.declared.plan.said.Said.TheVariants.{Asks}
use Rattle.pf_script.specs.declared.plan.state.Progress.{Progress}

-- a number is no label
digit_first : (bytes : List ℕ) → all_ascii_digits bytes ≡ true → is_letter_first bytes ≡ false
digit_first [] e = refl
digit_first (c ∷ cs) e = let digit : is_ascii_digit c ≡ true = (and_parts (is_ascii_digit c) (all_ascii_digits cs) e).0 in grind (arith, nat_tests, digit)

id_told : (labels : List Labelled) (fields : List (List ℕ)) (place n : ℕ) → field fields place ≡ decimal n → n < 10 ^ 15 → id_at labels fields place ≡ Ok n
unfolding id_at
id_told labels fields place n is small =
    let own = numerals_by_value (λ ds. all_ascii_digits ds ≡ true) tells_all_ascii_digits in
    let no : is_letter_first (field fields place) ≡ false = ap is_letter_first is ∙ digit_first (decimal n) (digits_decimal own n (omega (arith, small))) in
    rw no (number_here NoNumber fields place n is small)

-- an event that is inserted, or put in the place of another
insert_told : (names : List Named) (event : Event) → AreShort event → event_at names NoRecord (event_fields event) 0 ≡ Ok event
unfolding event_at join_at leave_at delay_at limit_at is_word
insert_told names (Join slot task cost period early) short =
    let fields = event_fields (Join slot task cost period early) in
    rw (
      number_here NoNumber fields 1 slot refl short.0,
      task_told names fields 2 task refl short.1,
      number_here NoNumber fields 3 cost refl short.2,
      number_here NoNumber fields 4 period refl short.3,
      early_told fields 5 early refl refl short.4,
    ) refl
insert_told names (Leave slot task) short =
    let fields = event_fields (Leave slot task) in
    rw (number_here NoNumber fields 1 slot refl short.0, task_told names fields 2 task refl short.1) refl
insert_told names (Delay slot task by) short =
    let fields = event_fields (Delay slot task by) in
    rw (number_here NoNumber fields 1 slot refl short.0, task_told names fields 2 task refl short.1, number_here NoNumber fields 3 by refl short.2) refl
insert_told names (Limit slot count) short =
    let fields = event_fields (Limit slot count) in
    rw (number_here NoNumber fields 1 slot refl short.0, number_here NoNumber fields 2 count refl short.1) refl

alter_told : (names : List Named) (id : ℕ) (event : Event) → AreShort event → event_at names NoEvent (change_fields (Alter id event)) 2 ≡ Ok event
unfolding event_at join_at leave_at delay_at limit_at is_word
alter_told names id (Join slot task cost period early) short =
    let fields = change_fields (Alter id (Join slot task cost period early)) in
    rw (
      number_here NoNumber fields 3 slot refl short.0,
      task_told names fields 4 task refl short.1,
      number_here NoNumber fields 5 cost refl short.2,
      number_here NoNumber fields 6 period refl short.3,
      early_told fields 7 early refl refl short.4,
    ) refl
alter_told names id (Leave slot task) short =
    let fields = change_fields (Alter id (Leave slot task)) in
    rw (number_here NoNumber fields 3 slot refl short.0, task_told names fields 4 task refl short.1) refl
alter_told names id (Delay slot task by) short =
    let fields = change_fields (Alter id (Delay slot task by)) in
    rw (number_here NoNumber fields 3 slot refl short.0, task_told names fields 4 task refl short.1, number_here NoNumber fields 5 by refl short.2) refl
alter_told names id (Limit slot count) short =
    let fields = change_fields (Alter id (Limit slot count)) in
    rw (number_here NoNumber fields 3 slot refl short.0, number_here NoNumber fields 4 count refl short.1) refl

insert_says : (p : Progress) (event : Event) → AreShort event → record_at p (event_fields event) ≡ Ok (Asks (Edit (Insert event) false) None)
unfolding record_at edit_at is_word
insert_says p (Join slot task cost period early) short = rw (insert_told p.names (Join slot task cost period early) short) refl
insert_says p (Leave slot task) short = rw (insert_told p.names (Leave slot task) short) refl
insert_says p (Delay slot task by) short = rw (insert_told p.names (Delay slot task by) short) refl
insert_says p (Limit slot count) short = rw (insert_told p.names (Limit slot count) short) refl

record_says : (p : Progress) (change : Change) → IsShortChange change → record_at p (change_fields change) ≡ Ok (Asks (Edit change false) None)
unfolding record_at edit_at strike_at alter_at is_word
record_says p (Insert event) short = insert_says p event short
record_says p (Alter id event) short =
    rw (id_told p.labels (change_fields (Alter id event)) 1 id refl short.number, alter_told p.names id event short.fields) refl
record_says p (Strike id) short = rw (id_told p.labels (change_fields (Strike id)) 1 id refl short) refl

-- Use: the record of a change says it.
pub change_says : (p : Progress) (change : Change) → p.opened ≡ true → IsShortChange change → said_at p (change_fields change) ≡ Ok (Asks (Edit change false) None)
change_says p change opened short = by p.opened opened (record_says p change short)
  where
    by : (b : Bool) → b ≡ true → record_at p (change_fields change) ≡ Ok (Asks (Edit change false) None)
        → (if b then record_at p (change_fields change) else opening_at (change_fields change)) ≡ Ok (Asks (Edit change false) None)
    by true e says = says
    by false e says = let bad : false ≡ true = e in cc

-- what stands after the first field of a line
abbrev behind_word : List (List ℕ) → List ℕ
behind_word [] = codes "\n"
behind_word (x ∷ xs) = codes "," ++ (x ++ behind_word xs)

fields_text : (xs : List (List ℕ)) → flat_map (λ f. codes "," ++ f) xs ++ codes "\n" ≡ behind_word xs
fields_text [] = refl
fields_text (x ∷ xs) =
    ap (λ (t : List ℕ). codes "," ++ t)
    (append_assoc x (flat_map (λ f. codes "," ++ f) xs) (codes "\n") ∙ ap (λ (t : List ℕ). x ++ t) (fields_text xs))

line_text : (word : List ℕ) (xs : List (List ℕ)) → line_of (word ∷ xs) ≡ word ++ behind_word xs
line_text word xs = ap (λ (t : List ℕ). word ++ t) (fields_text xs)

-- the text of an event, its parts one after the other
event_parts : (event : Event) → record_text event ++ codes "\n" ≡ line_of (event_fields event)
event_parts (Join slot task cost period early) =
    let parts : record_text (Join slot task cost period early) ++ codes "\n" ≡ codes "join," ++ (decimal slot ++ (codes "," ++ (decimal task ++ (codes ","
    ++ (decimal cost ++ (codes "," ++ (decimal period ++ (codes "," ++ (decimal early ++ codes "\n"))))))))) =
    simp append_assoc refl in
    parts ∙ sym (line_text (codes "join") (decimal slot ∷ decimal task ∷ decimal cost ∷ decimal period ∷ decimal early ∷ []))
event_parts (Leave slot task) =
    let parts : record_text (Leave slot task) ++ codes "\n" ≡ codes "leave," ++ (decimal slot ++ (codes "," ++ (decimal task ++ codes "\n"))) =
    simp append_assoc refl in
    parts ∙ sym (line_text (codes "leave") (decimal slot ∷ decimal task ∷ []))
event_parts (Delay slot task by) =
    let parts : record_text (Delay slot task by) ++ codes "\n"
    ≡ codes "delay," ++ (decimal slot ++ (codes "," ++ (decimal task ++ (codes "," ++ (decimal by ++ codes "\n"))))) =
    simp append_assoc refl in
    parts ∙ sym (line_text (codes "delay") (decimal slot ∷ decimal task ∷ decimal by ∷ []))
event_parts (Limit slot count) =
    let parts : record_text (Limit slot count) ++ codes "\n" ≡ codes "limit," ++ (decimal slot ++ (codes "," ++ (decimal count ++ codes "\n"))) =
    simp append_assoc refl in
    parts ∙ sym (line_text (codes "limit") (decimal slot ∷ decimal count ∷ []))

event_text : (event : Event) → line_of (event_fields event) ≡ record_text event ++ codes "\n"
event_text event = sym (event_parts event)

event_behind : (event : Event) → behind_word (event_fields event) ≡ codes "," ++ line_of (event_fields event)
event_behind (Join slot task cost period early) =
    ap (λ (t : List ℕ). codes "," ++ t)
    (sym (line_text (codes "join") (decimal slot ∷ decimal task ∷ decimal cost ∷ decimal period ∷ decimal early ∷ [])))
event_behind (Leave slot task) = ap (λ (t : List ℕ). codes "," ++ t) (sym (line_text (codes "leave") (decimal slot ∷ decimal task ∷ [])))
event_behind (Delay slot task by) =
    ap (λ (t : List ℕ). codes "," ++ t) (sym (line_text (codes "delay") (decimal slot ∷ decimal task ∷ decimal by ∷ [])))
event_behind (Limit slot count) = ap (λ (t : List ℕ). codes "," ++ t) (sym (line_text (codes "limit") (decimal slot ∷ decimal count ∷ [])))

-- Use: its line is that of its fields.
pub change_text : (change : Change) → line_of (change_fields change) ≡ change_line change
change_text (Insert event) = event_text event
change_text (Alter id event) =
    line_text (codes "alter") (decimal id ∷ event_fields event)
    ∙ ap (λ (t : List ℕ). codes "alter," ++ (decimal id ++ t)) (event_behind event ∙ ap (λ (t : List ℕ). codes "," ++ t) (event_text event))
change_text (Strike id) = line_text (codes "strike") (decimal id ∷ [])

-- the fields of a record that takes a change back, whose event goes by this label
abbrev pub back_fields : Option (List ℕ) → Change → List (List ℕ)
back_fields None change = change_fields change
back_fields (Some label) change = codes "label" ∷ label ∷ codes "again" ∷ change_fields change

-- Use: its text.
labelled_text : (label word : List ℕ) (xs : List (List ℕ))
    → line_of (codes "label" ∷ label ∷ codes "again" ∷ word ∷ xs) ≡ codes "label," ++ (label ++ (codes ",again," ++ line_of (word ∷ xs)))
labelled_text label word xs =
    line_text (codes "label") (label ∷ codes "again" ∷ word ∷ xs)
    ∙ ap (λ (t : List ℕ). codes "label," ++ (label ++ (codes ",again," ++ t))) (sym (line_text word xs))

change_labelled : (label : List ℕ) (change : Change)
    → line_of (codes "label" ∷ label ∷ codes "again" ∷ change_fields change) ≡ codes "label," ++ (label ++ (codes ",again," ++ line_of (change_fields change)))
change_labelled label (Insert (Join slot task cost period early)) =
    labelled_text label (codes "join") (decimal slot ∷ decimal task ∷ decimal cost ∷ decimal period ∷ decimal early ∷ [])
change_labelled label (Insert (Leave slot task)) = labelled_text label (codes "leave") (decimal slot ∷ decimal task ∷ [])
change_labelled label (Insert (Delay slot task by)) = labelled_text label (codes "delay") (decimal slot ∷ decimal task ∷ decimal by ∷ [])
change_labelled label (Insert (Limit slot count)) = labelled_text label (codes "limit") (decimal slot ∷ decimal count ∷ [])
change_labelled label (Alter id event) = labelled_text label (codes "alter") (decimal id ∷ event_fields event)
change_labelled label (Strike id) = labelled_text label (codes "strike") (decimal id ∷ [])

pub back_text : (label : Option (List ℕ)) (change : Change) → line_of (back_fields label change) ≡ back_line label change
back_text None change = change_text change
back_text (Some label) change =
    change_labelled label change ∙ ap (λ (t : List ℕ). codes "label," ++ (label ++ (codes ",again," ++ t))) (change_text change)

-- an event that comes again by its label
again_told : (names : List Named) (label : List ℕ) (event : Event) → AreShort event
    → event_at names NoEvent (codes "label" ∷ label ∷ codes "again" ∷ event_fields event) 3 ≡ Ok event
unfolding event_at join_at leave_at delay_at limit_at is_word
again_told names label (Join slot task cost period early) short =
    let fields = codes "label" ∷ label ∷ codes "again" ∷ event_fields (Join slot task cost period early) in
    rw (
      number_here NoNumber fields 4 slot refl short.0,
      task_told names fields 5 task refl short.1,
      number_here NoNumber fields 6 cost refl short.2,
      number_here NoNumber fields 7 period refl short.3,
      early_told fields 8 early refl refl short.4,
    ) refl
again_told names label (Leave slot task) short =
    let fields = codes "label" ∷ label ∷ codes "again" ∷ event_fields (Leave slot task) in
    rw (number_here NoNumber fields 4 slot refl short.0, task_told names fields 5 task refl short.1) refl
again_told names label (Delay slot task by) short =
    let fields = codes "label" ∷ label ∷ codes "again" ∷ event_fields (Delay slot task by) in
    rw (number_here NoNumber fields 4 slot refl short.0, task_told names fields 5 task refl short.1, number_here NoNumber fields 6 by refl short.2) refl
again_told names label (Limit slot count) short =
    let fields = codes "label" ∷ label ∷ codes "again" ∷ event_fields (Limit slot count) in
    rw (number_here NoNumber fields 4 slot refl short.0, number_here NoNumber fields 5 count refl short.1) refl

given_told : (labels : List Labelled) (label : List ℕ) (more : List (List ℕ)) → is_text label ≡ true → is_some (number_of_label labels label) ≡ true
    → given_label_at labels (codes "label" ∷ label ∷ more) 1 ≡ Ok label
unfolding given_label_at
given_told labels label more text there = rw (text, there) refl

label_says : (p : Progress) (label : List ℕ) (event : Event) → p.opened ≡ true → AreShort event → is_text label ≡ true → is_some (number_of_label p.labels label) ≡ true
    → said_at p (codes "label" ∷ label ∷ codes "again" ∷ event_fields event) ≡ Ok (Asks (Edit (Insert event) false) (Some label))
unfolding record_at edit_at labelled_at labelled_again_at is_word
label_says p label event opened short text there =
    rw (opened, given_told p.labels label (codes "again" ∷ event_fields event) text there, again_told p.names label event short) refl

-- Use: the record of a change that takes one back says it.
pub back_says : (p : Progress) (m : Made) → p.opened ≡ true → IsShortMade m → All (λ l. is_text l.name ≡ true) p.labels
    → said_at p (back_fields (label_back p.labels m) (taking_back m)) ≡ Ok (Asks (Edit (taking_back m) false) (label_back p.labels m))
back_says p (Inserted id) opened short texts = change_says p (Strike id) opened (back_short (Inserted id) short)
back_says p (Altered id was) opened short texts = change_says p (Alter id was) opened (back_short (Altered id was) short)
back_says p (Struck id was) opened short texts = by (label_of_number p.labels id) refl
  where
    by : (label : Option (List ℕ)) → label_of_number p.labels id ≡ label
        → said_at p (back_fields label (Insert was)) ≡ Ok (Asks (Edit (Insert was) false) label)
    by None e = change_says p (Insert was) opened (back_short (Struck id was) short)
    by (Some label) e =
        label_says p label was opened short.1 (label_among (λ t. is_text t ≡ true) p.labels id label texts e) (label_known p.labels id label e)
