-- What a record after the settings asks for, read by its first word and its length, is what the record says there.
use Rattle.std.proofs.Common.{◌≡◌, ◌≢◌, ◌≤◌, ◌+◌, ◌-◌, ◌∙◌, ℕ, Bool, true, false, List, [], length, drop, Option, Some, None, Result, Ok, Err, refl, sym, ap, arith, add-zero, inl, inr, codes}
use Rattle.std.specs.Prelude.{⊤, ◌&&◌, ◌==◌, nat_le, ok_or, option_map, option_and_then, if◌then◌else◌}
use Rattle.std.specs.Result.{result_ok}
use Rattle.std.specs.Str.{bytes_eq}
use Rattle.std.proofs.lemmas.Bool.{cases_eq, eq-eqb, ne_eqb}
use Rattle.std.proofs.lemmas.List.{get_or-drop, length-drop, drop-drop}
use Rattle.std.proofs.lemmas.Slice.Eq.{bytes_eq-Decides}
use Rattle.pf_scenario.specs.declared.change.Change.{Change}
use Rattle.pf_scenario.specs.declared.change.Change.TheVariants.{Insert, Alter, Strike}
use Rattle.pf_scenario.specs.declared.event.Event.{Event}
use Rattle.pf_scenario.specs.declared.event.Event.TheVariants.{Join, Leave, Delay, Limit}
use Rattle.pf_script.specs.declared.fault.Reason.{Reason}
use Rattle.pf_script.specs.declared.fault.Reason.TheVariants.{LateSettings, NoChange, NoEvent, NoNumber, NoRecord, Outside, StepFields}
use Rattle.pf_script.specs.declared.fault.RecordFault.{RecordFault}
use Rattle.pf_script.specs.declared.line.Line.{Line}
use Rattle.pf_script.specs.declared.line.Line.TheVariants.{Edit, Steps}
use Rattle.pf_script.specs.declared.version.Version.{Version}
use Rattle.pf_script.specs.declared.version.Version.TheVariants.{First, Second}
use Rattle.pf_script.specs.Fields.{field, number, is_word, is_record_of}
use Rattle.pf_text.specs.Numbers.{number_of}
use Rattle.pf_script.specs.Grammar.{has_limits, horizon_of, join_of_fields, leave_of, delay_of, limit_of, event_of, strike_of, alter_of, change_of, steps_of, edit_of, line_of}
use Rattle.pf_script.specs.Parsing.{◌>>=◌, fault_at, number_at, number_within, join_at, leave_at, delay_at, limit_at, event_at, strike_at, alter_at, change_at, edit_at, steps_at, line_at}

-- the fields from a place on
word_on : (fields : List (List ℕ)) (at : ℕ) (word : List ℕ) → is_word fields at word ≡ is_word (drop at fields) 0 word
unfolding is_word
word_on fields at word = ap (λ f. bytes_eq f word) (rw add-zero at (sym (get_or-drop at fields 0 [])))

number_on : (fields : List (List ℕ)) (at place : ℕ) → number fields (at + place) ≡ number (drop at fields) place
number_on fields at place = ap number_of (sym (get_or-drop at fields place []))

count_on : (n at count : ℕ) → 1 ≤ count → (n == at + count) ≡ (n - at == count)
count_on n at count some = elim (cases_eq n (at + count)) [
  | inl e ↦ let rest : n - at ≡ count = omega arith in eq-eqb _ _ e ∙ sym (eq-eqb _ _ rest)
  | inr other ↦ let rest : n - at ≢ count = omega arith in ne_eqb _ _ other ∙ sym (ne_eqb _ _ rest)
]

length_on : (fields : List (List ℕ)) (at count : ℕ) → 1 ≤ count → (length fields == at + count) ≡ (length (drop at fields) == count)
length_on fields at count some = count_on (length fields) at count some ∙ ap (λ n. n == count) (sym (length-drop at fields))

-- so many fields, and among them numbers
abbrev long_if : Bool → RecordFault → Result ⊤ RecordFault
long_if b fault = if b then Ok tt else Err fault

of_count : {X : Type 0} (b c : Bool) (fault : RecordFault) (r : Result X RecordFault) (o : Option X) → b ≡ c → result_ok r ≡ o
    → result_ok (long_if b fault >>= λ _. r) ≡ (if c then o else None)
of_count true c fault r o e same = rw (← e) same
of_count false c fault r o e same = rw (← e) refl

join_numbers : (a b c d e : Option ℕ) (f g h i j : RecordFault)
    → result_ok (ok_or a f >>= λ slot. ok_or b g >>= λ task. ok_or c h >>= λ cost. ok_or d i >>= λ period. ok_or e j >>= λ early. Ok (Join slot task cost period early))
    ≡ option_and_then (λ slot. option_and_then (λ task. option_and_then (λ cost. option_and_then (λ period. option_and_then (λ early. Some (Join slot task cost period early)) e) d) c) b) a
join_numbers None b c d e f g h i j = refl
join_numbers (Some m) None c d e f g h i j = refl
join_numbers (Some m) (Some n) None d e f g h i j = refl
join_numbers (Some m) (Some n) (Some o) None e f g h i j = refl
join_numbers (Some m) (Some n) (Some o) (Some p) None f g h i j = refl
join_numbers (Some m) (Some n) (Some o) (Some p) (Some q) f g h i j = refl

two_numbers : {X : Type 0} (made : ℕ → ℕ → X) (a b : Option ℕ) (f g : RecordFault)
    → result_ok (ok_or a f >>= λ m. ok_or b g >>= λ n. Ok (made m n)) ≡ option_and_then (λ m. option_and_then (λ n. Some (made m n)) b) a
two_numbers made None b f g = refl
two_numbers made (Some m) None f g = refl
two_numbers made (Some m) (Some n) f g = refl

delay_numbers : (a b c : Option ℕ) (f g h : RecordFault)
    → result_ok (ok_or a f >>= λ slot. ok_or b g >>= λ task. ok_or c h >>= λ by. Ok (Delay slot task by))
    ≡ option_and_then (λ slot. option_and_then (λ task. option_and_then (λ by. Some (Delay slot task by)) c) b) a
delay_numbers None b c f g h = refl
delay_numbers (Some m) None c f g h = refl
delay_numbers (Some m) (Some n) None f g h = refl
delay_numbers (Some m) (Some n) (Some o) f g h = refl

join_read : (fields : List (List ℕ)) (at : ℕ) → result_ok (join_at fields at) ≡ (if length (drop at fields) == 6 then join_of_fields (drop at fields) else None)
unfolding join_at join_of_fields number_at
join_read fields at = of_count _ _ _ _ _ (length_on fields at 6 (omega arith))
    (rw (number_on fields at 1, number_on fields at 2, number_on fields at 3, number_on fields at 4, number_on fields at 5) (join_numbers (number (drop at fields) 1) (number (drop at fields) 2) (number (drop at fields) 3) (number (drop at fields) 4) (number (drop at fields) 5) (fault_at (at + 1) NoNumber) (fault_at (at + 2) NoNumber) (fault_at (at + 3) NoNumber) (fault_at (at + 4) NoNumber) (fault_at (at + 5) NoNumber)))

leave_read : (fields : List (List ℕ)) (at : ℕ) → result_ok (leave_at fields at) ≡ (if length (drop at fields) == 3 then leave_of (drop at fields) else None)
unfolding leave_at leave_of number_at
leave_read fields at = of_count _ _ _ _ _ (length_on fields at 3 (omega arith))
    (rw (number_on fields at 1, number_on fields at 2) (two_numbers Leave (number (drop at fields) 1) (number (drop at fields) 2) (fault_at (at + 1) NoNumber) (fault_at (at + 2) NoNumber)))

limit_read : (fields : List (List ℕ)) (at : ℕ) → result_ok (limit_at fields at) ≡ (if length (drop at fields) == 3 then limit_of (drop at fields) else None)
unfolding limit_at limit_of number_at
limit_read fields at = of_count _ _ _ _ _ (length_on fields at 3 (omega arith))
    (rw (number_on fields at 1, number_on fields at 2) (two_numbers Limit (number (drop at fields) 1) (number (drop at fields) 2) (fault_at (at + 1) NoNumber) (fault_at (at + 2) NoNumber)))

delay_read : (fields : List (List ℕ)) (at : ℕ) → result_ok (delay_at fields at) ≡ (if length (drop at fields) == 4 then delay_of (drop at fields) else None)
unfolding delay_at delay_of number_at
delay_read fields at = of_count _ _ _ _ _ (length_on fields at 4 (omega arith))
    (rw (number_on fields at 1, number_on fields at 2, number_on fields at 3) (delay_numbers (number (drop at fields) 1) (number (drop at fields) 2) (number (drop at fields) 3) (fault_at (at + 1) NoNumber) (fault_at (at + 2) NoNumber) (fault_at (at + 3) NoNumber)))

one_number : (a : Option ℕ) (f : RecordFault) → result_ok (ok_or a f >>= λ id. Ok (Strike id)) ≡ option_map (λ id. Strike id) a
one_number None f = refl
one_number (Some m) f = refl

strike_read : (fields : List (List ℕ)) (at : ℕ) → result_ok (strike_at fields at) ≡ (if length (drop at fields) == 2 then strike_of (drop at fields) else None)
unfolding strike_at strike_of number_at
strike_read fields at = of_count _ _ _ _ _ (length_on fields at 2 (omega arith)) (rw (number_on fields at 1) (one_number (number (drop at fields) 1) (fault_at (at + 1) NoNumber)))

-- A record is one of its first word's, or of the others.
word_at : {X : Type 0} (enough word : Bool) (r s : Result X RecordFault) (read others : Option X)
    → result_ok r ≡ (if enough then read else None) → (word ≡ true → others ≡ None) → (word ≡ false → result_ok s ≡ others)
    → result_ok (if word then r else s) ≡ (if enough && word then read else others)
word_at true true r s read others same none rest = same
word_at false true r s read others same none rest = same ∙ sym (none refl)
word_at true false r s read others same none rest = rest refl
word_at false false r s read others same none rest = rest refl

first_word : {X : Type 0} (word : Bool) (r s : Result X RecordFault) (read others : Option X)
    → result_ok r ≡ read → (word ≡ false → result_ok s ≡ others) → result_ok (if word then r else s) ≡ (if word then read else others)
first_word true r s read others same rest = same
first_word false r s read others same rest = rest refl

-- a word that begins nothing
no_word : {X : Type 0} (word : Bool) (fault : RecordFault) (s : Result X RecordFault) (others : Option X)
    → (word ≡ true → others ≡ None) → result_ok s ≡ others → result_ok (if word then Err fault else s) ≡ others
no_word true fault s others none rest = sym (none refl)
no_word false fault s others none rest = rest

-- another word's record
pub passed : {X : Type 0} (enough word : Bool) (read others : Option X) → word ≡ false → others ≡ None → (if enough && word then read else others) ≡ None
passed true word read others other none = rw (other, none) refl
passed false word read others other none = none

pub other_word : (fields : List (List ℕ)) (word other : List ℕ) → is_word fields 0 word ≡ true → bytes_eq word other ≡ false → is_word fields 0 other ≡ false
unfolding is_word
other_word fields word other is differs =
    let same : field fields 0 ≡ word = (bytes_eq-Decides (field fields 0) word).0 is in rw same differs

-- the events of these words and of those tried after them
abbrev limit_in : Version → List (List ℕ) → Option Event
limit_in version fields = if has_limits version && is_record_of fields (codes "limit") 3 then limit_of fields else None

abbrev delay_in : Version → List (List ℕ) → Option Event
delay_in version fields = if is_record_of fields (codes "delay") 4 then delay_of fields else limit_in version fields

abbrev leave_in : Version → List (List ℕ) → Option Event
leave_in version fields = if is_record_of fields (codes "leave") 3 then leave_of fields else delay_in version fields

-- another word begins none of them
no_limit : (version : Version) (fields : List (List ℕ)) (word : List ℕ) → is_word fields 0 word ≡ true → bytes_eq word (codes "limit") ≡ false
    → limit_in version fields ≡ None
no_limit First fields word is limit = refl
no_limit Second fields word is limit = passed _ _ _ _ (other_word fields word (codes "limit") is limit) refl

no_delay : (version : Version) (fields : List (List ℕ)) (word : List ℕ) → is_word fields 0 word ≡ true → bytes_eq word (codes "limit") ≡ false
    → bytes_eq word (codes "delay") ≡ false → delay_in version fields ≡ None
no_delay version fields word is limit delay =
    passed _ _ _ _ (other_word fields word (codes "delay") is delay) (no_limit version fields word is limit)

no_leave : (version : Version) (fields : List (List ℕ)) (word : List ℕ) → is_word fields 0 word ≡ true → bytes_eq word (codes "limit") ≡ false
    → bytes_eq word (codes "delay") ≡ false → bytes_eq word (codes "leave") ≡ false → leave_in version fields ≡ None
no_leave version fields word is limit delay leave =
    passed _ _ _ _ (other_word fields word (codes "leave") is leave) (no_delay version fields word is limit delay)

no_event : (version : Version) (fields : List (List ℕ)) (word : List ℕ) → is_word fields 0 word ≡ true → bytes_eq word (codes "limit") ≡ false
    → bytes_eq word (codes "delay") ≡ false → bytes_eq word (codes "leave") ≡ false → bytes_eq word (codes "join") ≡ false
    → event_of version fields ≡ None
unfolding event_of
no_event version fields word is limit delay leave join =
    passed _ _ _ _ (other_word fields word (codes "join") is join) (no_leave version fields word is limit delay leave)

abbrev limit_from : Version → Reason → List (List ℕ) → ℕ → Result Event RecordFault
limit_from version why fields at =
    if has_limits version && is_word (drop at fields) 0 (codes "limit") then limit_at fields at else Err (fault_at at why)

abbrev delay_from : Version → Reason → List (List ℕ) → ℕ → Result Event RecordFault
delay_from version why fields at = if is_word (drop at fields) 0 (codes "delay") then delay_at fields at else limit_from version why fields at

abbrev leave_from : Version → Reason → List (List ℕ) → ℕ → Result Event RecordFault
leave_from version why fields at = if is_word (drop at fields) 0 (codes "leave") then leave_at fields at else delay_from version why fields at

limit_or_none : (version : Version) (why : Reason) (fields : List (List ℕ)) (at : ℕ) → result_ok (limit_from version why fields at) ≡ limit_in version (drop at fields)
limit_or_none First why fields at = refl
limit_or_none Second why fields at =
    word_at (length (drop at fields) == 3) (is_word (drop at fields) 0 (codes "limit")) (limit_at fields at) (Err (fault_at at why)) (limit_of (drop at fields)) None
    (limit_read fields at) (λ is. refl) (λ other. refl)

event_read : (version : Version) (why : Reason) (fields : List (List ℕ)) (at : ℕ) → result_ok (event_at version why fields at) ≡ event_of version (drop at fields)
unfolding event_at event_of
event_read version why fields at =
    rw (word_on fields at (codes "join"), word_on fields at (codes "leave"), word_on fields at (codes "delay"), word_on fields at (codes "limit"))
    (word_at (length (drop at fields) == 6) (is_word (drop at fields) 0 (codes "join")) (join_at fields at) (leave_from version why fields at)
    (join_of_fields (drop at fields)) (leave_in version (drop at fields)) (join_read fields at) (λ is. no_leave version (drop at fields) (codes "join") is refl refl refl) (λ other.
    word_at (length (drop at fields) == 3) (is_word (drop at fields) 0 (codes "leave")) (leave_at fields at) (delay_from version why fields at)
    (leave_of (drop at fields)) (delay_in version (drop at fields)) (leave_read fields at) (λ is. no_delay version (drop at fields) (codes "leave") is refl refl) (λ other.
    word_at (length (drop at fields) == 4) (is_word (drop at fields) 0 (codes "delay")) (delay_at fields at) (limit_from version why fields at)
    (delay_of (drop at fields)) (limit_in version (drop at fields)) (delay_read fields at) (λ is. no_limit version (drop at fields) (codes "delay") is refl) (λ other.
    limit_or_none version why fields at))))

-- a change that is no strike
abbrev alter_in : Version → List (List ℕ) → Option Change
alter_in version fields =
    if is_word fields 0 (codes "alter") then alter_of version fields else option_map (λ event. Insert event) (event_of version fields)

no_alter : (version : Version) (fields : List (List ℕ)) (word : List ℕ) → is_word fields 0 word ≡ true → bytes_eq word (codes "alter") ≡ false
    → event_of version fields ≡ None → alter_in version fields ≡ None
no_alter version fields word is alter event = rw (other_word fields word (codes "alter") is alter, event) refl

no_change : (version : Version) (fields : List (List ℕ)) (word : List ℕ) → is_word fields 0 word ≡ true → bytes_eq word (codes "alter") ≡ false
    → bytes_eq word (codes "strike") ≡ false → event_of version fields ≡ None → change_of version fields ≡ None
unfolding change_of
no_change version fields word is alter strike event =
    passed (length fields == 2) (is_word fields 0 (codes "strike")) (strike_of fields) (alter_in version fields)
    (other_word fields word (codes "strike") is strike) (no_alter version fields word is alter event)

altered : (a : Option ℕ) (fault : RecordFault) (r : Result Event RecordFault) (o : Option Event) → result_ok r ≡ o
    → result_ok (ok_or a fault >>= λ id. r >>= λ event. Ok (Alter id event)) ≡ option_and_then (λ id. option_and_then (λ event. Some (Alter id event)) o) a
altered None fault r o same = refl
altered (Some id) fault (Ok event) o same = rw (← same) refl
altered (Some id) fault (Err f) o same = rw (← same) refl

alter_read : (version : Version) (fields : List (List ℕ)) (at : ℕ) → result_ok (alter_at version fields at) ≡ alter_of version (drop at fields)
unfolding alter_at alter_of number_at
alter_read version fields at =
    let behind : drop 2 (drop at fields) ≡ drop (at + 2) fields = drop-drop 2 at fields in
    rw (number_on fields at 1, behind) (altered (number (drop at fields) 1) (fault_at (at + 1) NoNumber) (event_at version (NoEvent version) fields (at + 2)) _ (event_read version (NoEvent version) fields (at + 2)))

inserted : (r : Result Event RecordFault) → result_ok (r >>= λ event. Ok (Insert event)) ≡ option_map (λ event. Insert event) (result_ok r)
inserted (Ok event) = refl
inserted (Err f) = refl

-- an event to insert
abbrev insert_from : Version → Reason → List (List ℕ) → ℕ → Result Change RecordFault
insert_from version why fields at = event_at version why fields at >>= λ event. Ok (Insert event)

insert_read : (version : Version) (why : Reason) (fields : List (List ℕ)) (at : ℕ)
    → result_ok (insert_from version why fields at) ≡ option_map (λ event. Insert event) (event_of version (drop at fields))
insert_read version why fields at = inserted (event_at version why fields at) ∙ ap (option_map (λ event. Insert event)) (event_read version why fields at)

abbrev alter_from : Version → Reason → List (List ℕ) → ℕ → Result Change RecordFault
alter_from version why fields at =
    if is_word (drop at fields) 0 (codes "alter") then alter_at version fields at else insert_from version why fields at

change_read : (version : Version) (why : Reason) (fields : List (List ℕ)) (at : ℕ) → result_ok (change_at version why fields at) ≡ change_of version (drop at fields)
unfolding change_at change_of
change_read version why fields at =
    rw (word_on fields at (codes "strike"), word_on fields at (codes "alter"))
    (word_at (length (drop at fields) == 2) (is_word (drop at fields) 0 (codes "strike")) (strike_at fields at) (alter_from version why fields at)
    (strike_of (drop at fields)) (alter_in version (drop at fields)) (strike_read fields at)
    (λ is. no_alter version (drop at fields) (codes "strike") is refl (no_event version (drop at fields) (codes "strike") is refl refl refl refl)) (λ other.
    first_word (is_word (drop at fields) 0 (codes "alter")) (alter_at version fields at) (insert_from version why fields at)
    (alter_of version (drop at fields)) (option_map (λ event. Insert event) (event_of version (drop at fields)))
    (alter_read version fields at) (λ other. insert_read version why fields at)))

edited : (r : Result Change RecordFault) (strict : Bool) → result_ok (r >>= λ change. Ok (Edit change strict)) ≡ option_map (λ change. Edit change strict) (result_ok r)
edited (Ok change) strict = refl
edited (Err f) strict = refl

edit_read : (version : Version) (strict : Bool) (why : Reason) (fields : List (List ℕ)) (at : ℕ)
    → result_ok (edit_at version strict why fields at) ≡ edit_of version strict (drop at fields)
unfolding edit_at edit_of
edit_read version strict why fields at =
    edited (change_at version why fields at) strict ∙ ap (option_map (λ change. Edit change strict)) (change_read version why fields at)

-- `step` and `step,N`
within_read : (place most : ℕ) (o : Option ℕ)
    → result_ok ((ok_or o (fault_at place NoNumber) >>= λ n. if nat_le 1 n && nat_le n most then Ok n else Err (fault_at place (Outside n most))) >>= λ count. Ok (Steps count))
    ≡ option_and_then (λ count. if nat_le 1 count && nat_le count most then Some (Steps count) else None) o
within_read place most None = refl
within_read place most (Some n) = by (nat_le 1 n && nat_le n most)
  where
    by : (b : Bool) → result_ok ((if b then Ok n else Err (fault_at place (Outside n most))) >>= λ count. Ok (Steps count)) ≡ (if b then Some (Steps n) else None)
    by true = refl
    by false = refl

count_read : (version : Version) (fields : List (List ℕ))
    → result_ok (number_within fields 1 (horizon_of version) >>= λ count. Ok (Steps count)) ≡ steps_of version fields
unfolding number_within number_at steps_of
count_read version fields = within_read 1 (horizon_of version) (number fields 1)

step_or_other : (one two step : Bool) (counted s : Result Line RecordFault) (why : RecordFault) (line : Line) (read others : Option Line)
    → result_ok counted ≡ read → (step ≡ true → others ≡ None) → (step ≡ false → result_ok s ≡ others)
    → result_ok (if step then (if one then Ok line else if two then counted else Err why) else s)
    ≡ (if one && step then Some line else if two && step then read else others)
step_or_other true two true counted s why line read others same none rest = refl
step_or_other false true true counted s why line read others same none rest = same
step_or_other false false true counted s why line read others same none rest = sym (none refl)
step_or_other true two false counted s why line read others same none rest = by two
  where
    by : (b : Bool) → result_ok s ≡ (if b && false then read else others)
    by true = rest refl
    by false = rest refl
step_or_other false true false counted s why line read others same none rest = rest refl
step_or_other false false false counted s why line read others same none rest = rest refl

no_edit : (version : Version) (strict : Bool) (fields : List (List ℕ)) → change_of version fields ≡ None → edit_of version strict fields ≡ None
unfolding edit_of
no_edit version strict fields none = rw none refl

no_line : (version : Version) (fields : List (List ℕ)) → is_word fields 0 (codes "step") ≡ true
    → (if is_word fields 0 (codes "strict") then edit_of version true (drop 1 fields) else edit_of version false fields) ≡ None
no_line version fields is =
    let event = no_event version fields (codes "step") is refl refl refl refl in
    let change = no_change version fields (codes "step") is refl refl event in
    rw (other_word fields (codes "step") (codes "strict") is refl) (no_edit version false fields change)

late_settings : (version : Version) (fields : List (List ℕ)) → is_word fields 0 (codes "settings") ≡ true → edit_of version false fields ≡ None
late_settings version fields is =
    let event = no_event version fields (codes "settings") is refl refl refl refl in
    no_edit version false fields (no_change version fields (codes "settings") is refl refl event)

-- what no step is
abbrev plain_from : Version → List (List ℕ) → Result Line RecordFault
plain_from version fields =
    if is_word fields 0 (codes "settings") then Err (fault_at 0 LateSettings) else edit_at version false (NoRecord version) fields 0

abbrev edit_from : Version → List (List ℕ) → Result Line RecordFault
edit_from version fields =
    if is_word fields 0 (codes "strict") then edit_at version true (NoChange version) fields 1 else plain_from version fields

abbrev edit_in : Version → List (List ℕ) → Option Line
edit_in version fields = if is_word fields 0 (codes "strict") then edit_of version true (drop 1 fields) else edit_of version false fields

-- Use: a record after the settings asks for what it says.
pub line_read : (version : Version) (fields : List (List ℕ)) → result_ok (line_at version fields) ≡ line_of version fields
unfolding line_at steps_at line_of
line_read version fields =
    step_or_other (length fields == 1) (length fields == 2) (is_word fields 0 (codes "step"))
    (number_within fields 1 (horizon_of version) >>= λ count. Ok (Steps count)) (edit_from version fields) (fault_at 2 StepFields) (Steps 1)
    (steps_of version fields) (edit_in version fields) (count_read version fields) (no_line version fields) (λ other.
    first_word (is_word fields 0 (codes "strict")) (edit_at version true (NoChange version) fields 1) (plain_from version fields)
    (edit_of version true (drop 1 fields)) (edit_of version false fields) (edit_read version true (NoChange version) fields 1) (λ plain.
    no_word (is_word fields 0 (codes "settings")) (fault_at 0 LateSettings) (edit_at version false (NoRecord version) fields 0) (edit_of version false fields)
    (late_settings version fields) (edit_read version false (NoRecord version) fields 0)))
