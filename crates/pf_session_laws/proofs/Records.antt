-- The records of a script, each by its word: what a good one has as its fields is read from its line.
use Rattle.std.proofs.Common.{◌≡◌, ◌≤◌, ◌+◌, ◌*◌, ◌==◌, ℕ, suc, Bool, true, false, List, [], ◌∷◌, Option, None, Some, Result, Ok, Err, All, codes, length, refl, sym, subst, arith}
use Rattle.std.specs.Prelude.{if◌then◌else◌, is_some, nat_le, not, ok_or, ◌||◌}
use Rattle.std.specs.Str.{bytes_eq}
use Rattle.std.proofs.lemmas.Bool.Decides.{nat_tests}
use Rattle.std.proofs.lemmas.List.Elements.{All-from_get_or}
use Rattle.std.proofs.lemmas.Slice.Eq.{bytes_eq-Decides}
use Rattle.pf_script_laws.proofs.ConversionsLemmas.Plain.{name_plain}
use Rattle.pf_vocabulary.specs.Names.Names.{task_of}
use Rattle.pf_vocabulary.specs.Names.Slots.{unit_named}
use Rattle.pf_vocabulary.specs.Names.Text.{is_letter_first, is_text}
use Rattle.pf_vocabulary.specs.declared.names.named.Named.{Named}
use Rattle.pf_vocabulary.specs.declared.names.slot_length.TheConstants.{LARGEST_LENGTH}
use Rattle.pf_vocabulary.specs.declared.names.unit.Unit.{Unit}
use Rattle.pf_vocabulary.specs.declared.names.unit.Unit.TheVariants.{Nanosecond, Microsecond, Millisecond, Second as WholeSecond}
use Rattle.pf_scenario.specs.System.{wide_horizon}
use Rattle.pf_scenario.specs.declared.event.Event.{Event}
use Rattle.pf_scenario.specs.declared.change.Change.{Change}
use Rattle.pf_scenario.specs.declared.change.Change.TheVariants.{Insert}
use Rattle.pf_script.specs.Fields.{field, is_word}
use Rattle.pf_script.specs.declared.line.Line.TheVariants.{Edit, Steps}
use Rattle.pf_script.specs.declared.record.ScriptSettings.{ScriptSettings}
use Rattle.pf_script.specs.declared.version.Version.TheVariants.{Second}
use Rattle.pf_script.specs.Plan.Labels.{number_of_label}
use Rattle.pf_script.specs.Plan.Parsing.{◌>>=◌, alter_at, asked, cap_at, delay_at, early_at, edit_at, event_at, every_at, fault_at, first_labelled_at, free_name_at, given_label_at, id_at, join_at, label_at, labelled, labelled_again_at, labelled_at, leave_at, limit_at, name_at, name_unless, nameless_at, names_record, number_or, number_within, of_length, opening_at, record_at, said_at, settings_at, slot_at, steps_at, strike_at, task_at}
use Rattle.pf_script.specs.declared.plan.fault.Reason.{Reason}
use Rattle.pf_script.specs.declared.plan.fault.Reason.TheVariants.{Fields, JoinFields, LabelTaken, LabelUnknown, LateSettings, LateSlot, NoCap, NoChange, NoEvent, NoLabel, NoName, NoNumber, NoRecord, NoSettings, NoUnit, SettingsFields, StepFields}
use Rattle.pf_script.specs.declared.plan.fault.RecordFault.{RecordFault}
use Rattle.pf_script.specs.declared.plan.labels.Labelled.{Labelled}
use Rattle.pf_script.specs.declared.plan.said.Said.{Said}
use Rattle.pf_script.specs.declared.plan.said.Said.TheVariants.{Settings, Slot, Name, Asks}
use Rattle.pf_script.specs.declared.plan.state.Progress.{Progress}
use Rattle.pf_session_laws.proofs.Reading.{IsPlain, IsRead}
use Rattle.pf_session_laws.proofs.Fields.{AreTexts, GivesText, IsWorded, PlainFrom, again_word, at_most, both, change_words, early_plain, event_words, id_plain, none_from, one_more, or_plain, record_words, some_from, task_plain, unit_words, within_plain, word_is, worded}

-- events, after their word
join_plain : (names : List Named) (fields : List (List ℕ)) (place : ℕ) (event : Event) → All (λ m. is_text m.name ≡ true) names → join_at names fields place ≡ Ok event → PlainFrom fields (place + 1)
unfolding join_at
join_plain names fields place event texts e =
    let a = both (of_length fields (place + 5) (place + 6) (JoinFields (place + 5))) _ event e in
    let b = both (number_or NoNumber fields (place + 1)) _ event a.2 in
    let c = both (task_at names fields (place + 2)) _ event b.2 in
    let d = both (number_or NoNumber fields (place + 3)) _ event c.2 in
    let f = both (number_or NoNumber fields (place + 4)) _ event d.2 in
    let g = both (early_at fields (place + 5)) _ event f.2 in
    let few : length fields ≤ place + 6 = at_most fields (place + 5) (place + 6) (JoinFields (place + 5)) a.0 a.1 in
    one_more fields (place + 1) (place + 2) (omega arith) (or_plain NoNumber fields (place + 1) b.0 b.1)
    (one_more fields (place + 2) (place + 3) (omega arith) (task_plain names fields (place + 2) c.0 texts c.1)
    (one_more fields (place + 3) (place + 4) (omega arith) (or_plain NoNumber fields (place + 3) d.0 d.1)
    (one_more fields (place + 4) (place + 5) (omega arith) (or_plain NoNumber fields (place + 4) f.0 f.1)
    (early_plain fields (place + 5) (place + 6) g.0 (omega arith) few g.1))))

leave_plain : (names : List Named) (fields : List (List ℕ)) (place : ℕ) (event : Event) → All (λ m. is_text m.name ≡ true) names → leave_at names fields place ≡ Ok event → PlainFrom fields (place + 1)
unfolding leave_at
leave_plain names fields place event texts e =
    let a = both (of_length fields (place + 3) (place + 3) (Fields (place + 3))) _ event e in
    let b = both (number_or NoNumber fields (place + 1)) _ event a.2 in
    let c = both (task_at names fields (place + 2)) _ event b.2 in
    one_more fields (place + 1) (place + 2) (omega arith) (or_plain NoNumber fields (place + 1) b.0 b.1)
    (one_more fields (place + 2) (place + 3) (omega arith) (task_plain names fields (place + 2) c.0 texts c.1)
    (none_from fields (place + 3) (at_most fields (place + 3) (place + 3) (Fields (place + 3)) a.0 a.1)))

delay_plain : (names : List Named) (fields : List (List ℕ)) (place : ℕ) (event : Event) → All (λ m. is_text m.name ≡ true) names → delay_at names fields place ≡ Ok event → PlainFrom fields (place + 1)
unfolding delay_at
delay_plain names fields place event texts e =
    let a = both (of_length fields (place + 4) (place + 4) (Fields (place + 4))) _ event e in
    let b = both (number_or NoNumber fields (place + 1)) _ event a.2 in
    let c = both (task_at names fields (place + 2)) _ event b.2 in
    let d = both (number_or NoNumber fields (place + 3)) _ event c.2 in
    one_more fields (place + 1) (place + 2) (omega arith) (or_plain NoNumber fields (place + 1) b.0 b.1)
    (one_more fields (place + 2) (place + 3) (omega arith) (task_plain names fields (place + 2) c.0 texts c.1)
    (one_more fields (place + 3) (place + 4) (omega arith) (or_plain NoNumber fields (place + 3) d.0 d.1)
    (none_from fields (place + 4) (at_most fields (place + 4) (place + 4) (Fields (place + 4)) a.0 a.1))))

limit_plain : (fields : List (List ℕ)) (place : ℕ) (event : Event) → limit_at fields place ≡ Ok event → PlainFrom fields (place + 1)
unfolding limit_at
limit_plain fields place event e =
    let a = both (of_length fields (place + 3) (place + 3) (Fields (place + 3))) _ event e in
    let b = both (number_or NoNumber fields (place + 1)) _ event a.2 in
    let c = both (number_or NoNumber fields (place + 2)) _ event b.2 in
    one_more fields (place + 1) (place + 2) (omega arith) (or_plain NoNumber fields (place + 1) b.0 b.1)
    (one_more fields (place + 2) (place + 3) (omega arith) (or_plain NoNumber fields (place + 2) c.0 c.1)
    (none_from fields (place + 3) (at_most fields (place + 3) (place + 3) (Fields (place + 3)) a.0 a.1)))

event_plain : (names : List Named) (none : Reason) (fields : List (List ℕ)) (place : ℕ) (event : Event) → All (λ m. is_text m.name ≡ true) names
    → event_at names none fields place ≡ Ok event → IsWorded fields place
unfolding event_at
event_plain names none fields place event texts e =
    by (is_word fields place (codes "join")) (is_word fields place (codes "leave")) (is_word fields place (codes "delay")) (is_word fields place (codes "limit")) refl refl refl refl e
  where
    by : (j l d m : Bool) → is_word fields place (codes "join") ≡ j → is_word fields place (codes "leave") ≡ l → is_word fields place (codes "delay") ≡ d
        → is_word fields place (codes "limit") ≡ m → (if j then join_at names fields place else if l then leave_at names fields place
        else if d then delay_at names fields place else if m then limit_at fields place else Err (fault_at place none)) ≡ Ok event → IsWorded fields place
    by true l d m wj wl wd wm e = worded fields place (place + 1) (codes "join") refl refl event_words.0 wj (join_plain names fields place event texts e)
    by false true d m wj wl wd wm e = worded fields place (place + 1) (codes "leave") refl refl event_words.1 wl (leave_plain names fields place event texts e)
    by false false true m wj wl wd wm e = worded fields place (place + 1) (codes "delay") refl refl event_words.2 wd (delay_plain names fields place event texts e)
    by false false false true wj wl wd wm e = worded fields place (place + 1) (codes "limit") refl refl event_words.3 wm (limit_plain fields place event e)
    by false false false false wj wl wd wm e = let bad : Err (fault_at place none) ≡ Ok event = e in cc

-- changes, after their word
strike_plain : (p : Progress) (fields : List (List ℕ)) (place : ℕ) (change : Change) → AreTexts p → strike_at p fields place ≡ Ok change → PlainFrom fields (place + 1)
unfolding strike_at
strike_plain p fields place change texts e =
    let a = both (of_length fields (place + 2) (place + 2) (Fields (place + 2))) _ change e in
    let b = both (id_at p.labels fields (place + 1)) _ change a.2 in
    one_more fields (place + 1) (place + 2) (omega arith) (id_plain p.labels fields (place + 1) b.0 texts.labels b.1)
    (none_from fields (place + 2) (at_most fields (place + 2) (place + 2) (Fields (place + 2)) a.0 a.1))

alter_plain : (p : Progress) (fields : List (List ℕ)) (place : ℕ) (change : Change) → AreTexts p → alter_at p fields place ≡ Ok change → PlainFrom fields (place + 1)
unfolding alter_at
alter_plain p fields place change texts e =
    let a = both (id_at p.labels fields (place + 1)) _ change e in
    let b = both (event_at p.names NoEvent fields (place + 2)) _ change a.2 in
    one_more fields (place + 1) (place + 2) (omega arith) (id_plain p.labels fields (place + 1) a.0 texts.labels a.1)
    (event_plain p.names NoEvent fields (place + 2) b.0 texts.names b.1).1

label_text : (labels : List Labelled) (fields : List (List ℕ)) (place : ℕ) (label : List ℕ) → label_at labels fields place ≡ Ok label
    → (is_text label ≡ true) × IsPlain (field fields place)
unfolding label_at
label_text labels fields place label e = by (is_text (field fields place)) (is_some (number_of_label labels (field fields place))) refl e
  where
    by : (text taken : Bool) → is_text (field fields place) ≡ text
        → (if not text then Err (fault_at place NoLabel) else if taken then Err (fault_at place LabelTaken) else Ok (field fields place)) ≡ Ok label
        → (is_text label ≡ true) × IsPlain (field fields place)
    by false taken is e = let bad : Err (fault_at place NoLabel) ≡ Ok label = e in cc
    by true true is e = let bad : Err (fault_at place LabelTaken) ≡ Ok label = e in cc
    by true false is e =
        let same : field fields place ≡ label = cc in
        (subst (λ (t : List ℕ). is_text t ≡ true) same is, name_plain (field fields place) is)

given_text : (labels : List Labelled) (fields : List (List ℕ)) (place : ℕ) (label : List ℕ) → given_label_at labels fields place ≡ Ok label
    → (is_text label ≡ true) × IsPlain (field fields place)
unfolding given_label_at
given_text labels fields place label e = by (is_text (field fields place)) (is_some (number_of_label labels (field fields place))) refl e
  where
    by : (text there : Bool) → is_text (field fields place) ≡ text
        → (if not text then Err (fault_at place NoLabel) else if there then Ok (field fields place) else Err (fault_at place LabelUnknown)) ≡ Ok label
        → (is_text label ≡ true) × IsPlain (field fields place)
    by false there is e = let bad : Err (fault_at place NoLabel) ≡ Ok label = e in cc
    by true false is e = let bad : Err (fault_at place LabelUnknown) ≡ Ok label = e in cc
    by true true is e =
        let same : field fields place ≡ label = cc in
        (subst (λ (t : List ℕ). is_text t ≡ true) same is, name_plain (field fields place) is)

first_plain : (p : Progress) (strict : Bool) (fields : List (List ℕ)) (place : ℕ) (said : Said) → AreTexts p → first_labelled_at p strict fields place ≡ Ok said
    → PlainFrom fields (place + 1) × GivesText said
unfolding first_labelled_at
first_plain p strict fields place said texts e =
    let a = both (label_at p.labels fields (place + 1)) _ said e in
    let b = both (event_at p.names NoEvent fields (place + 2)) _ said a.2 in
    let text = label_text p.labels fields (place + 1) a.0 a.1 in
    let same : labelled strict a.0 b.0 ≡ said = cc in (
      one_more fields (place + 1) (place + 2) (omega arith) text.1 (event_plain p.names NoEvent fields (place + 2) b.0 texts.names b.1).1,
      subst GivesText same text.0,
    )

again_plain : (p : Progress) (strict : Bool) (fields : List (List ℕ)) (place : ℕ) (said : Said) → AreTexts p → is_word fields (place + 2) (codes "again") ≡ true
    → labelled_again_at p strict fields place ≡ Ok said → PlainFrom fields (place + 1) × GivesText said
unfolding labelled_again_at
again_plain p strict fields place said texts again e =
    let a = both (given_label_at p.labels fields (place + 1)) _ said e in
    let b = both (event_at p.names NoEvent fields (place + 3)) _ said a.2 in
    let text = given_text p.labels fields (place + 1) a.0 a.1 in
    let same : labelled strict a.0 b.0 ≡ said = cc in (
      one_more fields (place + 1) (place + 2) (omega arith) text.1
          (one_more fields (place + 2) (place + 3) (omega arith) (subst IsPlain (sym (word_is fields (place + 2) (codes "again") again)) again_word) (event_plain p.names NoEvent fields (place + 3) b.0 texts.names b.1).1),
      subst GivesText same text.0,
    )

labelled_plain : (p : Progress) (strict : Bool) (fields : List (List ℕ)) (place : ℕ) (said : Said) → AreTexts p → labelled_at p strict fields place ≡ Ok said
    → PlainFrom fields (place + 1) × GivesText said
unfolding labelled_at
labelled_plain p strict fields place said texts e = by (is_word fields (place + 2) (codes "again")) refl e
  where
    by : (b : Bool) → is_word fields (place + 2) (codes "again") ≡ b
        → (if b then labelled_again_at p strict fields place else first_labelled_at p strict fields place) ≡ Ok said → PlainFrom fields (place + 1) × GivesText said
    by true again e = again_plain p strict fields place said texts again e
    by false first e = first_plain p strict fields place said texts e

-- a record that has these fields from a place on
abbrev Says : List (List ℕ) → ℕ → Said → Type 0
Says fields place said = IsWorded fields place × GivesText said

change_asked : (fields : List (List ℕ)) (place : ℕ) (strict : Bool) (r : Result Change RecordFault) (said : Said)
    → ((change : Change) → r ≡ Ok change → IsWorded fields place) → (r >>= λ change. Ok (asked strict change)) ≡ Ok said → Says fields place said
change_asked fields place strict r said plain e =
    let a = both r (λ change. Ok (asked strict change)) said e in
    let same : asked strict a.0 ≡ said = cc in
    (plain a.0 a.1, subst GivesText same tt)

event_asked : (fields : List (List ℕ)) (place : ℕ) (strict : Bool) (r : Result Event RecordFault) (said : Said)
    → ((event : Event) → r ≡ Ok event → IsWorded fields place) → (r >>= λ event. Ok (asked strict (Insert event))) ≡ Ok said → Says fields place said
event_asked fields place strict r said plain e =
    let a = both r (λ event. Ok (asked strict (Insert event))) said e in
    let same : asked strict (Insert a.0) ≡ said = cc in
    (plain a.0 a.1, subst GivesText same tt)

edit_plain : (p : Progress) (strict : Bool) (none : Reason) (fields : List (List ℕ)) (place : ℕ) (said : Said) → AreTexts p
    → edit_at p strict none fields place ≡ Ok said → Says fields place said
unfolding edit_at
edit_plain p strict none fields place said texts e =
    by (is_word fields place (codes "strike")) (is_word fields place (codes "alter")) (is_word fields place (codes "label")) refl refl refl e
  where
    by : (s a l : Bool) → is_word fields place (codes "strike") ≡ s → is_word fields place (codes "alter") ≡ a → is_word fields place (codes "label") ≡ l
        → (if s then (strike_at p fields place >>= λ change. Ok (asked strict change))
        else if a then (alter_at p fields place >>= λ change. Ok (asked strict change))
        else if l then labelled_at p strict fields place
        else (event_at p.names none fields place >>= λ event. Ok (asked strict (Insert event)))) ≡ Ok said → Says fields place said
    by true a l ws wa wl e =
        change_asked fields place strict (strike_at p fields place) said
        (λ change is. worded fields place (place + 1) (codes "strike") refl refl change_words.0 ws (strike_plain p fields place change texts is)) e
    by false true l ws wa wl e =
        change_asked fields place strict (alter_at p fields place) said
        (λ change is. worded fields place (place + 1) (codes "alter") refl refl change_words.1 wa (alter_plain p fields place change texts is)) e
    by false false true ws wa wl e =
        let both = labelled_plain p strict fields place said texts e in
        (worded fields place (place + 1) (codes "label") refl refl change_words.2 wl both.0, both.1)
    by false false false ws wa wl e =
        event_asked fields place strict (event_at p.names none fields place) said (λ event is. event_plain p.names none fields place event texts.names is) e

steps_plain : (fields : List (List ℕ)) (said : Said) → steps_at fields ≡ Ok said → PlainFrom fields 1 × GivesText said
unfolding steps_at
steps_plain fields said e = by (length fields == 1) (length fields == 2) refl refl e
  where
    by : (one two : Bool) → (length fields == 1) ≡ one → (length fields == 2) ≡ two → (if one then Ok (Asks (Steps 1) None)
        else if two then (number_within NoNumber fields 1 wide_horizon >>= λ count. Ok (Asks (Steps count) None))
        else Err (fault_at 2 StepFields)) ≡ Ok said → PlainFrom fields 1 × GivesText said
    by true two is_one is_two e =
        let same : Asks (Steps 1) None ≡ said = cc in
        (none_from fields 1 (grind (arith, nat_tests, is_one)), subst GivesText same tt)
    by false true is_one is_two e =
        let a = both (number_within NoNumber fields 1 wide_horizon) (λ count. Ok (Asks (Steps count) None)) said e in
        let same : Asks (Steps a.0) None ≡ said = cc in
        (one_more fields 1 2 refl (within_plain NoNumber fields 1 wide_horizon a.0 a.1) (none_from fields 2 (grind (arith, nat_tests, is_two))), subst GivesText same tt)
    by false false is_one is_two e = let bad : Err (fault_at 2 StepFields) ≡ Ok said = e in cc

unit_plain : (bytes : List ℕ) (unit : Unit) → unit_named bytes ≡ Some unit → IsPlain bytes
unfolding unit_named
unit_plain bytes unit e =
    by (bytes_eq bytes (codes "ns")) (bytes_eq bytes (codes "us")) (bytes_eq bytes (codes "ms")) (bytes_eq bytes (codes "s")) refl refl refl refl e
  where
    plain : (word : List ℕ) → IsPlain word → bytes_eq bytes word ≡ true → IsPlain bytes
    plain word is same = subst IsPlain (sym ((bytes_eq-Decides bytes word).0 same)) is

    by : (n u m s : Bool) → bytes_eq bytes (codes "ns") ≡ n → bytes_eq bytes (codes "us") ≡ u → bytes_eq bytes (codes "ms") ≡ m → bytes_eq bytes (codes "s") ≡ s
        → (if n then Some Nanosecond else if u then Some Microsecond else if m then Some Millisecond else if s then Some WholeSecond else None) ≡ Some unit → IsPlain bytes
    by true u m s wn wu wm ws e = plain (codes "ns") unit_words.0 wn
    by false true m s wn wu wm ws e = plain (codes "us") unit_words.1 wu
    by false false true s wn wu wm ws e = plain (codes "ms") unit_words.2 wm
    by false false false true wn wu wm ws e = plain (codes "s") unit_words.3 ws
    by false false false false wn wu wm ws e = let bad : None ≡ Some unit = e in cc

slot_plain : (p : Progress) (fields : List (List ℕ)) (said : Said) → slot_at p fields ≡ Ok said → PlainFrom fields 1 × GivesText said
unfolding slot_at
slot_plain p fields said e = by (is_some p.slot || p.begun) e
  where
    more : (of_length fields 3 3 (Fields 3) >>= λ done. (number_within NoNumber fields 1 LARGEST_LENGTH >>= λ length.
        (ok_or (unit_named (field fields 2)) (fault_at 2 NoUnit) >>= λ unit. Ok (Slot (record { length = length; unit = unit }))))) ≡ Ok said → PlainFrom fields 1 × GivesText said
    more e =
        let a = both (of_length fields 3 3 (Fields 3)) _ said e in
        let b = both (number_within NoNumber fields 1 LARGEST_LENGTH) _ said a.2 in
        let c = both (ok_or (unit_named (field fields 2)) (fault_at 2 NoUnit)) _ said b.2 in
        let same : Slot (record { length = b.0; unit = c.0 }) ≡ said = cc in (
          one_more fields 1 2 refl (within_plain NoNumber fields 1 LARGEST_LENGTH b.0 b.1)
              (one_more fields 2 3 refl (unit_plain (field fields 2) c.0 (some_from (unit_named (field fields 2)) (fault_at 2 NoUnit) c.0 c.1))
              (none_from fields 3 (at_most fields 3 3 (Fields 3) a.0 a.1))),
          subst GivesText same tt,
        )

    by : (late : Bool) → (if late then Err (fault_at 0 LateSlot)
        else (of_length fields 3 3 (Fields 3) >>= λ done. (number_within NoNumber fields 1 LARGEST_LENGTH >>= λ length.
        (ok_or (unit_named (field fields 2)) (fault_at 2 NoUnit) >>= λ unit. Ok (Slot (record { length = length; unit = unit })))))) ≡ Ok said → PlainFrom fields 1 × GivesText said
    by true e = let bad : Err (fault_at 0 LateSlot) ≡ Ok said = e in cc
    by false e = more e

nameless_plain : (names : List Named) (fields : List (List ℕ)) (n : ℕ) → nameless_at names fields ≡ Ok n → IsPlain (field fields 1)
unfolding nameless_at
nameless_plain names fields n e =
    let a = both (number_within NoNumber fields 1 4095) _ n e in
    within_plain NoNumber fields 1 4095 a.0 a.1

free_plain : (names : List Named) (fields : List (List ℕ)) (name : List ℕ) → free_name_at names fields ≡ Ok name
    → (is_text name ≡ true) × IsPlain (field fields 2)
unfolding free_name_at
free_plain names fields name e = by (is_text (field fields 2)) (task_of names (field fields 2)) refl e
  where
    by : (b : Bool) (o : Option ℕ) → is_text (field fields 2) ≡ b
        → (if not b then Err (fault_at 2 NoName) else name_unless (field fields 2) o) ≡ Ok name → (is_text name ≡ true) × IsPlain (field fields 2)
    by false o text e = let bad : Err (fault_at 2 NoName) ≡ Ok name = e in cc
    by true None text e =
        let same : field fields 2 ≡ name = cc in
        (subst (λ (x : List ℕ). is_text x ≡ true) same text, name_plain (field fields 2) text)
    by true (Some task) text e = cc

name_record_plain : (p : Progress) (fields : List (List ℕ)) (said : Said) → name_at p.names fields ≡ Ok said → PlainFrom fields 1 × GivesText said
unfolding name_at
name_record_plain p fields said e =
    let a = both (of_length fields 3 3 (Fields 3)) _ said e in
    let b = both (nameless_at p.names fields) _ said a.2 in
    let c = both (free_name_at p.names fields) _ said b.2 in
    let free = free_plain p.names fields c.0 c.1 in
    let same : Name b.0 c.0 ≡ said = cc in (
      one_more fields 1 2 refl (nameless_plain p.names fields b.0 b.1)
          (one_more fields 2 3 refl free.1 (none_from fields 3 (at_most fields 3 3 (Fields 3) a.0 a.1))),
      subst GivesText same free.0,
    )

record_plain : (p : Progress) (fields : List (List ℕ)) (said : Said) → AreTexts p → record_at p fields ≡ Ok said → Says fields 0 said
unfolding record_at
record_plain p fields said texts e =
    by (is_word fields 0 (codes "step")) (is_word fields 0 (codes "strict")) (is_word fields 0 (codes "settings")) (is_word fields 0 (codes "slot"))
    (is_word fields 0 (codes "name")) refl refl refl refl e
  where
    behind : (word : List ℕ) → is_letter_first word ≡ true → IsPlain word → is_word fields 0 word ≡ true → PlainFrom fields 1 × GivesText said → Says fields 0 said
    behind word first plain is more = (worded fields 0 1 word refl first plain is more.0, more.1)

    by : (a b c d f : Bool) → is_word fields 0 (codes "step") ≡ a → is_word fields 0 (codes "strict") ≡ b → is_word fields 0 (codes "slot") ≡ d → is_word fields 0 (codes "name") ≡ f
        → (if a then steps_at fields else if b then edit_at p true NoChange fields 1 else if c then Err (fault_at 0 LateSettings)
        else if d then slot_at p fields else if f then name_at p.names fields else edit_at p false NoRecord fields 0) ≡ Ok said → Says fields 0 said
    by true b c d f wa wb wd wf e = behind (codes "step") refl record_words.0 wa (steps_plain fields said e)
    by false true c d f wa wb wd wf e =
        let more = edit_plain p true NoChange fields 1 said texts e in
        behind (codes "strict") refl change_words.3 wb (more.0.1, more.1)
    by false false true d f wa wb wd wf e = let bad : Err (fault_at 0 LateSettings) ≡ Ok said = e in cc
    by false false false true f wa wb wd wf e = behind (codes "slot") refl record_words.1 wd (slot_plain p fields said e)
    by false false false false true wa wb wd wf e = behind (codes "name") refl record_words.2 wf (name_record_plain p fields said e)
    by false false false false false wa wb wd wf e = edit_plain p false NoRecord fields 0 said texts e

-- settings
every_plain : (fields : List (List ℕ)) (every : ℕ) → length fields ≤ 5 → every_at fields ≡ Ok every → PlainFrom fields 4
unfolding every_at
every_plain fields every few e = by (nat_le (length fields) 4) refl e
  where
    by : (b : Bool) → nat_le (length fields) 4 ≡ b → (if b then Ok 64 else number_within NoNumber fields 4 4096) ≡ Ok every → PlainFrom fields 4
    by true none e = none_from fields 4 (grind (arith, nat_tests, none))
    by false some e = one_more fields 4 5 refl (within_plain NoNumber fields 4 4096 every e) (none_from fields 5 few)

cap_plain : (fields : List (List ℕ)) (full cap : ℕ) → cap_at fields full ≡ Ok cap → PlainFrom fields 4 → PlainFrom fields 3
unfolding cap_at
cap_plain fields full cap e more = by (nat_le (length fields) 3) (is_word fields 3 (codes "full")) refl refl e
  where
    by : (none word : Bool) → nat_le (length fields) 3 ≡ none → is_word fields 3 (codes "full") ≡ word
        → (if none || word then Ok full else number_within NoCap fields 3 17592186044416) ≡ Ok cap → PlainFrom fields 3
    by true word is is_full e = none_from fields 3 (grind (arith, nat_tests, is))
    by false true is is_full e = one_more fields 3 4 refl (subst IsPlain (sym (word_is fields 3 (codes "full") is_full)) record_words.4) more
    by false false is is_full e = one_more fields 3 4 refl (within_plain NoCap fields 3 17592186044416 cap e) more

settings_plain : (fields : List (List ℕ)) (said : Said) → settings_at fields ≡ Ok said → PlainFrom fields 1 × GivesText said
unfolding settings_at
settings_plain fields said e =
    let a = both (of_length fields 3 5 SettingsFields) _ said e in
    let m = both (number_within NoNumber fields 1 64) _ said a.2 in
    let b = both (number_within NoNumber fields 2 1073741824) _ said m.2 in
    let c = both (cap_at fields (m.0 * b.0)) _ said b.2 in
    let d = both (every_at fields) _ said c.2 in
    let settings : ScriptSettings = record {
      version = Second;
      settings = record { processors = m.0; base = b.0; cap = c.0; horizon = wide_horizon };
      every = d.0;
    } in
    let same : Settings settings ≡ said = cc in (
      one_more fields 1 2 refl (within_plain NoNumber fields 1 64 m.0 m.1)
          (one_more fields 2 3 refl (within_plain NoNumber fields 2 1073741824 b.0 b.1)
          (cap_plain fields (m.0 * b.0) c.0 c.1 (every_plain fields d.0 (at_most fields 3 5 SettingsFields a.0 a.1) d.1))),
      subst GivesText same tt,
    )

opening_plain : (fields : List (List ℕ)) (said : Said) → opening_at fields ≡ Ok said → Says fields 0 said
unfolding opening_at
opening_plain fields said e = by (is_word fields 0 (codes "settings")) (names_record fields) refl e
  where
    by : (s n : Bool) → is_word fields 0 (codes "settings") ≡ s
        → (if s then settings_at fields else if n then Err (fault_at 0 NoSettings) else Err (fault_at 0 NoRecord)) ≡ Ok said → Says fields 0 said
    by true n is e =
        let more = settings_plain fields said e in
        (worded fields 0 1 (codes "settings") refl refl record_words.3 is more.0, more.1)
    by false true is e = let bad : Err (fault_at 0 NoSettings) ≡ Ok said = e in cc
    by false false is e = let bad : Err (fault_at 0 NoRecord) ≡ Ok said = e in cc

said_plain : (p : Progress) (fields : List (List ℕ)) (said : Said) → AreTexts p → said_at p fields ≡ Ok said → Says fields 0 said
said_plain p fields said texts e = by p.opened e
  where
    by : (b : Bool) → (if b then record_at p fields else opening_at fields) ≡ Ok said → Says fields 0 said
    by true e = record_plain p fields said texts e
    by false e = opening_plain fields said e

worded_read : (fields : List (List ℕ)) → IsWorded fields 0 → IsRead fields
worded_read [] is = let bad : false ≡ true = is.0 in cc
worded_read ([] ∷ xs) is = let bad : false ≡ true = is.0 in cc
worded_read ((c ∷ w) ∷ xs) is =
    (is.0, is.1 0 (omega arith) (omega arith), All-from_get_or IsPlain xs [] (λ i lt. is.1 (suc i) (omega arith) (omega (arith, lt))))

-- Use: a good record is read from its line.
pub said_read : (p : Progress) (fields : List (List ℕ)) (said : Said) → AreTexts p → said_at p fields ≡ Ok said → IsRead fields
said_read p fields said texts e = worded_read fields (said_plain p fields said texts e).0

-- Use: it gives a text.
pub said_text : (p : Progress) (fields : List (List ℕ)) (said : Said) → AreTexts p → said_at p fields ≡ Ok said → GivesText said
said_text p fields said texts e = (said_plain p fields said texts e).1
