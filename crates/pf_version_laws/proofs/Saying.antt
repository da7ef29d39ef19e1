-- What records of a plan say can be written in version 2.
use Rattle.std.proofs.Common.{◌≡◌, ◌^◌, ◌<◌, ◌≤◌, ◌+◌, ◌*◌, ◌==◌, ℕ, Bool, true, false, Some, None, Ok, Err, Option, Result, List, [], ◌∷◌, All, length, subst, arith, refl}
use Rattle.std.specs.Prelude.{if◌then◌else◌, nat_le, not, is_some, ok_or, ◌||◌, codes}
use Rattle.std.specs.Str.{bytes_eq}
use Rattle.std.proofs.lemmas.Nat.{mul-le}
use Rattle.std.proofs.lemmas.List.Elements.{All-head, All-tail}
use Rattle.pf_vocabulary.specs.Names.Names.{name_of, task_of}
use Rattle.pf_vocabulary.specs.Names.Slots.{unit_named}
use Rattle.pf_vocabulary.specs.Names.Text.{is_letter_first, is_text}
use Rattle.pf_vocabulary.specs.declared.names.named.Named.{Named}
use Rattle.pf_vocabulary.specs.declared.names.slot_length.TheConstants.{LARGEST_LENGTH}
use Rattle.pf_scenario.specs.System.{wide_horizon}
use Rattle.pf_scenario.specs.declared.event.Event.{Event}
use Rattle.pf_scenario.specs.declared.event.Event.TheVariants.{Join, Leave, Delay, Limit}
use Rattle.pf_scenario.specs.declared.change.Change.{Change}
use Rattle.pf_scenario.specs.declared.change.Change.TheVariants.{Insert, Alter, Strike}
use Rattle.pf_script.specs.Fields.{field, is_word}
use Rattle.pf_script.specs.declared.line.Line.{Line}
use Rattle.pf_script.specs.declared.line.Line.TheVariants.{Edit, Steps}
use Rattle.pf_script.specs.declared.record.ScriptSettings.{ScriptSettings}
use Rattle.pf_script.specs.declared.version.Version.TheVariants.{Second}
use Rattle.pf_script.specs.Plan.Labels.{number_of_label}
use Rattle.pf_script.specs.declared.plan.labels.Labelled.{Labelled}
use Rattle.pf_script.specs.Plan.Parsing.{◌>>=◌, alter_at, asked, cap_at, delay_at, early_at, edit_at, event_at, every_at, fault_at, first_labelled_at, free_name_at, given_label_at, id_at, join_at, label_at, labelled, labelled_again_at, labelled_at, leave_at, limit_at, name_at, nameless_at, name_unless, names_record, number_or, number_within, of_length, opening_at, record_at, said_at, settings_at, slot_at, steps_at, strike_at, task_at}
use Rattle.pf_script.specs.declared.plan.fault.Reason.{Reason}
use Rattle.pf_script.specs.declared.plan.fault.Reason.TheVariants.{NoCap, NoChange, NoEvent, NoNumber, NoRecord, NoSettings, NoTask, NoUnit, LabelUnknown, LateSettings, LateSlot, NoName, Fields, JoinFields, SettingsFields, StepFields, HasName}
use Rattle.pf_script.specs.declared.plan.fault.RecordFault.{RecordFault}
use Rattle.pf_script.specs.declared.plan.said.Said.{Said}
use Rattle.pf_script.specs.declared.plan.said.Said.TheVariants.{Settings, Slot, Name, Asks}
use Rattle.pf_script.specs.declared.plan.state.Progress.{Progress}
use Rattle.pf_version_laws.specs.Titles.{IsGivable, IsSlot}
use Rattle.pf_version_laws.proofs.Numbers.{both, or_small, some_from, within_small}

-- the numbers of an event are short enough for fields
abbrev pub AreShort : Event → Type 0
AreShort (Join slot task cost period early) = (slot < 10 ^ 15) × (task < 10 ^ 15) × (cost < 10 ^ 15) × (period < 10 ^ 15) × (early < 10 ^ 15)
AreShort (Leave slot task) = (slot < 10 ^ 15) × (task < 10 ^ 15)
AreShort (Delay slot task by) = (slot < 10 ^ 15) × (task < 10 ^ 15) × (by < 10 ^ 15)
AreShort (Limit slot count) = (slot < 10 ^ 15) × (count < 10 ^ 15)

pub record IsShortAlter (id : ℕ) (event : Event) : Type 0 where
  pub number : id < 10 ^ 15
  pub fields : AreShort event

abbrev pub IsShortChange : Change → Type 0
IsShortChange (Insert event) = AreShort event
IsShortChange (Alter id event) = IsShortAlter id event
IsShortChange (Strike id) = id < 10 ^ 15

abbrev pub IsShortLine : Line → Type 0
IsShortLine (Edit change strict) = IsShortChange change
IsShortLine (Steps count) = (1 ≤ count) × (count ≤ wide_horizon)

-- settings of version 2 within their limits
pub record AreSettings (s : ScriptSettings) : Type 0 where
  pub version : s.version ≡ Second
  pub horizon : s.settings.horizon ≡ wide_horizon
  pub processors : (1 ≤ s.settings.processors) × (s.settings.processors ≤ 64)
  pub base : (1 ≤ s.settings.base) × (s.settings.base ≤ 1073741824)
  pub cap : (1 ≤ s.settings.cap) × (s.settings.cap ≤ 17592186044416)
  pub every : (1 ≤ s.every) × (s.every ≤ 4096)

-- a name that no task has yet, for a task that has none
pub record IsNew (names : List Named) (task : ℕ) (name : List ℕ) : Type 0 where
  pub is : IsGivable (record { task = task; name = name })
  pub none : name_of names task ≡ None
  pub free : task_of names name ≡ None

-- settings are told first, and then the others
abbrev pub CanBeWritten : Bool → List Named → Said → Type 0
CanBeWritten opened names (Settings s) = (opened ≡ false) × AreSettings s
CanBeWritten opened names (Slot length) = (opened ≡ true) × IsSlot length
CanBeWritten opened names (Name task name) = (opened ≡ true) × IsNew names task name
CanBeWritten opened names (Asks line label) = (opened ≡ true) × IsShortLine line

-- the numbers of tasks that have names, and of labels
pub record IsShortProgress (p : Progress) : Type 0 where
  pub names : All (λ n. n.task < 10 ^ 15) p.names
  pub labels : All (λ l. l.number < 10 ^ 15) p.labels

named_task : (names : List Named) (name : List ℕ) (n : ℕ) → All (λ m. m.task < 10 ^ 15) names → task_of names name ≡ Some n → n < 10 ^ 15
named_task [] name n short e = let bad : None ≡ Some n = e in cc
named_task (m ∷ names) name n short e = by (bytes_eq m.name name) e (λ k. named_task names name n (All-tail (λ m. m.task < 10 ^ 15) m names short) k)
  where
    by : (b : Bool) → (if b then Some m.task else task_of names name) ≡ Some n → (task_of names name ≡ Some n → n < 10 ^ 15) → n < 10 ^ 15
    by true e more = let same : m.task ≡ n = cc in omega (arith, same, All-head (λ m. m.task < 10 ^ 15) m names short)
    by false e more = more e

labelled_number : (labels : List Labelled) (label : List ℕ) (n : ℕ) → All (λ l. l.number < 10 ^ 15) labels → number_of_label labels label ≡ Some n → n < 10 ^ 15
labelled_number [] label n short e = let bad : None ≡ Some n = e in cc
labelled_number (l ∷ labels) label n short e = by (bytes_eq l.name label) e (λ k. labelled_number labels label n (All-tail (λ l. l.number < 10 ^ 15) l labels short) k)
  where
    by : (b : Bool) → (if b then Some l.number else number_of_label labels label) ≡ Some n → (number_of_label labels label ≡ Some n → n < 10 ^ 15) → n < 10 ^ 15
    by true e more = let same : l.number ≡ n = cc in omega (arith, same, All-head (λ l. l.number < 10 ^ 15) l labels short)
    by false e more = more e

task_short : (names : List Named) (fields : List (List ℕ)) (place n : ℕ) → All (λ m. m.task < 10 ^ 15) names → task_at names fields place ≡ Ok n → n < 10 ^ 15
unfolding task_at
task_short names fields place n short e = by (is_letter_first (field fields place)) e
  where
    by : (b : Bool) → (if b then ok_or (task_of names (field fields place)) (fault_at place NoTask) else number_or NoNumber fields place) ≡ Ok n → n < 10 ^ 15
    by true e = named_task names (field fields place) n short (some_from (task_of names (field fields place)) (fault_at place NoTask) n e)
    by false e = or_small NoNumber fields place n e

id_short : (labels : List Labelled) (fields : List (List ℕ)) (place n : ℕ) → All (λ l. l.number < 10 ^ 15) labels → id_at labels fields place ≡ Ok n → n < 10 ^ 15
unfolding id_at
id_short labels fields place n short e = by (is_letter_first (field fields place)) e
  where
    by : (b : Bool) → (if b then ok_or (number_of_label labels (field fields place)) (fault_at place LabelUnknown) else number_or NoNumber fields place) ≡ Ok n → n < 10 ^ 15
    by true e = labelled_number labels (field fields place) n short (some_from (number_of_label labels (field fields place)) (fault_at place LabelUnknown) n e)
    by false e = or_small NoNumber fields place n e

early_short : (fields : List (List ℕ)) (place n : ℕ) → early_at fields place ≡ Ok n → n < 10 ^ 15
unfolding early_at
early_short fields place n e = by (nat_le (length fields) place) e
  where
    by : (b : Bool) → (if b then Ok 0 else number_or NoNumber fields place) ≡ Ok n → n < 10 ^ 15
    by true e = let same : 0 ≡ n = cc in omega (arith, same)
    by false e = or_small NoNumber fields place n e

join_short : (names : List Named) (fields : List (List ℕ)) (place : ℕ) (event : Event) → All (λ m. m.task < 10 ^ 15) names → join_at names fields place ≡ Ok event → AreShort event
unfolding join_at
join_short names fields place event short e =
    let a = both (of_length fields (place + 5) (place + 6) (JoinFields (place + 5))) _ event e in
    let b = both (number_or NoNumber fields (place + 1)) _ event a.2 in
    let c = both (task_at names fields (place + 2)) _ event b.2 in
    let d = both (number_or NoNumber fields (place + 3)) _ event c.2 in
    let f = both (number_or NoNumber fields (place + 4)) _ event d.2 in
    let g = both (early_at fields (place + 5)) _ event f.2 in
    let same : Join b.0 c.0 d.0 f.0 g.0 ≡ event = cc in
    subst AreShort same (
      or_small NoNumber fields (place + 1) b.0 b.1,
      task_short names fields (place + 2) c.0 short c.1,
      or_small NoNumber fields (place + 3) d.0 d.1,
      or_small NoNumber fields (place + 4) f.0 f.1,
      early_short fields (place + 5) g.0 g.1,
    )

leave_short : (names : List Named) (fields : List (List ℕ)) (place : ℕ) (event : Event) → All (λ m. m.task < 10 ^ 15) names → leave_at names fields place ≡ Ok event → AreShort event
unfolding leave_at
leave_short names fields place event short e =
    let a = both (of_length fields (place + 3) (place + 3) (Fields (place + 3))) _ event e in
    let b = both (number_or NoNumber fields (place + 1)) _ event a.2 in
    let c = both (task_at names fields (place + 2)) _ event b.2 in
    let same : Leave b.0 c.0 ≡ event = cc in
    subst AreShort same (or_small NoNumber fields (place + 1) b.0 b.1, task_short names fields (place + 2) c.0 short c.1)

delay_short : (names : List Named) (fields : List (List ℕ)) (place : ℕ) (event : Event) → All (λ m. m.task < 10 ^ 15) names → delay_at names fields place ≡ Ok event → AreShort event
unfolding delay_at
delay_short names fields place event short e =
    let a = both (of_length fields (place + 4) (place + 4) (Fields (place + 4))) _ event e in
    let b = both (number_or NoNumber fields (place + 1)) _ event a.2 in
    let c = both (task_at names fields (place + 2)) _ event b.2 in
    let d = both (number_or NoNumber fields (place + 3)) _ event c.2 in
    let same : Delay b.0 c.0 d.0 ≡ event = cc in
    subst AreShort same
    (or_small NoNumber fields (place + 1) b.0 b.1, task_short names fields (place + 2) c.0 short c.1, or_small NoNumber fields (place + 3) d.0 d.1)

limit_short : (fields : List (List ℕ)) (place : ℕ) (event : Event) → limit_at fields place ≡ Ok event → AreShort event
unfolding limit_at
limit_short fields place event e =
    let a = both (of_length fields (place + 3) (place + 3) (Fields (place + 3))) _ event e in
    let b = both (number_or NoNumber fields (place + 1)) _ event a.2 in
    let c = both (number_or NoNumber fields (place + 2)) _ event b.2 in
    let same : Limit b.0 c.0 ≡ event = cc in
    subst AreShort same (or_small NoNumber fields (place + 1) b.0 b.1, or_small NoNumber fields (place + 2) c.0 c.1)

event_short : (names : List Named) (none : Reason) (fields : List (List ℕ)) (place : ℕ) (event : Event) → All (λ m. m.task < 10 ^ 15) names
    → event_at names none fields place ≡ Ok event → AreShort event
unfolding event_at
event_short names none fields place event short e =
    by (is_word fields place (codes "join")) (is_word fields place (codes "leave")) (is_word fields place (codes "delay")) (is_word fields place (codes "limit")) e
  where
    by : (j l d m : Bool) → (if j then join_at names fields place else if l then leave_at names fields place else if d then delay_at names fields place
        else if m then limit_at fields place else Err (fault_at place none)) ≡ Ok event → AreShort event
    by true l d m e = join_short names fields place event short e
    by false true d m e = leave_short names fields place event short e
    by false false true m e = delay_short names fields place event short e
    by false false false true e = limit_short fields place event e
    by false false false false e = let bad : Err (fault_at place none) ≡ Ok event = e in cc

strike_short : (p : Progress) (fields : List (List ℕ)) (place : ℕ) (change : Change) → IsShortProgress p → strike_at p fields place ≡ Ok change → IsShortChange change
unfolding strike_at
strike_short p fields place change short e =
    let a = both (of_length fields (place + 2) (place + 2) (Fields (place + 2))) _ change e in
    let b = both (id_at p.labels fields (place + 1)) _ change a.2 in
    let same : Strike b.0 ≡ change = cc in
    subst IsShortChange same (id_short p.labels fields (place + 1) b.0 short.labels b.1)

alter_short : (p : Progress) (fields : List (List ℕ)) (place : ℕ) (change : Change) → IsShortProgress p → alter_at p fields place ≡ Ok change → IsShortChange change
unfolding alter_at
alter_short p fields place change short e =
    let a = both (id_at p.labels fields (place + 1)) _ change e in
    let b = both (event_at p.names NoEvent fields (place + 2)) _ change a.2 in
    let same : Alter a.0 b.0 ≡ change = cc in
    subst IsShortChange same (record {
      number = id_short p.labels fields (place + 1) a.0 short.labels a.1;
      fields = event_short p.names NoEvent fields (place + 2) b.0 short.names b.1;
    })

label_short : (p : Progress) (strict : Bool) (fields : List (List ℕ)) (next : ℕ) (said : Said) (label : Result (List ℕ) RecordFault) → IsShortProgress p
    → (label >>= λ text. event_at p.names NoEvent fields next >>= λ event. Ok (labelled strict text event)) ≡ Ok said → CanBeWritten true p.names said
label_short p strict fields next said label short e =
    let a = both label _ said e in
    let b = both (event_at p.names NoEvent fields next) _ said a.2 in
    let same : labelled strict a.0 b.0 ≡ said = cc in
    subst (CanBeWritten true p.names) same (refl, event_short p.names NoEvent fields next b.0 short.names b.1)

labelled_short : (p : Progress) (strict : Bool) (fields : List (List ℕ)) (place : ℕ) (said : Said) → IsShortProgress p
    → labelled_at p strict fields place ≡ Ok said → CanBeWritten true p.names said
unfolding labelled_at first_labelled_at labelled_again_at
labelled_short p strict fields place said short e = by (is_word fields (place + 2) (codes "again")) e
  where
    by : (b : Bool) → (if b then labelled_again_at p strict fields place else first_labelled_at p strict fields place) ≡ Ok said → CanBeWritten true p.names said
    by true e = label_short p strict fields (place + 3) said (given_label_at p.labels fields (place + 1)) short e
    by false e = label_short p strict fields (place + 2) said (label_at p.labels fields (place + 1)) short e

-- a change that is short
change_asked : (names : List Named) (strict : Bool) (r : Result Change RecordFault) (said : Said) → ((change : Change) → r ≡ Ok change → IsShortChange change)
    → (r >>= λ change. Ok (asked strict change)) ≡ Ok said → CanBeWritten true names said
change_asked names strict r said short e =
    let a = both r (λ change. Ok (asked strict change)) said e in
    let same : asked strict a.0 ≡ said = cc in
    subst (CanBeWritten true names) same (refl, short a.0 a.1)

event_asked : (names : List Named) (strict : Bool) (r : Result Event RecordFault) (said : Said) → ((event : Event) → r ≡ Ok event → AreShort event)
    → (r >>= λ event. Ok (asked strict (Insert event))) ≡ Ok said → CanBeWritten true names said
event_asked names strict r said short e =
    let a = both r (λ event. Ok (asked strict (Insert event))) said e in
    let same : asked strict (Insert a.0) ≡ said = cc in
    subst (CanBeWritten true names) same (refl, short a.0 a.1)

edit_short : (p : Progress) (strict : Bool) (none : Reason) (fields : List (List ℕ)) (place : ℕ) (said : Said) → IsShortProgress p
    → edit_at p strict none fields place ≡ Ok said → CanBeWritten true p.names said
unfolding edit_at
edit_short p strict none fields place said short e =
    by (is_word fields place (codes "strike")) (is_word fields place (codes "alter")) (is_word fields place (codes "label")) e
  where
    by : (s a l : Bool) → (if s then (strike_at p fields place >>= λ change. Ok (asked strict change))
        else if a then (alter_at p fields place >>= λ change. Ok (asked strict change))
        else if l then labelled_at p strict fields place
        else (event_at p.names none fields place >>= λ event. Ok (asked strict (Insert event)))) ≡ Ok said → CanBeWritten true p.names said
    by true a l e = change_asked p.names strict (strike_at p fields place) said (λ change is. strike_short p fields place change short is) e
    by false true l e = change_asked p.names strict (alter_at p fields place) said (λ change is. alter_short p fields place change short is) e
    by false false true e = labelled_short p strict fields place said short e
    by false false false e = event_asked p.names strict (event_at p.names none fields place) said (λ event is. event_short p.names none fields place event short.names is) e

steps_short : (names : List Named) (fields : List (List ℕ)) (said : Said) → steps_at fields ≡ Ok said → CanBeWritten true names said
unfolding steps_at
steps_short names fields said e = by (length fields == 1) (length fields == 2) e
  where
    by : (one two : Bool) → (if one then Ok (Asks (Steps 1) None)
        else if two then (number_within NoNumber fields 1 wide_horizon >>= λ count. Ok (Asks (Steps count) None))
        else Err (fault_at 2 StepFields)) ≡ Ok said → CanBeWritten true names said
    by true two e = let same : Asks (Steps 1) None ≡ said = cc in subst (CanBeWritten true names) same (refl, (omega arith, omega arith))
    by false true e =
        let a = both (number_within NoNumber fields 1 wide_horizon) (λ count. Ok (Asks (Steps count) None)) said e in
        let same : Asks (Steps a.0) None ≡ said = cc in
        let in_limits = within_small NoNumber fields 1 wide_horizon a.0 a.1 in
        subst (CanBeWritten true names) same (refl, (in_limits.0, in_limits.1))
    by false false e = cc

slot_written : (p : Progress) (fields : List (List ℕ)) (said : Said) → slot_at p fields ≡ Ok said → CanBeWritten true p.names said
unfolding slot_at
slot_written p fields said e = by (is_some p.slot || p.begun) e
  where
    more : (of_length fields 3 3 (Fields 3) >>= λ done. (number_within NoNumber fields 1 LARGEST_LENGTH >>= λ length.
        (ok_or (unit_named (field fields 2)) (fault_at 2 NoUnit) >>= λ unit. Ok (Slot (record { length = length; unit = unit }))))) ≡ Ok said → CanBeWritten true p.names said
    more e =
        let a = both (of_length fields 3 3 (Fields 3)) _ said e in
        let b = both (number_within NoNumber fields 1 LARGEST_LENGTH) _ said a.2 in
        let c = both (ok_or (unit_named (field fields 2)) (fault_at 2 NoUnit)) _ said b.2 in
        let limits = within_small NoNumber fields 1 LARGEST_LENGTH b.0 b.1 in
        let same : Slot (record { length = b.0; unit = c.0 }) ≡ said = cc in
        subst (CanBeWritten true p.names) same (refl, record { some = limits.0; few = limits.1 })

    by : (late : Bool) → (if late then Err (fault_at 0 LateSlot)
        else (of_length fields 3 3 (Fields 3) >>= λ done. (number_within NoNumber fields 1 LARGEST_LENGTH >>= λ length.
        (ok_or (unit_named (field fields 2)) (fault_at 2 NoUnit) >>= λ unit. Ok (Slot (record { length = length; unit = unit })))))) ≡ Ok said → CanBeWritten true p.names said
    by true e = cc
    by false e = more e

-- nothing is there
none_from : {X : Type 0} (o : Option X) → is_some o ≡ false → o ≡ None
none_from None e = refl
none_from (Some x) e = cc

nameless_new : (names : List Named) (fields : List (List ℕ)) (n : ℕ) → nameless_at names fields ≡ Ok n → (1 ≤ n) × (n ≤ 4095) × (name_of names n ≡ None)
unfolding nameless_at
nameless_new names fields n e =
    let a = both (number_within NoNumber fields 1 4095) _ n e in
    let limits = within_small NoNumber fields 1 4095 a.0 a.1 in
    by a.0 limits.0 limits.1 (is_some (name_of names a.0)) refl a.2
  where
    by : (task : ℕ) → 1 ≤ task → task ≤ 4095 → (b : Bool) → is_some (name_of names task) ≡ b → (if b then Err (fault_at 1 (HasName task)) else Ok task) ≡ Ok n
        → (1 ≤ n) × (n ≤ 4095) × (name_of names n ≡ None)
    by task some few true is e = cc
    by task some few false is e =
        let same : task ≡ n = cc in
        subst (λ (m : ℕ). (1 ≤ m) × (m ≤ 4095) × (name_of names m ≡ None)) same (some, few, none_from (name_of names task) is)

free_new : (names : List Named) (fields : List (List ℕ)) (name : List ℕ) → free_name_at names fields ≡ Ok name
    → (is_text name ≡ true) × (task_of names name ≡ None)
unfolding free_name_at
free_new names fields name e = by (is_text (field fields 2)) (task_of names (field fields 2)) refl refl e
  where
    by : (b : Bool) (o : Option ℕ) → is_text (field fields 2) ≡ b → task_of names (field fields 2) ≡ o
        → (if not b then Err (fault_at 2 NoName) else name_unless (field fields 2) o) ≡ Ok name → (is_text name ≡ true) × (task_of names name ≡ None)
    by false o text none e = cc
    by true None text none e =
        let same : field fields 2 ≡ name = cc in
        subst (λ (x : List ℕ). (is_text x ≡ true) × (task_of names x ≡ None)) same (text, none)
    by true (Some task) text none e = cc

name_written : (p : Progress) (fields : List (List ℕ)) (said : Said) → name_at p.names fields ≡ Ok said → CanBeWritten true p.names said
unfolding name_at
name_written p fields said e =
    let a = both (of_length fields 3 3 (Fields 3)) _ said e in
    let b = both (nameless_at p.names fields) _ said a.2 in
    let c = both (free_name_at p.names fields) _ said b.2 in
    let same : Name b.0 c.0 ≡ said = cc in
    let new = nameless_new p.names fields b.0 b.1 in
    let free = free_new p.names fields c.0 c.1 in
    subst (CanBeWritten true p.names) same (refl, record { is = record { some = new.0; few = new.1; text = free.0 }; none = new.2; free = free.1 })

record_written : (p : Progress) (fields : List (List ℕ)) (said : Said) → IsShortProgress p → record_at p fields ≡ Ok said → CanBeWritten true p.names said
unfolding record_at
record_written p fields said short e =
    by (is_word fields 0 (codes "step")) (is_word fields 0 (codes "strict")) (is_word fields 0 (codes "settings")) (is_word fields 0 (codes "slot"))
    (is_word fields 0 (codes "name")) e
  where
    by : (a b c d f : Bool) → (if a then steps_at fields else if b then edit_at p true NoChange fields 1 else if c then Err (fault_at 0 LateSettings)
        else if d then slot_at p fields else if f then name_at p.names fields else edit_at p false NoRecord fields 0) ≡ Ok said → CanBeWritten true p.names said
    by true b c d f e = steps_short p.names fields said e
    by false true c d f e = edit_short p true NoChange fields 1 said short e
    by false false true d f e = cc
    by false false false true f e = slot_written p fields said e
    by false false false false true e = name_written p fields said e
    by false false false false false e = edit_short p false NoRecord fields 0 said short e

cap_within : (fields : List (List ℕ)) (full cap : ℕ) → (1 ≤ full) × (full ≤ 17592186044416) → cap_at fields full ≡ Ok cap → (1 ≤ cap) × (cap ≤ 17592186044416)
unfolding cap_at
cap_within fields full cap limits e = by (nat_le (length fields) 3 || is_word fields 3 (codes "full")) e
  where
    by : (b : Bool) → (if b then Ok full else number_within NoCap fields 3 17592186044416) ≡ Ok cap → (1 ≤ cap) × (cap ≤ 17592186044416)
    by true e = let same : full ≡ cap = cc in subst (λ n. (1 ≤ n) × (n ≤ 17592186044416)) same limits
    by false e = within_small NoCap fields 3 17592186044416 cap e

every_within : (fields : List (List ℕ)) (every : ℕ) → every_at fields ≡ Ok every → (1 ≤ every) × (every ≤ 4096)
unfolding every_at
every_within fields every e = by (nat_le (length fields) 4) e
  where
    by : (b : Bool) → (if b then Ok 64 else number_within NoNumber fields 4 4096) ≡ Ok every → (1 ≤ every) × (every ≤ 4096)
    by true e = let same : 64 ≡ every = cc in (omega (arith, same), omega (arith, same))
    by false e = within_small NoNumber fields 4 4096 every e

full_within : (m b : ℕ) → (1 ≤ m) × (m ≤ 64) → (1 ≤ b) × (b ≤ 1073741824) → (1 ≤ m * b) × (m * b ≤ 17592186044416)
full_within m b few low =
    let most : m * b ≤ 64 * 1073741824 = mul-le m b 64 1073741824 few.1 low.1 in
    let some : 1 * 1 ≤ m * b = mul-le 1 1 m b few.0 low.0 in
    (omega (arith, some), omega (arith, most))

settings_written : (names : List Named) (fields : List (List ℕ)) (said : Said) → settings_at fields ≡ Ok said → CanBeWritten false names said
unfolding settings_at
settings_written names fields said e =
    let a = both (of_length fields 3 5 SettingsFields) _ said e in
    let m = both (number_within NoNumber fields 1 64) _ said a.2 in
    let b = both (number_within NoNumber fields 2 1073741824) _ said m.2 in
    let c = both (cap_at fields (m.0 * b.0)) _ said b.2 in
    let d = both (every_at fields) _ said c.2 in
    let few = within_small NoNumber fields 1 64 m.0 m.1 in
    let low = within_small NoNumber fields 2 1073741824 b.0 b.1 in
    let settings : ScriptSettings = record {
      version = Second;
      settings = record { processors = m.0; base = b.0; cap = c.0; horizon = wide_horizon };
      every = d.0;
    } in
    let same : Settings settings ≡ said = cc in
    subst (CanBeWritten false names) same (
      refl,
      record {
        version = refl;
        horizon = refl;
        processors = few;
        base = low;
        cap = cap_within fields (m.0 * b.0) c.0 (full_within m.0 b.0 few low) c.1;
        every = every_within fields d.0 d.1;
      },
    )

opening_written : (names : List Named) (fields : List (List ℕ)) (said : Said) → opening_at fields ≡ Ok said → CanBeWritten false names said
unfolding opening_at
opening_written names fields said e = by (is_word fields 0 (codes "settings")) (names_record fields) e
  where
    by : (s n : Bool) → (if s then settings_at fields else if n then Err (fault_at 0 NoSettings) else Err (fault_at 0 NoRecord)) ≡ Ok said → CanBeWritten false names said
    by true n e = settings_written names fields said e
    by false true e = cc
    by false false e = cc

-- Use: what a record says can be written.
pub said_written : (p : Progress) (fields : List (List ℕ)) (said : Said) → IsShortProgress p → said_at p fields ≡ Ok said → CanBeWritten p.opened p.names said
said_written p fields said short e = by p.opened e
  where
    by : (b : Bool) → (if b then record_at p fields else opening_at fields) ≡ Ok said → CanBeWritten b p.names said
    by true e = record_written p fields said short e
    by false e = opening_written p.names fields said e
