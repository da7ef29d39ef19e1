-- The numbers of labels don't change whether a record of a plan is read: where a check finds no fault, no record stops the run.
use Rattle.std.proofs.Common.{◌≡◌, ◌∙◌, ◌+◌, ◌++◌, ℕ, Bool, true, false, List, [], ◌∷◌, map, Option, None, Some, Result, Ok, Err, inl, inr, refl, sym, ap, subst}
use Rattle.std.specs.Prelude.{⊤, IfErr, codes, if◌then◌else◌, is_some, not, ok_or}
use Rattle.std.specs.Str.{bytes_eq}
use Rattle.std.proofs.lemmas.List.{map-append}
use Rattle.pf_script_run.specs.Carried.{Stops}
use Rattle.pf_script.proofs.PlanLemmas.GivenLabels.{same_labels_with}
use Rattle.pf_script.specs.PlanCheck.Checked.{bad_if, fault_shown, faults, faults_at_end, faults_from, faults_next, faults_of, first_fields, is_plan, number_after, rows_after, with_fault}
use Rattle.pf_script.specs.PlanCheck.Reports.{FaultShown}
use Rattle.pf_vocabulary.specs.declared.fault.fault.Fault.{Fault}
use Rattle.pf_vocabulary.specs.declared.fault.fault.Fault.TheVariants as why
use Rattle.pf_script.specs.declared.check.found.Found.{Found}
use Rattle.pf_script.specs.Check.Files.{file_kind, kind_or, record_messages, script_messages, telling_of}
use Rattle.pf_script.specs.Messages.Lines.{FaultMessage, Telling, plan_messages}
use Rattle.pf_check_run.specs.Answers.{IsStopped, IsStoppedWith}
use Rattle.pf_script.specs.Check.Found.{Finds, is_clean, is_empty}
use Rattle.pf_plain_script.specs.declared.origin.Origin.{Origin}
use Rattle.pf_plain_script.specs.declared.plain.PlainScript.{PlainScript}
use Rattle.pf_plain_script.specs.Plain.{Course, MakesPlain, Plain, course_behind, ended, first_column, given, origin_at, plain, plain_behind, plain_from, plain_next, plain_of, start, with_heading}
use Rattle.pf_version_laws.specs.Retold.{IsSameFault}
use Rattle.pf_version_laws.proofs.Whole.{scripts_are_retold}
use Rattle.pf_text.specs.Rows.Rows.{Row, rows}
use Rattle.pf_script.specs.Fields.{field, is_word}
use Rattle.pf_script.specs.Told.{FaultTold, told}
use Rattle.pf_script.specs.declared.line.Line.{Line}
use Rattle.pf_script.specs.declared.line.Line.TheVariants.{Edit}
use Rattle.pf_scenario.specs.declared.change.Change.TheVariants.{Alter, Insert, Strike}
use Rattle.pf_vocabulary.specs.Names.Text.{is_letter_first, is_text}
use Rattle.pf_text.specs.Page.{table_text}
use Rattle.pf_script.specs.declared.plan.fault.Reason.{Reason}
use Rattle.pf_script.specs.declared.plan.fault.Reason.TheVariants.{Fields, LabelTaken, LabelUnknown, NoChange, NoEvent, NoLabel, NoNumber, NoRecord, NoSettings}
use Rattle.pf_script.specs.declared.plan.fault.RecordFault.{RecordFault}
use Rattle.pf_script.specs.declared.plan.labels.Labelled.{Labelled}
use Rattle.pf_script.specs.declared.plan.said.Said.{Said}
use Rattle.pf_script.specs.declared.plan.said.Said.TheVariants.{Settings, Slot, Name, Asks}
use Rattle.pf_script.specs.declared.plan.state.Progress.{Progress}
use Rattle.pf_script.specs.Plan.Heading.{heading_fault, is_plan_heading}
use Rattle.pf_script.specs.Plan.Labels.{number_of_label, with_label}
use Rattle.pf_script.specs.Plan.Parsing.{◌>>=◌, alter_at, asked, edit_at, event_at, fault_at, first_labelled_at, given_label_at, id_at, label_at, labelled_again_at, labelled_at, name_at, number_or, of_length, opening_at, record_at, said_at, slot_at, steps_at, strike_at}
use Rattle.pf_script.specs.Plan.Progress.{at_heading, progress_after}

-- the same but for the numbers of labels
pub record AreAlike (p q : Progress) : Type 0 where
  pub labels : List Labelled
  pub same : q ≡ record p { labels = labels }
  pub names : map (λ (l : Labelled). l.name) p.labels ≡ map (λ (l : Labelled). l.name) labels

-- where the first is read, so is the other, and this is so of both
abbrev BothRead : {A B : Type 0} → (A → B → Type 0) → Result A RecordFault → Result B RecordFault → Type 0
BothRead R (Ok a) (Ok b) = R a b
BothRead R (Ok a) (Err fault) = ⊥
BothRead R (Err fault) other = ⊤

-- both lead on alike
abbrev LeadOn : Said → Said → Type 0
LeadOn a b = (p q : Progress) (m n : ℕ) → AreAlike p q → AreAlike (progress_after p a m) (progress_after q b n)

abbrev Anyhow : {A B : Type 0} → A → B → Type 0
Anyhow a b = ⊤

both_then : {A B C D : Type 0} (R : A → B → Type 0) (S : C → D → Type 0) (r : Result A RecordFault) (s : Result B RecordFault) (f : A → Result C RecordFault) (g : B → Result D RecordFault)
    → BothRead R r s → ((a : A) (b : B) → R a b → BothRead S (f a) (g b)) → BothRead S (r >>= f) (s >>= g)
both_then R S (Ok a) (Ok b) f g h more = more a b h
both_then R S (Ok a) (Err fault) f g h more = absurd h
both_then R S (Err fault) s f g h more = tt

both_same : {A : Type 0} (R : A → A → Type 0) (r : Result A RecordFault) → ((a : A) → R a a) → BothRead R r r
both_same R (Ok a) h = h a
both_same R (Err fault) h = tt

either : {A B : Type 0} (R : A → B → Type 0) (b : Bool) (r s : Result A RecordFault) (t u : Result B RecordFault)
    → BothRead R r t → BothRead R s u → BothRead R (if b then r else s) (if b then t else u)
either R true r s t u h k = h
either R false r s t u h k = k

labels_alike : (label : Option (List ℕ)) (m n : ℕ) (ls ks : List Labelled) → map (λ (l : Labelled). l.name) ls ≡ map (λ (l : Labelled). l.name) ks
    → map (λ (l : Labelled). l.name) (with_label label m ls) ≡ map (λ (l : Labelled). l.name) (with_label label n ks)
labels_alike None m n ls ks h = h
labels_alike (Some label) m n ls ks h =
    same_labels_with label m n ls ks h

asks_lead : (a b : Line) (label : Option (List ℕ)) → LeadOn (Asks a label) (Asks b label)
asks_lead a b label p q m n alike = record {
  labels = with_label label n alike.labels;
  same = ap (λ (r : Progress). progress_after r (Asks b label) n) alike.same;
  names = labels_alike label m n p.labels alike.labels alike.names;
}

said_leads : (said : Said) → LeadOn said said
said_leads (Settings s) p q m n alike =
    record { labels = alike.labels; same = ap (λ (r : Progress). progress_after r (Settings s) n) alike.same; names = alike.names }
said_leads (Slot length) p q m n alike =
    record { labels = alike.labels; same = ap (λ (r : Progress). progress_after r (Slot length) n) alike.same; names = alike.names }
said_leads (Name task name) p q m n alike =
    record { labels = alike.labels; same = ap (λ (r : Progress). progress_after r (Name task name) n) alike.same; names = alike.names }
said_leads (Asks line label) p q m n alike = asks_lead line line label p q m n alike

alike_behind : (a b : Said) (p : Progress) (c : Course) → LeadOn a b → AreAlike p c.progress → AreAlike (progress_after p a 0) (course_behind c b).progress
alike_behind a (Settings s) p c lead alike = lead p c.progress 0 0 alike
alike_behind a (Slot length) p c lead alike = lead p c.progress 0 0 alike
alike_behind a (Name task name) p c lead alike = lead p c.progress 0 0 alike
alike_behind a (Asks line label) p c lead alike = lead p c.progress 0 (given c.desk line) alike

-- a label is known in both or in none
known : (ls ks : List Labelled) (label : List ℕ) → map (λ (l : Labelled). l.name) ls ≡ map (λ (l : Labelled). l.name) ks
    → is_some (number_of_label ls label) ≡ is_some (number_of_label ks label)
known [] [] label h = refl
known [] (k ∷ ks) label h = let bad : [] ≡ k.name ∷ map (λ (l : Labelled). l.name) ks = h in cc
known (l ∷ ls) [] label h = let bad : l.name ∷ map (λ (l : Labelled). l.name) ls ≡ [] = h in cc
known (l ∷ ls) (k ∷ ks) label h =
    let both : l.name ∷ map (λ (l : Labelled). l.name) ls ≡ k.name ∷ map (λ (l : Labelled). l.name) ks = h in
    let name : l.name ≡ k.name = cc in
    let rest : map (λ (l : Labelled). l.name) ls ≡ map (λ (l : Labelled). l.name) ks = cc in
    subst
    (λ (n : List ℕ). is_some (if bytes_eq l.name label then Some l.number else number_of_label ls label) ≡ is_some (if bytes_eq n label then Some k.number else number_of_label ks label))
    name (by (bytes_eq l.name label) (known ls ks label rest))
  where
    by : (b : Bool) → is_some (number_of_label ls label) ≡ is_some (number_of_label ks label)
        → is_some (if b then Some l.number else number_of_label ls label) ≡ is_some (if b then Some k.number else number_of_label ks label)
    by true more = refl
    by false more = more

both_known : (o q : Option ℕ) (fault : RecordFault) → is_some o ≡ is_some q → BothRead Anyhow (ok_or o fault) (ok_or q fault)
both_known None q fault h = tt
both_known (Some n) None fault h = let bad : true ≡ false = h in cc
both_known (Some n) (Some m) fault h = tt

ids_read : (ls ks : List Labelled) (fields : List (List ℕ)) (place : ℕ) → map (λ (l : Labelled). l.name) ls ≡ map (λ (l : Labelled). l.name) ks
    → BothRead Anyhow (id_at ls fields place) (id_at ks fields place)
unfolding id_at
ids_read ls ks fields place h =
    either Anyhow (is_letter_first (field fields place)) (ok_or (number_of_label ls (field fields place)) (fault_at place LabelUnknown)) (number_or NoNumber fields place)
    (ok_or (number_of_label ks (field fields place)) (fault_at place LabelUnknown)) (number_or NoNumber fields place)
    (both_known (number_of_label ls (field fields place)) (number_of_label ks (field fields place)) (fault_at place LabelUnknown) (known ls ks (field fields place) h))
    (both_same Anyhow (number_or NoNumber fields place) (λ n. tt))

label_read : (ls ks : List Labelled) (fields : List (List ℕ)) (place : ℕ) → map (λ (l : Labelled). l.name) ls ≡ map (λ (l : Labelled). l.name) ks
    → label_at ls fields place ≡ label_at ks fields place
unfolding label_at
label_read ls ks fields place h =
    ap
    (λ (b : Bool). if not (is_text (field fields place)) then Err (fault_at place NoLabel) else if b then Err (fault_at place LabelTaken) else Ok (field fields place))
    (known ls ks (field fields place) h)

strike_read : (p : Progress) (ks : List Labelled) (fields : List (List ℕ)) (place : ℕ) → map (λ (l : Labelled). l.name) p.labels ≡ map (λ (l : Labelled). l.name) ks
    → BothRead Anyhow (strike_at p fields place) (strike_at (record p { labels = ks }) fields place)
unfolding strike_at
strike_read p ks fields place h =
    both_then Anyhow Anyhow (of_length fields (place + 2) (place + 2) (Fields (place + 2))) (of_length fields (place + 2) (place + 2) (Fields (place + 2))) _ _
    (both_same Anyhow (of_length fields (place + 2) (place + 2) (Fields (place + 2))) (λ a. tt))
    (λ a b same.
    both_then Anyhow Anyhow (id_at p.labels fields (place + 1)) (id_at ks fields (place + 1)) (λ id. Ok (Strike id)) (λ id. Ok (Strike id))
    (ids_read p.labels ks fields (place + 1) h) (λ m n any. tt))

alter_read : (p : Progress) (ks : List Labelled) (fields : List (List ℕ)) (place : ℕ) → map (λ (l : Labelled). l.name) p.labels ≡ map (λ (l : Labelled). l.name) ks
    → BothRead Anyhow (alter_at p fields place) (alter_at (record p { labels = ks }) fields place)
unfolding alter_at
alter_read p ks fields place h =
    both_then Anyhow Anyhow (id_at p.labels fields (place + 1)) (id_at ks fields (place + 1)) _ _ (ids_read p.labels ks fields (place + 1) h)
    (λ m n any.
    both_then Anyhow Anyhow (event_at p.names NoEvent fields (place + 2)) (event_at p.names NoEvent fields (place + 2)) (λ event. Ok (Alter m event)) (λ event. Ok (Alter n event))
    (both_same Anyhow (event_at p.names NoEvent fields (place + 2)) (λ e. tt)) (λ e f same. tt))

given_read : (ls ks : List Labelled) (fields : List (List ℕ)) (place : ℕ) → map (λ (l : Labelled). l.name) ls ≡ map (λ (l : Labelled). l.name) ks
    → given_label_at ls fields place ≡ given_label_at ks fields place
unfolding given_label_at
given_read ls ks fields place h =
    ap
    (λ (b : Bool). if not (is_text (field fields place)) then Err (fault_at place NoLabel) else if b then Ok (field fields place) else Err (fault_at place LabelUnknown))
    (known ls ks (field fields place) h)

first_read : (p : Progress) (ks : List Labelled) (strict : Bool) (fields : List (List ℕ)) (place : ℕ)
    → map (λ (l : Labelled). l.name) p.labels ≡ map (λ (l : Labelled). l.name) ks
    → BothRead LeadOn (first_labelled_at p strict fields place) (first_labelled_at (record p { labels = ks }) strict fields place)
unfolding first_labelled_at
first_read p ks strict fields place h =
    rw (sym (label_read p.labels ks fields (place + 1) h))
    (both_same LeadOn _ said_leads)

again_read : (p : Progress) (ks : List Labelled) (strict : Bool) (fields : List (List ℕ)) (place : ℕ)
    → map (λ (l : Labelled). l.name) p.labels ≡ map (λ (l : Labelled). l.name) ks
    → BothRead LeadOn (labelled_again_at p strict fields place) (labelled_again_at (record p { labels = ks }) strict fields place)
unfolding labelled_again_at
again_read p ks strict fields place h =
    rw (sym (given_read p.labels ks fields (place + 1) h))
    (both_same LeadOn _ said_leads)

labelled_read : (p : Progress) (ks : List Labelled) (strict : Bool) (fields : List (List ℕ)) (place : ℕ)
    → map (λ (l : Labelled). l.name) p.labels ≡ map (λ (l : Labelled). l.name) ks
    → BothRead LeadOn (labelled_at p strict fields place) (labelled_at (record p { labels = ks }) strict fields place)
unfolding labelled_at
labelled_read p ks strict fields place h =
    either LeadOn (is_word fields (place + 2) (codes "again")) _ _ _ _ (again_read p ks strict fields place h) (first_read p ks strict fields place h)

edit_read : (p : Progress) (ks : List Labelled) (strict : Bool) (none : Reason) (fields : List (List ℕ)) (place : ℕ)
    → map (λ (l : Labelled). l.name) p.labels ≡ map (λ (l : Labelled). l.name) ks
    → BothRead LeadOn (edit_at p strict none fields place) (edit_at (record p { labels = ks }) strict none fields place)
unfolding edit_at
edit_read p ks strict none fields place h =
    either LeadOn (is_word fields place (codes "strike")) _ _ _ _
    (both_then Anyhow LeadOn (strike_at p fields place) (strike_at (record p { labels = ks }) fields place) (λ change. Ok (asked strict change)) (λ change. Ok (asked strict change))
    (strike_read p ks fields place h) (λ a b any. asks_lead (Edit a strict) (Edit b strict) None))
    (either LeadOn (is_word fields place (codes "alter")) _ _ _ _
    (both_then Anyhow LeadOn (alter_at p fields place) (alter_at (record p { labels = ks }) fields place) (λ change. Ok (asked strict change)) (λ change. Ok (asked strict change))
    (alter_read p ks fields place h) (λ a b any. asks_lead (Edit a strict) (Edit b strict) None))
    (either LeadOn (is_word fields place (codes "label")) _ _ _ _ (labelled_read p ks strict fields place h)
    (both_same LeadOn (event_at p.names none fields place >>= λ event. Ok (asked strict (Insert event))) said_leads)))

slot_same : (p : Progress) (ks : List Labelled) (fields : List (List ℕ)) → slot_at p fields ≡ slot_at (record p { labels = ks }) fields
unfolding slot_at
slot_same p ks fields = refl

record_read : (p : Progress) (ks : List Labelled) (fields : List (List ℕ)) → map (λ (l : Labelled). l.name) p.labels ≡ map (λ (l : Labelled). l.name) ks
    → BothRead LeadOn (record_at p fields) (record_at (record p { labels = ks }) fields)
unfolding record_at
record_read p ks fields h =
    either LeadOn (is_word fields 0 (codes "step")) _ _ _ _ (both_same LeadOn (steps_at fields) said_leads)
    (either LeadOn (is_word fields 0 (codes "strict")) _ _ _ _ (edit_read p ks true NoChange fields 1 h)
    (either LeadOn (is_word fields 0 (codes "settings")) _ _ _ _ tt
    (either LeadOn (is_word fields 0 (codes "slot")) _ _ _ _ (rw (sym (slot_same p ks fields)) (both_same LeadOn (slot_at p fields) said_leads))
    (either LeadOn (is_word fields 0 (codes "name")) _ _ _ _ (both_same LeadOn (name_at p.names fields) said_leads)
    (edit_read p ks false NoRecord fields 0 h)))))

-- a record is read after both
read_alike : (p q : Progress) (fields : List (List ℕ)) → AreAlike p q → BothRead LeadOn (said_at p fields) (said_at q fields)
read_alike p q fields alike =
    subst (λ (r : Progress). BothRead LeadOn (said_at p fields) (said_at r fields)) (sym alike.same)
    (either LeadOn p.opened (record_at p fields) (opening_at fields) (record_at (record p { labels = alike.labels }) fields) (opening_at fields)
    (record_read p alike.labels fields alike.names) (both_same LeadOn (opening_at fields) said_leads))

-- where no record has a fault, none ends the script of version 2
ended_good : (b : Bool) (p : Progress) (number end : ℕ) (q : Progress) (origin : Origin) → faults_at_end p number end (if b then None else Some (fault_at 0 NoSettings)) ≡ []
    → (ended q origin (if b then None else Some (fault_at 0 NoSettings))).bad ≡ None
ended_good true p number end q origin h = refl
ended_good false p number end q origin h =
    let bad : fault_shown p number (record { line = end; fields = [] }) (fault_at 0 NoSettings) ∷ [] ≡ [] = h in cc

good_from : (column : ℕ → ℕ) (rows : List Row) (p : Progress) (c : Course) (number n end : ℕ) → AreAlike p c.progress → faults_from p number end rows ≡ []
    → (plain_from column c n end rows).bad ≡ None
good_from column [] p c number n end alike h =
    subst
    (λ (b : Bool). (ended c.progress (origin_at column n end) (if b then None else Some (fault_at 0 NoSettings))).bad ≡ None)
    (sym (ap (λ (r : Progress). r.opened) alike.same)) (ended_good p.opened p number end c.progress (origin_at column n end) h)
good_from column (row ∷ rows) p c number n end alike h =
    by (said_at p row.fields) (said_at c.progress row.fields) (read_alike p c.progress row.fields alike) h
    (λ q next more. good_from column rows q next (number + 1) (n + 1) end more)
  where
    by : (r s : Result Said RecordFault) → BothRead LeadOn r s → faults_next (λ q. faults_from q (number + 1) end rows) p number row r ≡ []
        → ((q : Progress) (next : Course) → AreAlike q next.progress → faults_from q (number + 1) end rows ≡ [] → (plain_from column next (n + 1) end rows).bad ≡ None)
        → (plain_next (λ next. plain_from column next (n + 1) end rows) c (origin_at column n row.line) s).bad ≡ None
    by (Ok a) (Ok b) lead h more = more (progress_after p a 0) (course_behind c b) (alike_behind a b p c lead alike) h
    by (Ok a) (Err fault) lead h more = absurd lead
    by (Err fault) s lead h more = let bad : fault_shown p number row fault ∷ faults_from p (number + 1) end rows ≡ [] = h in cc

-- the heading is the first of them
good_behind : (column : ℕ → ℕ) (fault : Option RecordFault) (line end : ℕ) (fields : List (List ℕ)) (rows : List Row)
    → with_fault at_heading (bad_if 1 line fault) fields (faults_from at_heading (number_after fault rows) end (rows_after fault rows)) ≡ []
    → (plain_behind column fault line end rows).bad ≡ None
good_behind column None line end fields rows h = good_from column rows at_heading start 2 2 end (record { labels = []; same = refl; names = refl }) h
good_behind column (Some fault) line end fields rows h =
    let bad : fault_shown at_heading 1 (record { line = line; fields = fields }) fault
    ∷ faults_from at_heading (number_after (Some fault) rows) end (rows_after (Some fault) rows) ≡ [] = h in cc

good_of : (column : ℕ → ℕ) (rs : List Row) (end : ℕ) (p : Plain) → plain_of column end rs ≡ Some p → faults_of end rs ≡ [] → p.bad ≡ None
good_of column [] end p e h = let bad : None ≡ Some p = e in cc
good_of column (row ∷ rows) end p e h =
    let fault = heading_fault row.fields in
    by (is_plan_heading row.fields) (plain_behind column fault row.line end rows) (good_behind column fault row.line end row.fields rows h) e
  where
    by : (b : Bool) (made : Plain) → made.bad ≡ None → (if b then Some (with_heading column row.line made) else None) ≡ Some p → p.bad ≡ None
    by true made good e = let same : with_heading column row.line made ≡ p = cc in subst (λ (q : Plain). q.bad ≡ None) same good
    by false made good e = let bad : None ≡ Some p = e in cc

no_fault : (origins : List Origin) (t : Option FaultTold) → IsSameFault 1 origins None t → t ≡ None
no_fault origins None h = refl
no_fault origins (Some f) h = absurd h

pub of_memory : (t : Option FaultTold) (fault : Fault) → t ≡ None → Stops t fault → fault ≡ why.NoMemory
of_memory t (why.BadRecord number) none h = let bad : None ≡ Some number = (rw none at h) in cc
of_memory t why.NoMemory none h = refl
of_memory t why.Read none h = absurd h
of_memory t why.Write none h = absurd h
of_memory t why.TooLong none h = absurd h
of_memory t (why.BadRange range) none h = absurd h
of_memory t why.NoViewer none h = absurd h
of_memory t why.Unread none h = absurd h
of_memory t why.GateShut none h = absurd h

-- Use: where a check finds no fault, nothing but running out of memory stops the script of version 2.
pub only_memory : (bytes : List ℕ) (p : Plain) (fault : Fault) → plain bytes ≡ Some p → faults (rows bytes) ≡ [] → Stops (told (table_text p.records)).rest.fault fault
    → fault ≡ why.NoMemory
only_memory bytes p fault e h stops =
    let good = good_of (first_column bytes) (rows bytes).rows (rows bytes).end p e h in
    let same = (scripts_are_retold bytes p e).fault in
    of_memory (told (table_text p.records)).rest.fault fault
    (no_fault p.origins (told (table_text p.records)).rest.fault (subst (λ (b : Option _). IsSameFault 1 p.origins b (told (table_text p.records)).rest.fault) good same)) stops

-- a script to which one of version 2 belongs is a plan
of_plan : (column : ℕ → ℕ) (rs : List Row) (end : ℕ) (p : Plain) → plain_of column end rs ≡ Some p → is_plan_heading (first_fields rs) ≡ true
of_plan column [] end p e = let bad : None ≡ Some p = e in cc
of_plan column (row ∷ rows) end p e = by (is_plan_heading row.fields) (plain_behind column (heading_fault row.fields) row.line end rows) refl e
  where
    by : (b : Bool) (made : Plain) → is_plan_heading row.fields ≡ b → (if b then Some (with_heading column row.line made) else None) ≡ Some p
        → is_plan_heading row.fields ≡ true
    by true made is e = is
    by false made is e = let bad : None ≡ Some p = e in cc

-- where it has no message, it has no fault
none_of : (t : Telling) (shown : List FaultShown) → is_empty (plan_messages t shown) ≡ true → shown ≡ []
none_of t [] h = refl
none_of t (f ∷ fs) h = let bad : false ≡ true = h in cc

pub none_kind : (file : List ℕ) (hints : Bool) (kind : Option _) (messages : List FaultMessage) → is_empty (kind_or file hints kind messages) ≡ true
    → is_empty messages ≡ true
none_kind file hints None messages h = h
none_kind file hints (Some kind) messages h = let bad : false ≡ true = h in cc

none_told : (file : List ℕ) (hints : Bool) (script : List ℕ) → is_plan (rows script) ≡ true → is_empty (script_messages file hints script) ≡ true
    → faults (rows script) ≡ []
none_told file hints script plan h =
    let t = telling_of file hints script in
    none_of t (faults (rows script)) (rw plan at (none_kind file hints (file_kind file hints script) (record_messages t) h))

-- why it stops
stopped_with : (script : List ℕ) (p : Plain) (text : List ℕ) (fault : Fault) → plain script ≡ Some p → faults (rows script) ≡ []
    → text ≡ table_text p.records → IsStoppedWith text fault → IsStopped script fault
stopped_with script p text fault e none is (inl (too, long)) = inr (too, rw e (rw is at long))
stopped_with script p text fault e none is (inr stops) =
    inl (only_memory script p fault e none (subst (λ (t : List ℕ). Stops (told t).rest.fault fault) is stops))

-- Use: what stops a plan in which a check found no fault.
pub plan_stopped : {A : Type 0} (answer : Result A Fault) (file : List ℕ) (hints : Bool) (script : List ℕ) (records : ℕ) (found : Found) (s : PlainScript)
    → MakesPlain (Some s) (plain script) → Finds records (script_messages file hints script) found → is_clean found ≡ true
    → IfErr answer (IsStoppedWith s.text.items) → IfErr answer (IsStopped script)
plan_stopped (Ok a) file hints script records found s made finds clean h = tt
plan_stopped (Err fault) file hints script records found s made finds clean h = by (plain script) refl made
  where
    by : (q : Option Plain) → plain script ≡ q → MakesPlain (Some s) q → IsStopped script fault
    by None e made = absurd made
    by (Some p) e made =
        stopped_with script p s.text.items fault e
        (none_told file hints script (of_plan (first_column script) (rows script).rows (rows script).end p e) (sym finds.clean ∙ clean)) made.text h
