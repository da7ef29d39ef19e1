-- What holds of the course of each session, and of the changes that it may take back.
use Rattle.std.proofs.Common.{◌≡◌, ◌∙◌, ◌^◌, ◌<◌, ◌≤◌, ◌==◌, ℕ, zero, suc, Bool, true, false, List, [], ◌∷◌, ◌++◌, Option, None, Some, Ok, All, map, take, filter, find, replicate, refl, sym, subst, arith}
use Rattle.std.specs.Prelude.{⊤, if◌then◌else◌, is_some, nat_lt, not}
use Rattle.std.specs.List.{slice_get}
use Rattle.std.specs.Option.{option_and_then, option_map, option_to_list}
use Rattle.std.proofs.lemmas.List.Elements.{All-append, All-cons, All-head, All-nil, All-tail}
use Rattle.pf_desk.specs.Machine.{State, edit_reply, reply_to, state_after}
use Rattle.pf_desk.specs.declared.command.Command.{Command}
use Rattle.pf_desk.specs.declared.command.Command.TheVariants as command
use Rattle.pf_desk.specs.declared.reply.Reply.{Reply}
use Rattle.pf_desk.specs.declared.reply.Reply.TheVariants.{Edited, Stepped, Refused}
use Rattle.pf_vocabulary.specs.Names.Names.{with_name}
use Rattle.pf_vocabulary.specs.Names.Text.{is_text}
use Rattle.pf_vocabulary.specs.declared.names.named.Named.{Named}
use Rattle.pf_plain_script.specs.Carried.{state_behind}
use Rattle.pf_plain_script.specs.Plain.{Course, course_behind, desk_behind, start}
use Rattle.pf_version_laws.proofs.Saying.{AreShort, CanBeWritten, IsShortChange, IsShortLine, said_written}
use Rattle.pf_version_laws.proofs.Whole.{HasNumbering, IsGood, good_behind, good_start}
use Rattle.pf_run.specs.declared.denied.Denied.{Denied}
use Rattle.pf_run.specs.RunRows.{denials_in}
use Rattle.pf_scenario.specs.Edit.{edit_fault}
use Rattle.pf_scenario.specs.Scenario.{Plan, number_of_change, plan_after, with_number}
use Rattle.pf_scenario.specs.declared.change.Change.{Change}
use Rattle.pf_scenario.specs.declared.change.Change.TheVariants.{Insert, Alter, Strike}
use Rattle.pf_scenario.specs.declared.event.Event.{Event}
use Rattle.pf_scenario.specs.declared.event.Numbered.{Numbered}
use Rattle.pf_scenario.specs.declared.fault.EditFault.{EditFault}
use Rattle.pf_script_desk.specs.Asked.{commands_of}
use Rattle.pf_script.proofs.PlanLemmas.GivenLabels.{all_labels_with}
use Rattle.pf_script.specs.Plan.Labels.{with_label}
use Rattle.pf_script.specs.declared.line.Line.{Line}
use Rattle.pf_script.specs.declared.line.Line.TheVariants.{Edit, Steps}
use Rattle.pf_session.specs.Made.{event_before, left_behind, made_behind_undo, made_of, new_number, number_made, renumbered, reversed_behind, taking_back, undone_behind}
use Rattle.pf_session.specs.Session.{made_behind_line, made_behind_said, newest_of, undone_behind_line, undone_behind_said}
use Rattle.pf_session.specs.declared.made.Made.{Made}
use Rattle.pf_session.specs.declared.made.Made.TheVariants.{Inserted, Altered, Struck}
use Rattle.pf_script.specs.Plan.Parsing.{said_at}
use Rattle.pf_script.specs.declared.plan.labels.Labelled.{Labelled}
use Rattle.pf_script.specs.declared.plan.said.Said.{Said}
use Rattle.pf_script.specs.declared.plan.said.Said.TheVariants.{Settings, Slot, Name, Asks}
use Rattle.pf_session_laws.proofs.Fields.{AreTexts, GivesText}
use Rattle.pf_session_laws.proofs.Records.{said_text}

-- the numbers of events that are held are short enough for fields
abbrev pub ShortEvents : List Numbered → Type 0
ShortEvents [] = ⊤
ShortEvents (x ∷ xs) = AreShort x.event × ShortEvents xs

abbrev pub HasShort : Option State → Type 0
HasShort None = ⊤
HasShort (Some st) = ShortEvents st.plan.events

-- and so are those of a change that was made
abbrev pub IsShortMade : Made → Type 0
IsShortMade (Inserted id) = id < 10 ^ 15
IsShortMade (Altered id was) = (id < 10 ^ 15) × AreShort was
IsShortMade (Struck id was) = (id < 10 ^ 15) × AreShort was

abbrev pub ShortMade : List Made → Type 0
ShortMade [] = ⊤
ShortMade (m ∷ ms) = IsShortMade m × ShortMade ms

-- a course that a session may have: there is a desk where the settings came
pub record IsSound (c : Course) : Type 0 where
  pub good : IsGood c
  pub texts : AreTexts c.progress
  pub desk : c.progress.opened ≡ is_some c.desk
  pub events : HasShort c.desk

-- names and labels
names_texts : (names : List Named) (task : ℕ) (name : List ℕ) → is_text name ≡ true → All (λ n. is_text n.name ≡ true) names
    → All (λ n. is_text n.name ≡ true) (with_name names task name)
names_texts [] task name text all =
    All-cons (λ (n : Named). is_text n.name ≡ true) (record { task = task; name = name }) [] text (All-nil (λ (n : Named). is_text n.name ≡ true))
names_texts (n ∷ names) task name text all =
    by (nat_lt task n.task) (names_texts names task name text (All-tail (λ (n : Named). is_text n.name ≡ true) n names all))
  where
    by : (b : Bool) → All (λ n. is_text n.name ≡ true) (with_name names task name)
        → All (λ n. is_text n.name ≡ true) (if b then record { task = task; name = name } ∷ n ∷ names else n ∷ with_name names task name)
    by true more = All-cons (λ (n : Named). is_text n.name ≡ true) (record { task = task; name = name }) (n ∷ names) text all
    by false more = All-cons (λ (n : Named). is_text n.name ≡ true) n (with_name names task name) (All-head (λ (n : Named). is_text n.name ≡ true) n names all) more

labels_texts : (line : Line) (label : Option (List ℕ)) (number : ℕ) (labels : List Labelled) → GivesText (Asks line label) → All (λ l. is_text l.name ≡ true) labels
    → All (λ l. is_text l.name ≡ true) (with_label label number labels)
labels_texts line None number labels text all = all
labels_texts line (Some label) number labels text all =
    all_labels_with (λ (l : Labelled). is_text l.name ≡ true) label number labels text (λ l text. text) all

-- events
events_more : (xs : List Numbered) (x : Numbered) → ShortEvents xs → AreShort x.event → ShortEvents (xs ++ x ∷ [])
events_more [] x short one = (one, tt)
events_more (y ∷ ys) x short one = (short.0, events_more ys x short.1 one)

events_altered : (xs : List Numbered) (id : ℕ) (event : Event) → ShortEvents xs → AreShort event
    → ShortEvents (map (λ x. if x.id == id then with_number id event else x) xs)
events_altered [] id event short one = tt
events_altered (x ∷ xs) id event short one = (by (x.id == id), events_altered xs id event short.1 one)
  where
    by : (b : Bool) → AreShort (if b then with_number id event else x).event
    by true = one
    by false = short.0

events_struck : (xs : List Numbered) (id : ℕ) → ShortEvents xs → ShortEvents (filter (λ x. not (x.id == id)) xs)
events_struck [] id short = tt
events_struck (x ∷ xs) id short = by (not (x.id == id)) (events_struck xs id short.1)
  where
    by : (b : Bool) → ShortEvents (filter (λ x. not (x.id == id)) xs)
        → ShortEvents (if b then x ∷ filter (λ x. not (x.id == id)) xs else filter (λ x. not (x.id == id)) xs)
    by true more = (short.0, more)
    by false more = more

events_changed : (s : Plan) (change : Change) → ShortEvents s.events → IsShortChange change → ShortEvents (plan_after s change).events
events_changed s (Insert event) short one = events_more s.events (with_number s.next event) short one
events_changed s (Alter id event) short one = events_altered s.events id event short one.fields
events_changed s (Strike id) short one = events_struck s.events id short

abbrev IsShortCommand : Command → Type 0
IsShortCommand (command.Edit change strict) = IsShortChange change
IsShortCommand command.Step = ⊤

abbrev AreShortCommands : List Command → Type 0
AreShortCommands [] = ⊤
AreShortCommands (c ∷ cs) = IsShortCommand c × AreShortCommands cs

after_one : (st : State) (c : Command) (reply : Reply) → ShortEvents st.plan.events → IsShortCommand c → ShortEvents (state_after st c reply).plan.events
after_one st c (Refused fault) short one = short
after_one st (command.Edit change strict) (Edited id) short one = events_changed st.plan change short one
after_one st command.Step (Edited id) short one = short
after_one st (command.Edit change strict) (Stepped slot row) short one = events_changed st.plan change short one
after_one st command.Step (Stepped slot row) short one = short

after_all : (cs : List Command) (st : State) → ShortEvents st.plan.events → AreShortCommands cs → ShortEvents (state_behind st cs).plan.events
after_all [] st short all = short
after_all (c ∷ cs) st short all = after_all cs (state_after st c (reply_to st c)) (after_one st c (reply_to st c) short all.0) all.1

steps_short : (count : ℕ) → AreShortCommands (replicate count command.Step)
steps_short zero = tt
steps_short (suc n) = (tt, steps_short n)

commands_short : (line : Line) → IsShortLine line → AreShortCommands (commands_of line)
commands_short (Edit change strict) short = (short, tt)
commands_short (Steps count) short = steps_short count

desk_kept : (desk : Option State) (line : Line) → IsShortLine line → HasShort desk → HasShort (desk_behind desk line)
desk_kept None line one short = tt
desk_kept (Some st) line one short = after_all (commands_of line) st short (commands_short line one)

desk_stays : (desk : Option State) (line : Line) → is_some (desk_behind desk line) ≡ is_some desk
desk_stays None line = refl
desk_stays (Some st) line = refl

pub sound_start : IsSound start
sound_start = record {
  good = good_start;
  texts = record { names = All-nil (λ (n : Named). is_text n.name ≡ true); labels = All-nil (λ (l : Labelled). is_text l.name ≡ true) };
  desk = refl;
  events = tt;
}

-- after a record
behind : (said : Said) (c : Course) → IsSound c → CanBeWritten c.progress.opened c.progress.names said → GivesText said → IsSound (course_behind c said)
behind (Settings s) c sound can text = record {
  good = good_behind (Settings s) c sound.good can;
  texts = record { names = sound.texts.names; labels = sound.texts.labels };
  desk = refl;
  events = tt;
}
behind (Slot length) c sound can text = record {
  good = good_behind (Slot length) c sound.good can;
  texts = record { names = sound.texts.names; labels = sound.texts.labels };
  desk = sound.desk;
  events = sound.events;
}
behind (Name task name) c sound can text = record {
  good = good_behind (Name task name) c sound.good can;
  texts = record { names = names_texts c.progress.names task name text sound.texts.names; labels = sound.texts.labels };
  desk = sound.desk;
  events = sound.events;
}
behind (Asks line label) c sound can text = record {
  good = good_behind (Asks line label) c sound.good can;
  texts = record { names = sound.texts.names; labels = labels_texts line label _ c.progress.labels text sound.texts.labels };
  desk = sound.desk ∙ sym (desk_stays c.desk line);
  events = desk_kept c.desk line can.1 sound.events;
}

pub sound_behind : (c : Course) (fields : List (List ℕ)) (said : Said) → IsSound c → said_at c.progress fields ≡ Ok said → IsSound (course_behind c said)
sound_behind c fields said sound e =
    behind said c sound (said_written c.progress fields said sound.good.progress e) (said_text c.progress fields said sound.texts e)

-- the settings have come after each record
came : (said : Said) (c : Course) → CanBeWritten c.progress.opened c.progress.names said → (course_behind c said).progress.opened ≡ true
came (Settings s) c can = refl
came (Slot length) c can = can.0
came (Name task name) c can = can.0
came (Asks line label) c can = can.0

pub opened_behind : (c : Course) (fields : List (List ℕ)) (said : Said) → IsSound c → said_at c.progress fields ≡ Ok said
    → (course_behind c said).progress.opened ≡ true
opened_behind c fields said sound e = came said c (said_written c.progress fields said sound.good.progress e)

-- changes that were made
made_more : (made more : List Made) → ShortMade made → ShortMade more → ShortMade (made ++ more)
made_more [] more short others = others
made_more (m ∷ ms) more short others = (short.0, made_more ms more short.1 others)

abbrev IsShortEvent : Option Event → Type 0
IsShortEvent None = ⊤
IsShortEvent (Some event) = AreShort event

held_short : (xs : List Numbered) (id : ℕ) → ShortEvents xs → IsShortEvent (option_map (λ x. x.event) (find (λ x. x.id == id) xs))
held_short [] id short = tt
held_short (x ∷ xs) id short = by (x.id == id) (held_short xs id short.1)
  where
    by : (b : Bool) → IsShortEvent (option_map (λ x. x.event) (find (λ x. x.id == id) xs))
        → IsShortEvent (option_map (λ x. x.event) (if b then Some x else find (λ x. x.id == id) xs))
    by true more = short.0
    by false more = more

before_short : (s : Plan) (change : Change) → ShortEvents s.events → IsShortEvent (event_before s change)
before_short s (Insert event) short = tt
before_short s (Alter id event) short = held_short s.events id short
before_short s (Strike id) short = held_short s.events id short

was_altered : (id : ℕ) (was : Option Event) → IsShortEvent was → id < 10 ^ 15 → ShortMade (option_to_list (option_map (λ w. Altered id w) was))
was_altered id None short small = tt
was_altered id (Some w) short small = ((small, short), tt)

was_struck : (id : ℕ) (was : Option Event) → IsShortEvent was → id < 10 ^ 15 → ShortMade (option_to_list (option_map (λ w. Struck id w) was))
was_struck id None short small = tt
was_struck id (Some w) short small = ((small, short), tt)

made_short : (change : Change) (was : Option Event) (id : ℕ) → IsShortChange change → IsShortEvent was → id < 10 ^ 15 → ShortMade (option_to_list (made_of change was id))
made_short (Insert event) was id one short small = (small, tt)
made_short (Alter number event) was id one short small = was_altered number was short one.number
made_short (Strike number) was id one short small = was_struck number was short one

-- the number of the event of a change
abbrev IsShortNumber : Option ℕ → Type 0
IsShortNumber None = ⊤
IsShortNumber (Some id) = id < 10 ^ 15

change_number : (s : Plan) (change : Change) → s.next ≤ 1048576 → IsShortChange change → number_of_change s change < 10 ^ 15
change_number s (Insert event) few one = omega (arith, few)
change_number s (Alter id event) few one = one.number
change_number s (Strike id) few one = one

reply_number : (st : State) (change : Change) (strict : Bool) (fault : Option EditFault) (denied : Option Denied) → number_of_change st.plan change < 10 ^ 15
    → slice_get (denials_in (plan_after st.plan change) st.now) 0 ≡ denied → IsShortNumber (number_made (edit_reply st change strict fault))
reply_number st change strict (Some fault) denied small is = tt
reply_number st change true None None small is = rw is small
reply_number st change true None (Some d) small is = rw is tt
reply_number st change false None denied small is = small

number_short : (st : State) (change : Change) (strict : Bool) → st.plan.next ≤ 1048576 → IsShortChange change
    → IsShortNumber (number_made (reply_to st (command.Edit change strict)))
number_short st change strict few one =
    reply_number st change strict (edit_fault st.plan change) (slice_get (denials_in (plan_after st.plan change) st.now) 0) (change_number st.plan change few one) refl

one_made : (s : Plan) (change : Change) (number : Option ℕ) → ShortEvents s.events → IsShortChange change → IsShortNumber number
    → ShortMade (option_to_list (option_and_then (made_of change (event_before s change)) number))
one_made s change None short one small = tt
one_made s change (Some id) short one small = made_short change (event_before s change) id one (before_short s change short) small

made_line : (desk : Option State) (line : Line) (made : List Made) (c : Course) → c.desk ≡ desk → IsSound c → IsShortLine line → ShortMade made
    → ShortMade (made_behind_line desk line made)
made_line None line made c is sound one short = short
made_line (Some st) (Steps count) made c is sound one short = short
made_line (Some st) (Edit change strict) made c is sound one short =
    let events : ShortEvents st.plan.events = subst HasShort is sound.events in
    let few : st.plan.next ≤ 1048576 = subst (λ (d : Option State). HasNumbering d) is sound.good.desk in
    made_more made _ short (one_made st.plan change (number_made (reply_to st (command.Edit change strict))) events one (number_short st change strict few one))

made_said : (said : Said) (c : Course) (made : List Made) → IsSound c → CanBeWritten c.progress.opened c.progress.names said → ShortMade made
    → ShortMade (made_behind_said c.desk said made)
made_said (Settings s) c made sound can short = short
made_said (Slot length) c made sound can short = short
made_said (Name task name) c made sound can short = short
made_said (Asks line label) c made sound can short = made_line c.desk line made c refl sound can.1 short

pub made_behind_record : (c : Course) (fields : List (List ℕ)) (said : Said) (made : List Made) → IsSound c → said_at c.progress fields ≡ Ok said → ShortMade made
    → ShortMade (made_behind_said c.desk said made)
made_behind_record c fields said made sound e short =
    made_said said c made sound (said_written c.progress fields said sound.good.progress e) short

-- the last one
get_short : (made : List Made) (i : ℕ) (m : Made) → ShortMade made → slice_get made i ≡ Some m → IsShortMade m
get_short [] i m short e = let bad : None ≡ Some m = e in cc
get_short (x ∷ xs) zero m short e = let same : x ≡ m = cc in subst IsShortMade same short.0
get_short (x ∷ xs) (suc i) m short e = get_short xs i m short.1 e

pub newest_short : (made : List Made) (m : Made) → ShortMade made → newest_of made ≡ Some m → IsShortMade m
newest_short made m short e = get_short made _ m short e

pub back_short : (m : Made) → IsShortMade m → IsShortChange (taking_back m)
back_short (Inserted id) short = short
back_short (Altered id was) short = record { number = short.0; fields = short.1 }
back_short (Struck id was) short = short.1

-- after an undo
take_short : (n : ℕ) (made : List Made) → ShortMade made → ShortMade (take n made)
take_short zero made short = tt
take_short (suc n) [] short = tt
take_short (suc n) (m ∷ ms) short = (short.0, take_short n ms short.1)

anew_short : (old new id : ℕ) → new < 10 ^ 15 → id < 10 ^ 15 → new_number old new id < 10 ^ 15
anew_short old new id small short = by (id == old)
  where
    by : (b : Bool) → (if b then new else id) < 10 ^ 15
    by true = small
    by false = short

one_renumbered : (old new : ℕ) (m : Made) → new < 10 ^ 15 → IsShortMade m → IsShortMade (renumbered old new m)
one_renumbered old new (Inserted id) small short = anew_short old new id small short
one_renumbered old new (Altered id was) small short = (anew_short old new id small short.0, short.1)
one_renumbered old new (Struck id was) small short = (anew_short old new id small short.0, short.1)

all_renumbered : (old new : ℕ) (made : List Made) → new < 10 ^ 15 → ShortMade made → ShortMade (map (renumbered old new) made)
all_renumbered old new [] small short = tt
all_renumbered old new (m ∷ ms) small short = (one_renumbered old new m small short.0, all_renumbered old new ms small short.1)

left_short : (newest : Made) (number : ℕ) (made : List Made) → number < 10 ^ 15 → ShortMade made → ShortMade (left_behind newest number made)
left_short (Inserted id) number made small short = short
left_short (Altered id was) number made small short = short
left_short (Struck id was) number made small short = all_renumbered id number made small short

undo_short : (newest : Made) (number : Option ℕ) (made : List Made) → IsShortNumber number → ShortMade made → ShortMade (made_behind_undo newest number made)
undo_short newest None made small short = short
undo_short newest (Some number) made small short = left_short newest number (take _ made) small (take_short _ made short)

-- Use: what is left to take back after an undo.
pub undone_short : (c : Course) (st : State) (newest : Made) (made : List Made) → c.desk ≡ Some st → IsSound c → IsShortMade newest → ShortMade made
    → ShortMade (made_behind_undo newest (number_made (reply_to st (command.Edit (taking_back newest) false))) made)
undone_short c st newest made is sound one short =
    let few : st.plan.next ≤ 1048576 = subst (λ (d : Option State). HasNumbering d) is sound.good.desk in
    undo_short newest (number_made (reply_to st (command.Edit (taking_back newest) false))) made
    (number_short st (taking_back newest) false few (back_short newest one)) short

-- what there is to make again after a record
undone_line : (desk : Option State) (line : Line) (undone : List Made) → ShortMade undone → ShortMade (undone_behind_line desk line undone)
undone_line None line undone short = short
undone_line (Some st) (Steps count) undone short = short
undone_line (Some st) (Edit change strict) undone short = by (number_made (reply_to st (command.Edit change strict)))
  where
    by : (number : Option ℕ) → ShortMade (undone_behind number undone)
    by None = short
    by (Some number) = tt

pub undone_behind_record : (desk : Option State) (said : Said) (undone : List Made) → ShortMade undone → ShortMade (undone_behind_said desk said undone)
undone_behind_record desk (Settings s) undone short = short
undone_behind_record desk (Slot length) undone short = short
undone_behind_record desk (Name task name) undone short = short
undone_behind_record desk (Asks line label) undone short = undone_line desk line undone short

-- Use: what can be taken back the other way after a change was taken back.
reversed : (s : Plan) (m : Made) (number : Option ℕ) (others : List Made) → ShortEvents s.events → IsShortMade m → IsShortNumber number → ShortMade others
    → ShortMade (reversed_behind s m number others)
reversed s m None others events one small short = short
reversed s m (Some number) others events one small short =
    made_more (left_behind m number others) _ (left_short m number others small short)
    (made_short (taking_back m) (event_before s (taking_back m)) number (back_short m one) (before_short s (taking_back m) events) small)

pub reversed_short : (c : Course) (st : State) (m : Made) (others : List Made) → c.desk ≡ Some st → IsSound c → IsShortMade m → ShortMade others
    → ShortMade (reversed_behind st.plan m (number_made (reply_to st (command.Edit (taking_back m) false))) others)
reversed_short c st m others is sound one short =
    let few : st.plan.next ≤ 1048576 = subst (λ (d : Option State). HasNumbering d) is sound.good.desk in
    reversed st.plan m (number_made (reply_to st (command.Edit (taking_back m) false))) others (subst HasShort is sound.events) one
    (number_short st (taking_back m) false few (back_short m one)) short
