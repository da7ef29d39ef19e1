-- All that a run tells has no `<`.
use Rattle.std.proofs.Common.{◌≡◌, ◌&&◌, ℕ, Bool, true, false, List, Option, None, Some, refl}
use Rattle.std.specs.Option.{option_map_or}
use Rattle.std.specs.Prelude.{if◌then◌else◌, codes}
use Rattle.serde_json.specs.Data.{Data, Members, null, member, no_members}
use Rattle.pf_admit.specs.Refusals.{denial_name}
use Rattle.pf_admit.specs.declared.denial.Denial.{Denial}
use Rattle.pf_admit.specs.declared.denial.Denial.TheVariants.{OverCapacity, NotInside, TooEarly, Released}
use Rattle.pf_desk.specs.Desk.{Seen}
use Rattle.pf_desk.specs.declared.reply.Fault.{Fault}
use Rattle.pf_desk.specs.declared.reply.Fault.TheVariants.{BadEdit, AtHorizon, WouldDeny}
use Rattle.pf_vocabulary.specs.Names.Slots.{unit_word}
use Rattle.pf_vocabulary.specs.declared.names.slot_length.SlotLength.{SlotLength}
use Rattle.pf_vocabulary.specs.declared.names.titles.Titles.{Titles}
use Rattle.pf_vocabulary.specs.declared.names.unit.Unit.{Unit}
use Rattle.pf_vocabulary.specs.declared.names.unit.Unit.TheVariants.{Nanosecond, Microsecond, Millisecond, Second}
use Rattle.pf_order.specs.declared.pick.Pick.{Pick}
use Rattle.pf_run.specs.Computed.{run_of}
use Rattle.pf_run.specs.declared.denied.Denied.{Denied}
use Rattle.pf_run_notes.specs.Refusals.{fault_name}
use Rattle.pf_scenario.specs.Refusals.{edit_fault_name}
use Rattle.pf_scenario.specs.Event.{slot_of}
use Rattle.pf_scenario.specs.declared.event.Event.{Event}
use Rattle.pf_scenario.specs.declared.event.Event.TheVariants.{Join, Leave, Delay, Limit}
use Rattle.pf_scenario.specs.declared.event.Numbered.{Numbered}
use Rattle.pf_scenario.specs.declared.fault.EditFault.{EditFault}
use Rattle.pf_scenario.specs.declared.fault.EditFault.TheVariants.{EventNotFound, SlotOutOfRange, TaskOutOfRange, EarlyOutOfRange, DelayOutOfRange, CountOutOfRange, BadWeight, JoinTwice, LeaveTwice, TooManyEvents, NumbersSpent}
use Rattle.pf_tally.specs.Figures.{figures_of}
use Rattle.pf_tally.specs.Lags.{lags_of}
use Rattle.pf_tally.specs.Misses.{misses_of}
use Rattle.pf_tally.specs.declared.extremes.Extremes.{Extremes}
use Rattle.pf_tally.specs.declared.figures.Figures.{Figures}
use Rattle.pf_tally.specs.declared.lag.Lag.{Lag}
use Rattle.pf_tally.specs.declared.miss.Miss.{Miss}
use Rattle.pf_report.specs.Json.{array_data, count_data, denial_data, lag_data, miss_data, name_data, names_before, sitter_data, slot_data, slot_member}
use Rattle.pf_full.specs.Full.{Parts, event_data, event_object, figures_data, full_data, greatest_data, kind_text, least_data, numbers_of, object_of, refusal_data, settings_data}
use Rattle.pf_full.specs.declared.refusal.Refusal.{Refusal}
use Rattle.pf_script_laws.specs.InertPages.Page.{AreTexts, DataIsInert, is_inert}
use Rattle.pf_script_laws.proofs.InertPagesLemmas.Names.{names_inert}
use Rattle.pf_script_laws.proofs.InertPagesLemmas.Texts.{both}
use Rattle.pf_script_laws.proofs.InertPagesLemmas.Values.{array_inert, members_are_inert, text_inert, value_is_inert}

denial_inert : (denied : Denied) → value_is_inert (denial_data denied) ≡ true
denial_inert denied = both (is_inert (denial_name denied.denial)) true (named denied.denial) refl
  where
    named : (denial : Denial) → is_inert (denial_name denial) ≡ true
    named OverCapacity = refl
    named NotInside = refl
    named TooEarly = refl
    named Released = refl

event_inert : (x : Numbered) → value_is_inert (event_data x) ≡ true
event_inert x = of x.event
  where
    of : (e : Event) → value_is_inert (event_object x.id (slot_of e) (kind_text e) (numbers_of e)) ≡ true
    of (Join slot task cost period early) = refl
    of (Leave slot task) = refl
    of (Delay slot task by) = refl
    of (Limit slot count) = refl

figures_inert : (f : Figures) → value_is_inert (figures_data f) ≡ true
figures_inert f =
    both (value_is_inert (greatest_data f.response)) (value_is_inert (least_data f.response) && true) (greatest f.response)
    (both (value_is_inert (least_data f.response)) true (least f.response) refl)
  where
    greatest : (response : Option Extremes) → value_is_inert (greatest_data response) ≡ true
    greatest None = refl
    greatest (Some extremes) = refl

    least : (response : Option Extremes) → value_is_inert (least_data response) ≡ true
    least None = refl
    least (Some extremes) = refl

miss_inert : (miss : Miss) → value_is_inert (miss_data miss) ≡ true
miss_inert miss = both (value_is_inert (option_map_or count_data miss.ran null)) true (of miss.ran) refl
  where
    of : (ran : Option ℕ) → value_is_inert (option_map_or count_data ran null) ≡ true
    of None = refl
    of (Some slot) = refl

refusal_inert : (refusal : Refusal) → value_is_inert (refusal_data refusal) ≡ true
refusal_inert refusal = both (is_inert (fault_name refusal.fault)) true (of refusal.fault) refl
  where
    edit : (fault : EditFault) → is_inert (edit_fault_name fault) ≡ true
    edit EventNotFound = refl
    edit SlotOutOfRange = refl
    edit TaskOutOfRange = refl
    edit EarlyOutOfRange = refl
    edit DelayOutOfRange = refl
    edit CountOutOfRange = refl
    edit (BadWeight fault) = refl
    edit JoinTwice = refl
    edit LeaveTwice = refl
    edit TooManyEvents = refl
    edit NumbersSpent = refl

    of : (fault : Fault) → is_inert (fault_name fault) ≡ true
    of (BadEdit fault) = edit fault
    of AtHorizon = refl
    of (WouldDeny id denial) = refl

sitter_inert : (sitter : Option Pick) → value_is_inert (sitter_data sitter) ≡ true
sitter_inert None = refl
sitter_inert (Some pick) = refl

record AreInertMembers (ms : Members) : Type 0 where
  are : members_are_inert ms ≡ true

-- a member before others
next : {ms : Members} (key : List ℕ) (d : Data) → is_inert key ≡ true → value_is_inert d ≡ true → AreInertMembers ms → AreInertMembers (member key d ms)
next {ms} key d known inert more = record {
  are = both (is_inert key) (value_is_inert d && members_are_inert ms) known (both (value_is_inert d) (members_are_inert ms) inert more.are);
}

names_before_inert : {more : Members} (titles : Titles) → AreTexts titles.names → AreInertMembers more → AreInertMembers (names_before titles more)
names_before_inert {more} titles texts inert = by titles.is_plan
  where
    by : (is_plan : Bool) → AreInertMembers (if is_plan then member (codes "names") (array_data name_data titles.names) more else more)
    by true = next (codes "names") (array_data name_data titles.names) refl (names_inert titles.names texts) inert
    by false = inert

slot_inert : (titles : Titles) → AreInertMembers (slot_member titles)
slot_inert titles = by titles.is_plan
  where
    of_unit : (unit : Unit) → is_inert (unit_word unit) ≡ true
    of_unit Nanosecond = refl
    of_unit Microsecond = refl
    of_unit Millisecond = refl
    of_unit Second = refl

    of : (slot : Option SlotLength) → value_is_inert (slot_data slot) ≡ true
    of None = refl
    of (Some slot) = both (is_inert (unit_word slot.unit)) true (of_unit slot.unit) refl

    by : (is_plan : Bool) → AreInertMembers (if is_plan then member (codes "slot") (slot_data titles.slot) no_members else no_members)
    by true = next (codes "slot") (slot_data titles.slot) refl (of titles.slot) (record { are = refl })
    by false = record { are = refl }

-- the arrays and the settings of the object
record AreInert (p : Parts) : Type 0 where
  denials : value_is_inert p.denials ≡ true
  events : value_is_inert p.events ≡ true
  figures : value_is_inert p.figures ≡ true
  lags : value_is_inert p.lags ≡ true
  misses : value_is_inert p.misses ≡ true
  refusals : value_is_inert p.refusals ≡ true
  schedule : value_is_inert p.schedule ≡ true
  settings : value_is_inert p.settings ≡ true

object_inert : (titles : Titles) (p : Parts) → AreTexts titles.names → AreInert p → value_is_inert (object_of titles p) ≡ true
object_inert titles p texts inert =
    let settings = next (codes "settings") p.settings refl inert.settings (slot_inert titles) in
    let schedule = next (codes "schedule") p.schedule refl inert.schedule settings in
    let refusals = next (codes "refusals") p.refusals refl inert.refusals schedule in
    let names = names_before_inert titles texts (next (codes "now") (count_data p.now) refl refl refusals) in
    let misses = next (codes "misses") p.misses refl inert.misses names in
    let lags = next (codes "lags") p.lags refl inert.lags misses in
    let figures = next (codes "figures") p.figures refl inert.figures lags in
    let events = next (codes "events") p.events refl inert.events figures in
    (next (codes "denials") p.denials refl inert.denials (next (codes "entries") (count_data p.entries) refl refl events)).are

-- what the object has of a run
abbrev parts : ℕ → List Refusal → Seen → Parts
parts every refusals seen = record {
  denials = array_data denial_data seen.denials;
  entries = seen.version;
  events = array_data event_data seen.state.plan.events;
  figures = array_data figures_data (figures_of seen.state.plan (run_of seen.state.plan seen.state.now) seen.rows);
  lags = array_data lag_data (lags_of seen.state.plan (run_of seen.state.plan seen.state.now));
  misses = array_data miss_data (misses_of seen.state.plan (run_of seen.state.plan seen.state.now));
  now = seen.state.now;
  refusals = array_data refusal_data refusals;
  schedule = array_data (array_data sitter_data) seen.rows;
  settings = settings_data every seen.state.plan.settings;
}

parts_inert : (every : ℕ) (refusals : List Refusal) (seen : Seen) → AreInert (parts every refusals seen)
parts_inert every refusals seen = record {
  denials = array_inert denial_data denial_inert seen.denials;
  events = array_inert event_data event_inert seen.state.plan.events;
  figures = array_inert figures_data figures_inert (figures_of seen.state.plan (run_of seen.state.plan seen.state.now) seen.rows);
  lags = array_inert lag_data (λ (lag : Lag). refl) (lags_of seen.state.plan (run_of seen.state.plan seen.state.now));
  misses = array_inert miss_data miss_inert (misses_of seen.state.plan (run_of seen.state.plan seen.state.now));
  refusals = array_inert refusal_data refusal_inert refusals;
  schedule = array_inert (array_data sitter_data) (array_inert sitter_data sitter_inert) seen.rows;
  settings = refl;
}

pub data_is_inert : DataIsInert
unfolding full_data
data_is_inert every titles refusals seen texts =
    text_inert (full_data every titles refusals seen) (object_inert titles (parts every refusals seen) texts (parts_inert every refusals seen))
