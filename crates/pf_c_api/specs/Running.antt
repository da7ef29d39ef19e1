-- What records do to the desk at a handle.
use Rattle.std.specs.Prelude.{⊤, ℕ, ◌≡◌, ◌⊎◌, ◌==◌, if◌then◌else◌, Option, None, Some, option_map, Result, Ok, Err, List, take}
use Rattle.pf_desk.specs.Desk.{Shown, IsDesk, AnswersAll}
use Rattle.pf_vocabulary.specs.declared.names.titles.Titles.{Titles}
use Rattle.pf_vocabulary.specs.Names.Titled.{untitled}
use Rattle.pf_plain_script.specs.Plain.{Plain, plain}
use Rattle.pf_script.specs.declared.fault.BadRecord.{BadRecord}
use Rattle.pf_script.specs.declared.fault.ScriptFault.{ScriptFault}
use Rattle.pf_script.specs.declared.fault.ScriptFault.TheVariants as fault
use Rattle.pf_script.specs.declared.record.LineTold.{LineTold}
use Rattle.pf_script.specs.declared.record.ScriptSettings.{ScriptSettings}
use Rattle.pf_script.specs.Told.{FaultTold, LinesTold, Told, told}
use Rattle.pf_script_desk.specs.Asked.{commands_in}
use Rattle.pf_text.specs.Page.{table_text}
use Rattle.pf_script.specs.declared.plan.fault.BadRecord.{BadRecord as BadPlan}
use Rattle.pf_c_api.specs.declared.held.Held.{Held}
use Rattle.pf_c_api.specs.declared.raw_bad_record.RawBadRecord.{RawBadRecord}
use Rattle.pf_c_forms.specs.declared.status.TheConstants.{OK, ALREADY_OPEN, NO_MEMORY, BAD_RECORD}
use Rattle.pf_c_api.specs.Commanded.{IsNewDesk}

abbrev pub raw_bad : BadRecord → RawBadRecord
raw_bad bad = record { number = bad.number; line = bad.line; field = bad.fault.field }

-- the same of a plan
abbrev pub raw_bad_plan : BadPlan → RawBadRecord
raw_bad_plan bad = record { number = bad.number; line = bad.line; field = bad.fault.field }

-- the desk answered the caller's commands that a text tells, all before its first bad record, which is the answer where
-- there is one; or memory was refused, and it answered the first of them
abbrev pub CarriesOut : {A : Type 0} → Result A ScriptFault → ℕ → LinesTold → Shown → Shown → Type 0
CarriesOut (Ok done) caller told before after = (told.fault ≡ None) × AnswersAll caller (commands_in told.lines) before after
CarriesOut (Err (fault.Bad bad)) caller told before after =
    (option_map (λ (f : FaultTold). f.bad) told.fault ≡ Some bad) × AnswersAll caller (commands_in told.lines) before after
CarriesOut (Err (fault.Missing bad)) caller told before after =
    (option_map (λ (f : FaultTold). f.bad) told.fault ≡ Some bad) × AnswersAll caller (commands_in told.lines) before after
CarriesOut (Err fault.Memory) caller told before after = (k : ℕ) × AnswersAll caller (take k (commands_in told.lines)) before after

-- the place of a bad record
abbrev pub place_of : Option FaultTold → Option RawBadRecord
place_of fault = option_map (λ (f : FaultTold). raw_bad f.bad) fault

-- the status tells whether there is a bad record, and C has its place
abbrev pub TellsPlace : Option RawBadRecord → ℕ → RawBadRecord → RawBadRecord → Type 0
TellsPlace None status was bad = (status ≡ OK) × (bad ≡ was)
TellsPlace (Some place) status was bad = (status ≡ BAD_RECORD) × (bad ≡ place)

-- the desk answered the caller's commands that these lines ask for, all before the first bad record, and C has the place of that;
-- or memory was refused, and it answered the first of them
abbrev pub Runs : ℕ → List LineTold → Option RawBadRecord → ℕ → RawBadRecord → RawBadRecord → Shown → Shown → Type 0
Runs caller lines place status was bad before after =
    ((status ≡ NO_MEMORY) × (bad ≡ was) × ((k : ℕ) × AnswersAll caller (take k (commands_in lines)) before after))
    ⊎ (TellsPlace place status was bad × AnswersAll caller (commands_in lines) before after)

-- the same of what a text tells
abbrev pub RunsTold : ℕ → LinesTold → ℕ → RawBadRecord → RawBadRecord → Shown → Shown → Type 0
RunsTold caller told status was bad before after = Runs caller told.lines (place_of told.fault) status was bad before after

-- what a script tells of a desk: its settings, what it then asks for, the place of its first bad record, which ends it, and its titles
pub record ScriptTold : Type 0 where
  pub opening : Option ScriptSettings
  pub lines : List LineTold
  pub bad : Option RawBadRecord
  pub titles : Titles

-- a script that tells this, with these titles
abbrev pub told_with : Told → Titles → ScriptTold
told_with t titles = record { opening = t.opening; lines = t.rest.lines; bad = place_of t.rest.fault; titles = titles }

-- a plan: what the script of version 2 tells that belongs to it, but the place of its own bad record
abbrev pub told_plan : Told → Option BadPlan → Titles → ScriptTold
told_plan t bad titles = record (told_with t titles) { bad = option_map raw_bad_plan bad }

abbrev pub told_by : Option Plain → Told → ScriptTold
told_by None t = told_with t untitled
told_by (Some p) t = told_plan (told (table_text p.records)) p.bad p.titles

-- what a script of these bytes tells
abbrev pub script_told : List ℕ → ScriptTold
script_told bytes = told_by (plain bytes) (told bytes)

-- the place that C has of a plan with this bad record, where it had that of the record that stands for it
abbrev pub place_told : ℕ → Option BadPlan → RawBadRecord → RawBadRecord
place_told status None place = place
place_told status (Some bad) place = if status == BAD_RECORD then raw_bad_plan bad else place

-- a record of a plan is bad exactly where one of the script of version 2 is
abbrev pub AreBothBad : Option BadPlan → Option FaultTold → Type 0
AreBothBad None None = ⊤
AreBothBad None (Some fault) = ⊥
AreBothBad (Some bad) None = ⊥
AreBothBad (Some bad) (Some fault) = ⊤

-- a desk with these settings that answered the caller's commands, and the script's titles; or none, as memory was refused
abbrev pub OpensLines : ℕ → ScriptSettings → ScriptTold → ℕ → RawBadRecord → RawBadRecord → Option Held → Type 0
OpensLines caller s told status was bad None = (status ≡ NO_MEMORY) × (bad ≡ was)
OpensLines caller s told status was bad (Some held) =
    ((opened : Shown) × IsNewDesk s.settings s.every opened × Runs caller told.lines told.bad status was bad opened held.desk)
    × IsDesk held.desk × (held.titles ≡ told.titles)

-- the same where the settings are told; else there is no desk
abbrev pub OpensTold : ℕ → Option ScriptSettings → ScriptTold → ℕ → RawBadRecord → RawBadRecord → Option Held → Type 0
OpensTold caller None told status was bad after =
    (after ≡ None) × (((status ≡ NO_MEMORY) × (bad ≡ was)) ⊎ ((status ≡ BAD_RECORD) × TellsPlace told.bad status was bad))
OpensTold caller (Some s) told status was bad after = OpensLines caller s told status was bad after

-- a handle that was closed gets the desk of a script that tells this; an open one is as before
abbrev pub OpensScript : ℕ → ScriptTold → Option Held → ℕ → RawBadRecord → RawBadRecord → Option Held → Type 0
OpensScript caller told (Some held) status was bad after = (status ≡ ALREADY_OPEN) × (after ≡ Some held) × (bad ≡ was)
OpensScript caller told None status was bad after = OpensTold caller told.opening told status was bad after
