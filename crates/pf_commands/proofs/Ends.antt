-- How a script ends, by its first fault.
use Rattle.std.proofs.Common.{◌≡◌, ◌≤◌, ℕ, true, false, List, [], ◌∷◌, length, Option, Some, None, refl, subst, inl, inr, sym, rules, tests}
use Rattle.std.specs.Prelude.{IsSome, nat_lt}
use Rattle.pf_desk.specs.declared.command.Command.{Command}
use Rattle.pf_script.specs.declared.record.Record.{Record}
use Rattle.pf_script.specs.declared.record.Record.TheVariants.{Heading, Settings, Asks}
use Rattle.pf_script.specs.declared.record.RecordTold.{RecordTold}
use Rattle.pf_script.specs.declared.record.ScriptSettings.{ScriptSettings}
use Rattle.pf_script_desk.specs.Asked.{commands_in}
use Rattle.pf_script.specs.Places.{record_lines}
use Rattle.pf_script.specs.Script.{script_records}
use Rattle.pf_script.specs.Told.{FaultTold, Reading, Good, Bad, Missing, faults, faults_in, first_of, readings, settings_in, settings_or, told}
use Rattle.pf_script.proofs.Opening.{AreUnopened, beginning}
use Rattle.pf_formats.specs.Refusal.{Refusal}
use Rattle.pf_vocabulary.specs.declared.names.titles.Titles.{Titles}
use Rattle.pf_plain_script.specs.declared.origin.Origin.{Origin}
use Rattle.pf_vocabulary.specs.declared.options.format.Format.{Format}
use Rattle.pf_vocabulary.specs.declared.fault.range_fault.RangeFault.{RangeFault}
use Rattle.pf_vocabulary.specs.Options.Formats.{range_fault}
use Rattle.pf_commands.specs.Laws.{RunsEndAtTheFirstFault, EndsAt, EndsWhole}
use Rattle.pf_formats.specs.Report.{report_text}
use Rattle.pf_replies.specs.Course.{ScriptCourse, course_behind, fault_number, opening_course, outcome_of, seen_at}
use Rattle.pf_commands.specs.Meaning.{Meaning, ended_meaning, report_meaning, script_meaning, text_unless, told_meaning}
use Rattle.pf_commands.specs.Refusals.{refusals_for}

pub short_meaning : (format : Format) (titles : Titles) (origins : Option (List Origin)) (bytes : List ℕ) → length bytes ≤ 16777216
    → script_meaning format titles origins bytes ≡ told_meaning format titles (refusals_for format origins bytes) (told bytes)
unfolding script_meaning
short_meaning format titles origins bytes short = let fits : nat_lt 16777216 (length bytes) ≡ false = search (rules, tests) in rw fits refl

-- the report ends well, or its range can't be shown
report_end : (format : Format) (titles : Titles) (refusals : List Refusal) (c : ScriptCourse) → EndsWhole format (report_meaning format titles refusals c).end
report_end format titles refusals c = by (range_fault format c.state.now) refl
  where
    by : (fault : Option RangeFault) → range_fault format c.state.now ≡ fault
        → EndsWhole format (text_unless fault (report_text format c.every (seen_at c) titles refusals)).end
    by None fits = inl refl
    by (Some fault) is = inr (c.state.now, fault, refl, is)

-- a script without a fault has settings
good_then : (one : RecordTold) (rest : List Reading) (said : Record) → (AreUnopened rest → faults_in rest ≡ [] → IsSome (settings_in rest))
    → AreUnopened (Good (record one { says = said }) ∷ rest) → faults_in rest ≡ [] → IsSome (settings_or said (settings_in rest))
good_then one rest Heading more unopened none = more unopened none
good_then one rest (Settings s) more unopened none = refl
good_then one rest (Asks line) more unopened none = absurd unopened

has_settings : (rs : List Reading) → AreUnopened rs → faults_in rs ≡ [] → IsSome (settings_in rs)
has_settings [] unopened none = absurd unopened
has_settings (Bad fault ∷ rest) unopened none = cc
has_settings (Missing fault ∷ rest) unopened none = cc
has_settings (Good one ∷ rest) unopened none = good_then one rest one.says (has_settings rest) unopened none

ends_at : (format : Format) (titles : Titles) (refusals : List Refusal) (opening : Option ScriptSettings) (commands : List Command) (fs : List FaultTold) → (fs ≡ [] → IsSome opening)
    → EndsAt format fs (ended_meaning format titles refusals (outcome_of opening commands (fault_number (first_of fs)))).end
ends_at format titles refusals None commands [] some = let never : false ≡ true = some refl in cc
ends_at format titles refusals (Some s) commands [] some = report_end format titles refusals (course_behind (opening_course s.every s.settings) commands)
ends_at format titles refusals None commands (fault ∷ fs) some = refl
ends_at format titles refusals (Some s) commands (fault ∷ fs) some = refl

-- Use: a run ends at the first fault that a check finds.
pub runs_end_at_first_fault : RunsEndAtTheFirstFault
runs_end_at_first_fault format titles origins bytes short =
    subst (λ (m : Meaning). EndsAt format (faults bytes) m.end) (sym (short_meaning format titles origins bytes short))
    (ends_at format titles (refusals_for format origins bytes) (settings_in (readings bytes)) (commands_in (told bytes).rest.lines) (faults bytes)
    (has_settings (readings bytes) (beginning 1 (record_lines bytes) (script_records bytes))))
