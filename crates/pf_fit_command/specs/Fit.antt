-- What `pfair fit` answers to a script.
use Rattle.std.specs.Prelude.{ℕ, ◌≡◌, ◌+◌, Bool, true, false, Option, Some, List, length}
use Rattle.pf_script_run.specs.Carried.{asked_in}
use Rattle.pf_desk.specs.Desk.{Seen, StandsForHistory}
use Rattle.pf_desk.specs.declared.entry.Entry.{Entry}
use Rattle.pf_vocabulary.specs.Fault.Answers.{IsQuiet}
use Rattle.pf_vocabulary.specs.declared.fault.answer.Answer.{Answer}
use Rattle.pf_vocabulary.specs.declared.fault.status.Status.{Status}
use Rattle.pf_vocabulary.specs.declared.fault.status.Status.TheVariants.{Done, FailedOn}
use Rattle.pf_fit_text.specs.Json.{Lists, fit_json}
use Rattle.pf_fit_text.specs.Text.{fit_text}
use Rattle.pf_fit_text.specs.declared.carried.Carried.{Carried}
use Rattle.pf_vocabulary.specs.declared.options.fit_format.FitFormat.{FitFormat}
use Rattle.pf_vocabulary.specs.declared.options.fit_format.FitFormat.TheVariants.{Text, Json}
use Rattle.pf_vocabulary.specs.declared.names.titles.Titles.{Titles}
use Rattle.pf_plain_script.specs.declared.origin.Origin.{Origin}
use Rattle.pf_script_results.specs.Recount.{Recounted, recounted}
use Rattle.pf_run.specs.Computed.{run_of}
use Rattle.pf_run_notes.specs.Notes.{lists_text}
use Rattle.pf_script_desk.specs.Asked.{commands_in}
use Rattle.pf_script.specs.Told.{Told, told}
use Rattle.pf_script.specs.declared.record.ScriptSettings.{ScriptSettings}
use Rattle.pf_tally.specs.Misses.{misses_of}
use Rattle.pf_verdict.specs.Findings.{findings_of, grounds_of}
use Rattle.pf_verdict.specs.Verdict.{verdict_of}
use Rattle.pf_verdict.specs.declared.verdict.Verdict.{Verdict}
use Rattle.pf_verdict.specs.declared.verdict.Verdict.TheVariants.{Fits, FitsSoFar, DoesNotFit}
use Rattle.pf_fit_command.specs.Items.{denied_array, missed_array, refused_array}
use Rattle.pf_fit_command.specs.Joins.{joins_asked}

-- of how many refused records lines are told, and whether all are told
abbrev pub most_lines : FitFormat → ℕ
most_lines Text = 20
most_lines Json = 0

abbrev pub tells_all : FitFormat → Bool
tells_all Text = false
tells_all Json = true

-- the numbers of what was seen
abbrev pub carried_of : Seen → Carried
carried_of seen = record {
  base = seen.state.plan.settings.base;
  cap = seen.state.plan.settings.cap;
  processors = seen.state.plan.settings.processors;
  now = seen.state.now;
  commands = seen.version;
  events = length seen.state.plan.events;
}

-- the lists of what was seen, whose records came to this
abbrev pub arrays_of : Seen → Recounted → Lists
arrays_of seen r = record {
  denied = denied_array r.made seen.state.plan (run_of seen.state.plan seen.state.now) seen.denials;
  missed = missed_array r.made seen.state.plan (misses_of seen.state.plan (run_of seen.state.plan seen.state.now));
  refused = refused_array r.refused;
}

-- the answer of what was seen at the end of the script of this file, whose records came to this
abbrev pub fit_of : FitFormat → List ℕ → Bool → Titles → Seen → Recounted → List ℕ
fit_of Text file hints titles seen r =
    fit_text (carried_of seen) (joins_asked seen) titles (findings_of seen r.refusals.commands)
    (lists_text file hints titles.names r.made r.refusals seen)
fit_of Json file hints titles seen r = fit_json (carried_of seen) titles (findings_of seen r.refusals.commands) (arrays_of seen r)

-- the status of a verdict
abbrev pub status_of_verdict : Verdict → Status
status_of_verdict Fits = Done
status_of_verdict FitsSoFar = FailedOn
status_of_verdict DoesNotFit = FailedOn

-- what was seen stands for a history of a desk with the settings of a script that tells this, which was asked the script's
-- commands, one after another
pub record IsSeenBehind (t : Told) (seen : Seen) : Type 0 where
  pub opening : ScriptSettings
  pub opens : t.opening ≡ Some opening
  pub settings : seen.state.plan.settings ≡ opening.settings
  pub history : List Entry
  pub asked : asked_in history ≡ commands_in t.rest.lines
  pub stands : StandsForHistory history seen

-- the answer to a script of these bytes, in the file of this name: it was carried out, and the answer is that of what was seen at
-- its end and of what its records came to; with hints, where they are asked for, and origins where it belongs to a plan
pub record FitMade (format : FitFormat) (file : List ℕ) (hints : Bool) (origins : Option (List Origin)) (titles : Titles) (script : List ℕ) (answer : Answer) : Type 0 where
  pub seen : Seen
  pub behind : IsSeenBehind (told script) seen
  pub came : Recounted
  pub counted : Some came ≡ recounted file hints titles.names origins (most_lines format) (tells_all format) script
  pub text : answer.text.items ≡ fit_of format file hints titles seen came
  pub ends : IsQuiet (status_of_verdict (verdict_of (grounds_of seen came.refusals.commands))) answer.ending
