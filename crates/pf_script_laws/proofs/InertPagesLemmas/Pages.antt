-- What a script means in the format `html`.
use Rattle.std.proofs.Common.{◌≡◌, ℕ, Bool, true, false, nat_lt, List, [], Option, None, Some, Result, Ok, Err, length, refl}
use Rattle.std.proofs.lemmas.List.Elements.{All-nil}
use Rattle.std.specs.Prelude.{if◌then◌else◌}
use Rattle.pf_vocabulary.specs.declared.fault.range_fault.RangeFault.{RangeFault}
use Rattle.pf_commands.specs.Report.{report_text}
use Rattle.pf_full.specs.Full.{full_text}
use Rattle.pf_full.specs.declared.refusal.Refusal.{Refusal}
use Rattle.pf_vocabulary.specs.Names.Text.{is_text}
use Rattle.pf_vocabulary.specs.declared.names.named.Named.{Named}
use Rattle.pf_vocabulary.specs.declared.names.titles.Titles.{Titles}
use Rattle.pf_vocabulary.specs.Options.Formats.{range_fault}
use Rattle.pf_vocabulary.specs.declared.options.format.Format.TheVariants.{Html}
use Rattle.pf_plain_script.specs.declared.origin.Origin.{Origin}
use Rattle.pf_version_laws.specs.Titles.{TitlesAreTold}
use Rattle.pf_script.specs.Told.{told}
use Rattle.pf_stream.specs.Reading.{longest_script}
use Rattle.pf_replies.specs.Course.{ScriptCourse, outcome_told, seen_at}
use Rattle.pf_commands.specs.Meaning.{TooLong, ended_meaning, script_meaning, text_unless, told_meaning}
use Rattle.pf_commands.specs.Refusals.{refusals_for}
use Rattle.pf_script_laws.specs.InertPages.Page.{AreTexts, IsInertPage, MeansPage, PagesAreInert}
use Rattle.pf_script_laws.proofs.InertPagesLemmas.Names.{given_texts}
use Rattle.pf_script_laws.proofs.InertPagesLemmas.Whole.{data_is_inert}

report_page : (titles : Titles) (refusals : List Refusal) (c : ScriptCourse) → AreTexts titles.names → IsInertPage (report_text Html c.every (seen_at c) titles refusals)
unfolding report_text
report_page titles refusals c texts = record {
  run_data = full_text c.every titles refusals (seen_at c);
  text = refl;
  inert = data_is_inert c.every titles refusals (seen_at c) texts;
}

unless_page : (fault : Option RangeFault) (text : List ℕ) → IsInertPage text → MeansPage (text_unless fault text)
unless_page None text page = page
unless_page (Some fault) text page = refl

ended_page : (titles : Titles) (refusals : List Refusal) (outcome : Result ScriptCourse ℕ) → AreTexts titles.names
    → MeansPage (ended_meaning Html titles refusals outcome)
ended_page titles refusals (Ok c) texts =
    unless_page (range_fault Html c.state.now) (report_text Html c.every (seen_at c) titles refusals) (report_page titles refusals c texts)
ended_page titles refusals (Err number) texts = refl

pub page : (titles : Titles) (origins : Option (List Origin)) (script : List ℕ) → AreTexts titles.names
    → MeansPage (script_meaning Html titles origins script)
unfolding script_meaning
page titles origins script texts = by (nat_lt longest_script (length script))
  where
    by : (long : Bool)
        → MeansPage (if long then record { text = []; end = TooLong } else told_meaning Html titles (refusals_for Html origins script) (told script))
    by true = refl
    by false = ended_page titles (refusals_for Html origins script) (outcome_told (told script)) texts

pub pages_are_inert : TitlesAreTold → PagesAreInert
pages_are_inert are_told = record {
  untitled = λ script. page _ None script (All-nil (λ (n : Named). is_text n.name ≡ true));
  titled = λ script p of. page p.titles (Some p.origins) _ (given_texts p.titles.names (are_told script p of).names);
}
