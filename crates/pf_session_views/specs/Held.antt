-- What a session shows: of its own desk, and of its script where records before the end are told of.
use Rattle.std.specs.Prelude.{ℕ, ◌≡◌, Bool, true, false, not, ◌&&◌, List, [], Option, None, Some}
use Rattle.pf_commands.specs.Meaning.{Meaning, Done, Outside, report_meaning}
use Rattle.pf_plain_script.specs.Plain.{titles_of}
use Rattle.pf_replies.specs.Course.{ScriptCourse, seen_at}
use Rattle.pf_session.specs.Session.{SessionState}
use Rattle.pf_session.specs.Showings.{Showings}
use Rattle.pf_session_lines.specs.declared.showing.Showing.{Showing}
use Rattle.pf_session_lines.specs.declared.showing.Showing.TheVariants.{Text, Bad}
use Rattle.pf_session_lines.specs.declared.wanted.Wanted.{Wanted}
use Rattle.pf_session_lines.specs.declared.wanted.Wanted.TheVariants.{Report, Why, Fit}
use Rattle.pf_session_views.specs.Shown.{Shows, ShowsAnswer, range_text}
use Rattle.pf_vocabulary.specs.Options.Formats.{has_replies, tells_refusals}
use Rattle.pf_vocabulary.specs.declared.fault.answer.Answer.{Answer}
use Rattle.pf_vocabulary.specs.declared.fault.range_fault.RangeFault.{RangeFault}
use Rattle.pf_vocabulary.specs.declared.names.titles.Titles.{Titles}
use Rattle.pf_vocabulary.specs.declared.options.format.Format.{Format}
use Rattle.pf_vocabulary.specs.declared.questions.question.Question.{Question}
use Rattle.pf_why_answer.specs.Answer.{IsAnswer, seen_told}

-- a format that tells nothing of the records before the end
abbrev pub is_of_desk : Format → Bool
is_of_desk format = not (has_replies format) && not (tells_refusals format)

-- the text of a meaning in a format, or why that can't be shown of so many slots
abbrev pub ShowsMeaning : Format → ℕ → Meaning → Showing → Type 0
ShowsMeaning format n m (Text text) = (m.end ≡ Done) × (text.items ≡ m.text)
ShowsMeaning format n m (Bad words) = (fault : RangeFault) × (m.end ≡ Outside fault) × (words.items ≡ range_text format n fault)

-- a report in a format that is of a desk or not
abbrev pub ReportShows : Bool → ScriptCourse → Titles → Format → List ℕ → Showing → Type 0
ReportShows true c titles format script showing = ShowsMeaning format c.state.now (report_meaning format titles [] c) showing
ReportShows false c titles format script showing = Shows c.state.now (Report format) script showing

-- the answer to a question about a desk that is so far
abbrev pub WhyShows : ScriptCourse → Titles → Question → Showing → Type 0
WhyShows c titles q showing =
    (answer : Answer) × IsAnswer (seen_told titles.names (seen_at c) q) answer × ShowsAnswer answer.ending.status answer showing

-- of a desk that is so far, with these titles, which carried out this script
abbrev pub DeskShows : ScriptCourse → Titles → Wanted → List ℕ → Showing → Type 0
DeskShows c titles (Report format) script showing = ReportShows (is_of_desk format) c titles format script showing
DeskShows c titles (Why question) script showing = WhyShows c titles question showing
DeskShows c titles Fit script showing = Shows c.state.now Fit script showing

-- before the settings there is no desk
abbrev pub HeldShows : Option ScriptCourse → Titles → Wanted → List ℕ → Showing → Type 0
HeldShows None titles w script showing = Shows 0 w script showing
HeldShows (Some c) titles w script showing = DeskShows c titles w script showing

-- of a session
abbrev pub SessionShows : Showings
SessionShows w s showing = HeldShows s.held (titles_of s.course.progress) w s.script showing
