-- What a session's own desk shows.
use Rattle.std.proofs.Common.{◌≡◌, ◌∙◌, ℕ, List, [], None, Some, length, ap, sym, subst}
use Rattle.std.specs.Prelude.{Vec}
use Rattle.std.specs.declared.alloc.Global.{Global}
use Rattle.pf_commands.proofs.Answering.{shown_meaning}
use Rattle.pf_commands.specs.Meaning.{End, Meaning, Outside, report_meaning, text_unless}
use Rattle.pf_desk.specs.Desk.{Seen, Shown, StandsForHistory}
use Rattle.pf_formats.specs.Report.{report_text}
use Rattle.pf_replies.proofs.Courses.{seen_there}
use Rattle.pf_replies.specs.Course.{ScriptCourse, course_at, seen_at}
use Rattle.pf_session_lines.specs.declared.showing.Showing.TheVariants.{Text, Bad}
use Rattle.pf_session_views.specs.Held.{ShowsMeaning}
use Rattle.pf_session_views.specs.Shown.{range_text}
use Rattle.pf_vocabulary.specs.Options.Formats.{range_fault}
use Rattle.pf_vocabulary.specs.declared.fault.range_fault.RangeFault.{RangeFault}
use Rattle.pf_vocabulary.specs.declared.names.titles.Titles.{Titles}
use Rattle.pf_vocabulary.specs.declared.options.format.Format.{Format}

-- Use: the report of a desk.
pub report_shown : (format : Format) (titles : Titles) (desk : Shown) (seen : Seen) (text : Vec ℕ Global) → range_fault format desk.state.now ≡ None
    → StandsForHistory desk.history seen → seen ≡ record { version = length desk.history; state = desk.state; rows = desk.rows; denials = desk.denials }
    → text.items ≡ report_text format desk.every seen titles [] → ShowsMeaning format desk.state.now (report_meaning format titles [] (course_at desk)) (Text text)
report_shown format titles desk seen text fits stands shows is =
    let meant = shown_meaning format titles [] (course_at desk) fits in (
      ap (λ (m : Meaning). m.end) meant,
      is ∙ ap (λ (s : Seen). report_text format desk.every s titles []) (seen_there desk seen stands shows) ∙ sym (ap (λ (m : Meaning). m.text) meant),
    )

-- Use: its range can't be shown.
pub range_shown : (format : Format) (titles : Titles) (c : ScriptCourse) (fault : RangeFault) (words : Vec ℕ Global) → range_fault format c.state.now ≡ Some fault
    → words.items ≡ range_text format c.state.now fault → ShowsMeaning format c.state.now (report_meaning format titles [] c) (Bad words)
range_shown format titles c fault words at is =
    (fault, ap (λ o. (text_unless o (report_text format c.every (seen_at c) titles [])).end) at, is)
