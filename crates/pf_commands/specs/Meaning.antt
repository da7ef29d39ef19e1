-- What a script means: a text and an end.
use Rattle.std.specs.Prelude.{ℕ, nat_lt, if◌then◌else◌, Option, None, Some, Result, Ok, Err, List, [], ◌++◌, length}
use Rattle.pf_replies.specs.Course.{ScriptCourse, outcome_told, replies_told, seen_at, text_if_replies}
use Rattle.pf_formats.specs.Refusal.{Refusal}
use Rattle.pf_plain_script.specs.declared.origin.Origin.{Origin}
use Rattle.pf_stream.specs.Reading.{longest_script}
use Rattle.pf_script.specs.Told.{Told, told}
use Rattle.pf_vocabulary.specs.declared.names.titles.Titles.{Titles}
use Rattle.pf_vocabulary.specs.declared.options.format.Format.{Format}
use Rattle.pf_vocabulary.specs.declared.fault.range_fault.RangeFault.{RangeFault}
use Rattle.pf_vocabulary.specs.Options.Formats.{range_fault}
use Rattle.pf_formats.specs.Report.{report_text}
use Rattle.pf_commands.specs.Refusals.{refusals_for}

-- how a script ends: well, at a bad record of this number, because it is too long, or because the range of its format
-- can't be shown of the slots stepped
pub data End : Type 0 where
  Done : End
  BadRecord : ℕ → End
  TooLong : End
  Outside : RangeFault → End

pub record Meaning : Type 0 where
  pub text : List ℕ
  pub end : End

-- a text before what follows
abbrev pub text_and_then : List ℕ → Meaning → Meaning
text_and_then text m = record { text = text ++ m.text; end = m.end }

-- a bad record ends the script, with no report
abbrev pub bad_record : ℕ → Meaning
bad_record number = record { text = []; end = BadRecord number }

-- the text, or nothing where there is a fault of the range
abbrev pub text_unless : Option RangeFault → List ℕ → Meaning
text_unless None text = record { text = text; end = Done }
text_unless (Some fault) text = record { text = []; end = Outside fault }

-- the report, with the script's titles and refused records, where the format can be shown of the slots stepped, and else
-- nothing
abbrev pub report_meaning : Format → Titles → List Refusal → ScriptCourse → Meaning
report_meaning format titles refusals c =
    text_unless (range_fault format c.state.now) (report_text format c.every (seen_at c) titles refusals)

-- after the replies: the report at the course where the script ends well, else nothing
abbrev pub ended_meaning : Format → Titles → List Refusal → Result ScriptCourse ℕ → Meaning
ended_meaning format titles refusals (Ok c) = report_meaning format titles refusals c
ended_meaning format titles refusals (Err number) = bad_record number

-- what a script means in a format that tells this: its replies, where the format has some, and its end
abbrev pub told_meaning : Format → Titles → List Refusal → Told → Meaning
told_meaning format titles refusals t =
    text_and_then (text_if_replies format (replies_told t)) (ended_meaning format titles refusals (outcome_told t))

-- what a script's bytes mean, where its titles are these; origins where it belongs to a plan
unfoldable pub script_meaning : Format → Titles → Option (List Origin) → List ℕ → Meaning
script_meaning format titles origins bytes =
    if nat_lt longest_script (length bytes) then record { text = []; end = TooLong }
    else told_meaning format titles (refusals_for format origins bytes) (told bytes)
