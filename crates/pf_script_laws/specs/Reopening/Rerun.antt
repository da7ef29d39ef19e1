-- A desk's script, run by the program.
use Rattle.std.specs.Prelude.{◌≡◌, ℕ, None, List, [], ◌++◌, length, map}
use Rattle.pf_run.specs.RunRows.{AreOfRun}
use Rattle.pf_desk.specs.Desk.{Seen}
use Rattle.pf_vocabulary.specs.Names.Titled.{untitled}
use Rattle.pf_vocabulary.specs.declared.names.titles.Titles.{Titles}
use Rattle.pf_report.specs.Script.{script_text_of}
use Rattle.pf_vocabulary.specs.declared.options.format.Format.{Format}
use Rattle.pf_vocabulary.specs.declared.options.format.Format.TheVariants.{Schedule, Lags, Misses, Script}
use Rattle.pf_vocabulary.specs.declared.options.slot_range.SlotRange.{SlotRange}
use Rattle.pf_vocabulary.specs.Options.Formats.{range_fault}
use Rattle.pf_formats.specs.Report.{report_text}
use Rattle.pf_replies.specs.Course.{opening_course, ready_line, reply_lines, text_if_replies}
use Rattle.pf_commands.specs.Meaning.{Meaning, script_meaning, text_and_then, text_unless}
use Rattle.pf_script_laws.specs.Reopening.Reopen.{CanBeWritten}
use Rattle.pf_script_laws.specs.Reopening.Taken.{renumbered}
use Rattle.pf_script_laws.specs.Reopening.Renumbered.{denied_under, new_number}
use Rattle.pf_script_laws.specs.Reopening.Whole.{script_commands}

-- what was seen, with the events numbered from 1 on, after as many entries as the script asks for
abbrev pub seen_again : Seen → Seen
seen_again seen = record {
  version = length (script_commands seen.state);
  state = record { plan = renumbered seen.state.plan; now = seen.state.now };
  rows = seen.rows;
  denials = map (denied_under (new_number seen.state.plan.events)) seen.denials;
}

-- the replies to the settings and to each command of the script, where the format has replies
abbrev pub replies_again : Format → ℕ → Seen → List ℕ
replies_again format every seen =
    text_if_replies format (ready_line ++ reply_lines (opening_course every seen.state.plan.settings) (script_commands seen.state))

-- the report of what was seen, with these titles and no refused record, where the format can be shown of the slots stepped, and
-- else nothing
abbrev pub report_of : Format → Titles → ℕ → Seen → Meaning
report_of format titles every seen = text_unless (range_fault format seen.state.now) (report_text format every seen titles [])

-- a script can be written of the snapshot, and its rows and denials are those of its scenario
pub record CanBeRerun (every : ℕ) (seen : Seen) : Type 0 where
  pub written : CanBeWritten every seen
  pub of_run : AreOfRun seen.state.plan seen.state.now seen.rows seen.denials

-- Scripts run again: in any format, and with any titles, the script of a snapshot means the replies, and then the report of what
-- was seen.
abbrev pub ScriptsRunAgain : Type 0
ScriptsRunAgain =
    (every : ℕ) (seen : Seen) → CanBeRerun every seen → (titles : Titles) (format : Format)
    → script_meaning format titles None (script_text_of every seen untitled)
    ≡ text_and_then (replies_again format every seen) (report_of format titles every (seen_again seen))

-- in this format the script means the report of what was seen, byte for byte
abbrev pub IsWrittenAgain : ℕ → Seen → Titles → Format → Type 0
IsWrittenAgain every seen titles format = script_meaning format titles None (script_text_of every seen untitled) ≡ report_of format titles every seen

pub record AreWrittenAgain (every : ℕ) (seen : Seen) (titles : Titles) : Type 0 where
  pub schedule : (range : SlotRange) → IsWrittenAgain every seen titles (Schedule range)
  pub lags : IsWrittenAgain every seen titles Lags
  pub misses : IsWrittenAgain every seen titles Misses
  pub script : IsWrittenAgain every seen titles Script

abbrev pub ScheduleIsWrittenAgain : Type 0
ScheduleIsWrittenAgain = (every : ℕ) (seen : Seen) → CanBeRerun every seen → (titles : Titles) → AreWrittenAgain every seen titles
