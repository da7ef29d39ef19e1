-- What a diff tells of two desks, and how it ends.
use Rattle.std.specs.Prelude.{ℕ, Bool, ◌&&◌, if◌then◌else◌, List, [], ◌++◌}
use Rattle.pf_desk.specs.Desk.{Seen}
use Rattle.pf_diff.specs.Diff.{diff_text_of}
use Rattle.pf_diff.specs.Differing.{is_different}
use Rattle.pf_diff.specs.Summary.{summary_text}
use Rattle.pf_vocabulary.specs.declared.fault.answer.Answer.{Answer}
use Rattle.pf_vocabulary.specs.declared.fault.status.Status.{Status}
use Rattle.pf_vocabulary.specs.declared.fault.status.Status.TheVariants.{BadScript, Done}
use Rattle.pf_vocabulary.specs.declared.options.diff_options.DiffOptions.{DiffOptions}

-- what each desk comes to, where that is asked for, and then what differs
abbrev pub difference_text : Bool → Seen → Seen → List ℕ
difference_text summary before after = (if summary then summary_text before after else []) ++ diff_text_of before after

-- the status 1 only where it is asked for, and something differs
abbrev pub difference_status : Bool → Seen → Seen → Status
difference_status exit_code before after = if exit_code && is_different before after then BadScript else Done

-- a text, and the status after it
pub record DiffTold : Type 0 where
  pub text : List ℕ
  pub status : Status

abbrev pub difference : DiffOptions → Seen → Seen → DiffTold
difference options before after = record {
  text = difference_text options.summary before after;
  status = difference_status options.exit_code before after;
}

-- those of an answer
abbrev pub told_by : Answer → DiffTold
told_by answer = record { text = answer.text.items; status = answer.ending.status }
