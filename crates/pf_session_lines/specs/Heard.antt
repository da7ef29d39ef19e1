-- What a line is after the lines before it.
use Rattle.std.specs.Prelude.{ℕ, ◌==◌, ◌&&◌, Bool, nat_lt, is_none, if◌then◌else◌, Option, None, Some, Result, Ok, Err, List, [], length}
use Rattle.std.specs.List.{list_any}
use Rattle.std.specs.Str.Lines.{strip_carriage_return}
use Rattle.pf_script.specs.Fields.{field}
use Rattle.pf_script.specs.Plan.Heading.{heading_fault, is_plan_heading}
use Rattle.pf_script.specs.Plan.Parsing.{said_at}
use Rattle.pf_script.specs.declared.plan.fault.RecordFault.{RecordFault}
use Rattle.pf_script.specs.declared.plan.said.Said.{Said}
use Rattle.pf_script.specs.declared.plan.state.Progress.{Progress}
use Rattle.pf_session_lines.specs.Asked.{asked_at}
use Rattle.pf_session_lines.specs.Faults.{escape_text, line_reason, reason_hint, reason_text, too_long_text}
use Rattle.pf_session_lines.specs.Lines.{fields_in, line_of}
use Rattle.pf_session_lines.specs.Words.{word_at}
use Rattle.pf_session_lines.specs.declared.asked.Asked.{Asked}
use Rattle.pf_session_lines.specs.declared.asked.Asked.TheVariants as asks
use Rattle.pf_session_lines.specs.declared.fault.LineFault.{LineFault}
use Rattle.pf_session_lines.specs.declared.hear.TheConstants.{LONGEST_LINE}
use Rattle.pf_session_lines.specs.declared.heard.Heard.{Heard}
use Rattle.pf_session_lines.specs.declared.heard.Heard.TheVariants.{Nothing, Heading, Record, Shown, Reverse, Save, Help, Quit, Bad}
use Rattle.pf_session_lines.specs.declared.word.Word.{Word}

-- a line with these fields that is bad
abbrev pub bad : Progress → List (List ℕ) → LineFault → Heard
bad p fields fault = Bad fault.field (reason_text p fields fault.field fault.reason) (reason_hint p fields fault.field fault.reason)

-- what a record says goes after the script as a line of its fields
abbrev pub heard_record : Progress → List (List ℕ) → Result Said RecordFault → Heard
heard_record p fields (Ok said) = Record said (line_of fields)
heard_record p fields (Err fault) = bad p fields (record { field = fault.field; reason = line_reason fault.reason })

abbrev pub heard_asked : List (List ℕ) → Asked → Heard
heard_asked fields (asks.Shown wanted) = Shown wanted
heard_asked fields (asks.Reverse reversal) = Reverse reversal
heard_asked fields asks.Save = Save (field fields 1)
heard_asked fields asks.Help = Help
heard_asked fields asks.Quit = Quit

abbrev pub heard_word : Progress → List (List ℕ) → Result Asked LineFault → Heard
heard_word p fields (Ok asked) = heard_asked fields asked
heard_word p fields (Err fault) = bad p fields fault

-- a word, or else a record
abbrev pub heard_if : Progress → List (List ℕ) → Option Word → Heard
heard_if p fields None = heard_record p fields (said_at p fields)
heard_if p fields (Some word) = heard_word p fields (asked_at p word fields)

-- the heading `plan,1`
abbrev pub is_heading : List (List ℕ) → Bool
is_heading fields = is_plan_heading fields && is_none (heading_fault fields)

-- it may come first
abbrev pub heard_fields : Bool → Progress → List (List ℕ) → Heard
heard_fields is_first p fields = if is_first && is_heading fields then Heading else heard_if p fields (word_at fields)

abbrev pub has_escape : List ℕ → Bool
has_escape line = list_any (λ byte. byte == 27) line

-- a line with these fields, if it has any
abbrev pub heard_row : Bool → Progress → List ℕ → Option (List (List ℕ)) → Heard
heard_row is_first p line None = Nothing
heard_row is_first p line (Some fields) = if has_escape line then Bad 0 escape_text [] else heard_fields is_first p fields

-- without the carriage return that may stand at its end
abbrev pub heard_within : Bool → Progress → List ℕ → Heard
heard_within is_first p line = if nat_lt LONGEST_LINE (length line) then Bad 0 too_long_text [] else heard_row is_first p line (fields_in line)

abbrev pub heard : Bool → Progress → List ℕ → Heard
heard is_first p line = heard_within is_first p (strip_carriage_return line)
