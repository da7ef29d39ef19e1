-- What words ask for, each from its fields, or the first thing that is wrong with them. Capital words are number fields; places are
-- counted from 0.
use Rattle.std.specs.Prelude.{ℕ, ◌==◌, ◌&&◌, ◌||◌, nat_le, nat_lt, if◌then◌else◌, is_some, ok_or, Option, None, Some, Result, Ok, Err, List, length}
use Rattle.std.specs.Option.{unwrap_or}
use Rattle.pf_vocabulary.specs.declared.names.named.Named.{Named}
use Rattle.pf_vocabulary.specs.Names.Names.{task_of}
use Rattle.pf_vocabulary.specs.Names.Text.{is_letter_first, is_text}
use Rattle.pf_vocabulary.specs.Options.Formats.{format_within}
use Rattle.pf_vocabulary.specs.Options.Ranges.{whole}
use Rattle.pf_vocabulary.specs.declared.options.format.Format.{Format}
use Rattle.pf_vocabulary.specs.declared.options.slot_range.SlotRange.{SlotRange}
use Rattle.pf_script.specs.Fields.{field, number}
use Rattle.pf_session_lines.specs.declared.wanted.Wanted.TheVariants as wanted
use Rattle.pf_script.specs.declared.plan.state.Progress.{Progress}
use Rattle.pf_weight.specs.declared.task.TheConstants.{LARGEST_TASK}
use Rattle.pf_vocabulary.specs.declared.questions.question.Question.{Question}
use Rattle.pf_vocabulary.specs.declared.questions.question.WhyFormat.TheVariants.{Text}
use Rattle.pf_vocabulary.specs.declared.questions.task_asked.TaskAsked.{TaskAsked}
use Rattle.pf_vocabulary.specs.declared.questions.task_asked.TaskAsked.TheVariants.{Number, Named as ByName}
use Rattle.pf_session_lines.specs.declared.asked.Asked.{Asked}
use Rattle.pf_session_lines.specs.declared.asked.Asked.TheVariants as asks
use Rattle.pf_session_lines.specs.declared.fault.LineFault.{LineFault}
use Rattle.pf_session_lines.specs.declared.fault.LineReason.TheVariants.{NoNumber, NoSettings, NoTask, Outside}
use Rattle.pf_session_lines.specs.declared.word.Word.{Word}
use Rattle.pf_session_lines.specs.declared.word.Word.TheVariants.{Shows, Why, Fit, Reverse, Save, Help, Quit}
use Rattle.pf_session_lines.specs.Faults.{◌>>=◌, fault_at, of_length}
use Rattle.pf_session_lines.specs.Words.{has_range, is_early}

-- a number is expected
unfoldable pub number_at : List (List ℕ) → ℕ → Result ℕ LineFault
number_at fields place = ok_or (number fields place) (fault_at place NoNumber)

-- F and T, or F alone, or neither
unfoldable pub range_at : List (List ℕ) → Result SlotRange LineFault
range_at fields =
    if length fields == 1 then Ok whole
    else if length fields == 2 then (number_at fields 1 >>= λ from. Ok (record { from = Some from; to = None }))
    else do
      from ← number_at fields 1
      to ← number_at fields 2
      Ok (record { from = Some from; to = Some to })

-- a format with its range
unfoldable pub ranged_at : Format → List (List ℕ) → Result Format LineFault
ranged_at format fields = do
  _ ← of_length fields 1 3
  range ← range_at fields
  Ok (unwrap_or (format_within format range) format)

-- a format, and after some of them F, or F and T
unfoldable pub format_at : Format → List (List ℕ) → Result Format LineFault
format_at format fields =
    if has_range format then ranged_at format fields else (of_length fields 1 1 >>= λ _. Ok format)

-- a task by its name, which was given
unfoldable pub named_at : List Named → List (List ℕ) → ℕ → Result TaskAsked LineFault
named_at names fields place =
    if is_text (field fields place) && is_some (task_of names (field fields place)) then Ok (ByName (field fields place))
    else Err (fault_at place NoTask)

-- or by its number
abbrev pub of_number : ℕ → ℕ → Result TaskAsked LineFault
of_number place task =
    if nat_le 1 task && nat_le task LARGEST_TASK then Ok (Number task)
    else Err (fault_at place (Outside task LARGEST_TASK))

unfoldable pub numbered_at : List (List ℕ) → ℕ → Result TaskAsked LineFault
numbered_at fields place = number_at fields place >>= of_number place

unfoldable pub task_at : List Named → List (List ℕ) → ℕ → Result TaskAsked LineFault
task_at names fields place = if is_letter_first (field fields place) then named_at names fields place else numbered_at fields place

-- TASK, which may be left out
unfoldable pub task_if : List Named → List (List ℕ) → Result (Option TaskAsked) LineFault
task_if names fields = if nat_lt 2 (length fields) then (task_at names fields 2 >>= λ task. Ok (Some task)) else Ok None

-- `why,SLOT` and perhaps `,TASK`
unfoldable pub question_at : List Named → List (List ℕ) → Result Question LineFault
question_at names fields = do
  _ ← of_length fields 2 3
  slot ← number_at fields 1
  task ← task_if names fields
  Ok (record { slot = slot; task = task; format = Text })

-- a word alone
abbrev pub alone : List (List ℕ) → Asked → Result Asked LineFault
alone fields asked = of_length fields 1 1 >>= λ _. Ok asked

-- what a word asks for
unfoldable pub word_asked : List Named → Word → List (List ℕ) → Result Asked LineFault
word_asked names (Shows format) fields = format_at format fields >>= λ f. Ok (asks.Shown (wanted.Report f))
word_asked names Why fields = question_at names fields >>= λ q. Ok (asks.Shown (wanted.Why q))
word_asked names Fit fields = alone fields (asks.Shown wanted.Fit)
word_asked names (Reverse reversal) fields = alone fields (asks.Reverse reversal)
word_asked names Save fields = of_length fields 2 2 >>= λ _. Ok asks.Save
word_asked names Help fields = alone fields asks.Help
word_asked names Quit fields = alone fields asks.Quit

-- after the settings, but for words that may come before them
unfoldable pub asked_at : Progress → Word → List (List ℕ) → Result Asked LineFault
asked_at p word fields =
    if p.opened || is_early word then word_asked p.names word fields else Err (fault_at 0 NoSettings)
