-- What words ask of a slot.
use Rattle.std.specs.Prelude.{ℕ, ◌&&◌, nat_le, if◌then◌else◌, Option, None, Some, Result, Ok, Err, List, codes}
use Rattle.std.specs.Option.{option_map}
use Rattle.std.specs.Str.{bytes_eq}
use Rattle.pf_vocabulary.specs.Names.Text.{is_letter_first, name_in}
use Rattle.pf_text.specs.Numbers.{number_of}
use Rattle.pf_weight.specs.declared.task.TheConstants.{LARGEST_TASK}
use Rattle.pf_vocabulary.specs.declared.questions.mistake.WhyMistake.{WhyMistake}
use Rattle.pf_vocabulary.specs.declared.questions.mistake.WhyMistake.TheVariants as mistake
use Rattle.pf_vocabulary.specs.declared.questions.question.Question.{Question}
use Rattle.pf_vocabulary.specs.declared.questions.question.WhyFormat.{WhyFormat}
use Rattle.pf_vocabulary.specs.declared.questions.question.WhyFormat.TheVariants.{Text, Json}
use Rattle.pf_vocabulary.specs.declared.questions.task_asked.TaskAsked.{TaskAsked}
use Rattle.pf_vocabulary.specs.declared.questions.task_asked.TaskAsked.TheVariants.{Number, Named}

-- what is told of it, without a line end
abbrev pub mistake_words : WhyMistake → List ℕ
mistake_words mistake.Slot = codes "SLOT is a number of 1 to 15 digits"
mistake_words mistake.Format = codes "unknown format"
mistake_words mistake.Task = codes "--task takes a task number of 1 to 4095 or a name"

-- what is read, where it is there; else a mistake
abbrev pub read_or : {X : Type 0} → WhyMistake → Option X → Result X WhyMistake
read_or why None = Err why
read_or why (Some x) = Ok x

-- it has to be given
abbrev pub slot_given : Option (List ℕ) → Result ℕ WhyMistake
slot_given None = Err mistake.Slot
slot_given (Some text) = read_or mistake.Slot (number_of text)

abbrev pub format_named : List ℕ → Option WhyFormat
format_named name = if bytes_eq name (codes "text") then Some Text else if bytes_eq name (codes "json") then Some Json else None

-- without a name it is the text
abbrev pub format_given : Option (List ℕ) → Result WhyFormat WhyMistake
format_given None = Ok Text
format_given (Some name) = read_or mistake.Format (format_named name)

-- the task of a number that a task may have
abbrev pub task_numbered : Option ℕ → Option TaskAsked
task_numbered None = None
task_numbered (Some number) = if nat_le 1 number && nat_le number LARGEST_TASK then Some (Number number) else None

-- a text that begins with a letter is a name
abbrev pub task_of : List ℕ → Option TaskAsked
task_of text = if is_letter_first text then option_map Named (name_in text) else task_numbered (number_of text)

abbrev pub task_given : Option (List ℕ) → Result (Option TaskAsked) WhyMistake
task_given None = Ok None
task_given (Some text) = read_or mistake.Task (option_map Some (task_of text))

-- the first mistake, of the slot, the format and the task; else the question
abbrev pub asked_of : ℕ → WhyFormat → Result (Option TaskAsked) WhyMistake → Result Question WhyMistake
asked_of slot format (Err why) = Err why
asked_of slot format (Ok task) = Ok (record { slot = slot; task = task; format = format })

abbrev pub question_given : Result ℕ WhyMistake → Result WhyFormat WhyMistake → Result (Option TaskAsked) WhyMistake → Result Question WhyMistake
question_given (Err why) format task = Err why
question_given (Ok slot) (Err why) task = Err why
question_given (Ok slot) (Ok format) task = asked_of slot format task

abbrev pub question_of : Option (List ℕ) → Option (List ℕ) → Option (List ℕ) → Result Question WhyMistake
question_of slot format task = question_given (slot_given slot) (format_given format) (task_given task)
