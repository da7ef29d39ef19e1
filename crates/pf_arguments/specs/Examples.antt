-- Worked examples of what words ask for.
use Rattle.std.specs.Prelude.{◌≡◌, ℕ, Bool, true, false, List, [], ◌∷◌, Option, Some, None, codes}
use Rattle.pf_vocabulary.specs.declared.look.look.Look.{Look}
use Rattle.pf_vocabulary.specs.declared.look.style.Style.TheVariants.{Strips, Stairs}
use Rattle.pf_vocabulary.specs.declared.options.fail_on.FailOn.{FailOn}
use Rattle.pf_vocabulary.specs.declared.options.format.Format.TheVariants.{Schedule, Tables, Json, Jobs, Lags, Script, Chart, Svg, Windows}
use Rattle.pf_convert.specs.declared.words.conversion.Conversion.{Conversion}
use Rattle.pf_convert.specs.declared.words.conversion.ConvertFormat.TheVariants as made
use Rattle.pf_convert.specs.declared.words.arrivals.Arrivals.TheVariants.{Aligned, Any}
use Rattle.pf_convert.specs.declared.words.mistake.ConvertMistake.TheVariants.{FitFormat as BadFitFormat, Format, Quantum, Processors, SwitchNotBelow, SeveralQuanta}
use Rattle.pf_convert.specs.declared.words.fit_asked.FitAsked.{FitAsked}
use Rattle.pf_vocabulary.specs.declared.options.fit_format.FitFormat.{FitFormat}
use Rattle.pf_convert.specs.declared.words.list_word.ListWord.{ListWord}
use Rattle.pf_convert.specs.declared.words.list_word.ListWord.TheVariants as of_list
use Rattle.pf_vocabulary.specs.declared.names.unit.Unit.TheVariants.{Millisecond, Microsecond}
use Rattle.pf_arguments.specs.declared.mistake.Mistake.TheVariants as why
use Rattle.pf_vocabulary.specs.declared.questions.mistake.WhyMistake.TheVariants as asking
use Rattle.pf_vocabulary.specs.declared.questions.question.Question.{Question}
use Rattle.pf_vocabulary.specs.declared.questions.question.WhyFormat.{WhyFormat}
use Rattle.pf_vocabulary.specs.declared.questions.question.WhyFormat.TheVariants as answer
use Rattle.pf_vocabulary.specs.declared.questions.task_asked.TaskAsked.{TaskAsked}
use Rattle.pf_vocabulary.specs.declared.questions.task_asked.TaskAsked.TheVariants.{Number, Named}
use Rattle.pf_arguments.specs.declared.mistake.Mistake.TheVariants.{UnknownFormat, BadNumber, NoRange, Unranged, BadCell, NoCell, BadWrap, NoWrap, BadStyle, NoStyle, BadTasks, NoTasks, BadFailOn, BadSince, SinceOfTwo, InputTwice}
use Rattle.pf_vocabulary.specs.declared.options.slot_range.SlotRange.{SlotRange}
use Rattle.pf_vocabulary.specs.declared.fault.range_fault.RangeFault.TheVariants.{NotWithin, TooLong}
use Rattle.clap.specs.Words.{Text, subcommand_of}
use Rattle.pf_arguments.specs.CommandLine.{program}
use Rattle.pf_arguments.specs.Desks.{DeskNames}
use Rattle.pf_arguments.specs.declared.mistake.Mistake.{Mistake}
use Rattle.pf_arguments.specs.Diffs.{PairNames}
use Rattle.pf_vocabulary.specs.Options.FailLists.{on_nothing}
use Rattle.pf_vocabulary.specs.Options.Formats.{range_fault}
use Rattle.pf_vocabulary.specs.Options.Ranges.{whole}
use Rattle.pf_vocabulary.specs.declared.task_words.task_word.TaskWord.{TaskWord}
use Rattle.pf_vocabulary.specs.declared.task_words.task_word.TaskWord.TheVariants as listed
use Rattle.pf_arguments.specs.declared.telling.Telling.{Telling}
use Rattle.pf_arguments.specs.declared.task.Task.TheVariants.{Run, RunTasks, Check, CheckRun, Diff, Drill, Convert, Fit, Why}
use Rattle.pf_vocabulary.specs.declared.options.fit_format.FitFormat.TheVariants.{Text as FitText, Json as FitJson}
use Rattle.pf_vocabulary.specs.declared.options.diff_options.DiffOptions.{DiffOptions}
use Rattle.pf_arguments.specs.Help.{lesson_of, topic_asked}
use Rattle.pf_arguments.specs.Hints.Refused.{refused_hint}
use Rattle.pf_arguments.specs.Mistakes.Hints.{tasks_hint}
use Rattle.pf_arguments.specs.declared.lessons.program.TheConstants.{PROGRAM}
use Rattle.pf_arguments.specs.declared.lessons.run.TheConstants.{RUN}
use Rattle.pf_arguments.specs.declared.topics.plan.TheConstants.{PLAN}
use Rattle.pf_arguments.specs.declared.topics.status.TheConstants.{STATUS}
use Rattle.pf_arguments.specs.Asked.{task_asked, pair_asked, desk_asked, file_asked, telling_asked, reads_input, mistake_told, AsksHelp, AsksVersion, IsRefused, AreMistaken}

-- words that ask for a run
pub record Runs : Type 0 where
  pub none : task_asked [] ≡ Some (Run Tables on_nothing)
  pub run : task_asked (codes "run" ∷ []) ≡ Some (Run Tables on_nothing)
  pub tables : task_asked (codes "run" ∷ codes "--format" ∷ codes "tables" ∷ []) ≡ Some (Run Tables on_nothing)
  pub json : task_asked (codes "run" ∷ codes "--format" ∷ codes "json" ∷ []) ≡ Some (Run Json on_nothing)
  pub schedule : task_asked (codes "run" ∷ codes "--format=schedule" ∷ []) ≡ Some (Run (Schedule whole) on_nothing)
  pub lags : task_asked (codes "run" ∷ codes "-f" ∷ codes "lags" ∷ []) ≡ Some (Run Lags on_nothing)
  pub script : task_asked (codes "run" ∷ codes "-fscript" ∷ []) ≡ Some (Run Script on_nothing)
  pub of_file : task_asked (codes "run" ∷ codes "plan.csv" ∷ []) ≡ Some (Run Tables on_nothing)

-- words that ask for a range
abbrev pub slots : Option ℕ → Option ℕ → SlotRange
slots from to = record { from = from; to = to }

pub record Ranged : Type 0 where
  pub both : task_asked (codes "run" ∷ codes "-f" ∷ codes "chart" ∷ codes "--from" ∷ codes "5" ∷ codes "--to" ∷ codes "9" ∷ []) ≡ Some (Run (Chart (slots (Some 5) (Some 9))) on_nothing)
  pub from : task_asked (codes "run" ∷ codes "--from=05" ∷ codes "-f" ∷ codes "schedule" ∷ []) ≡ Some (Run (Schedule (slots (Some 5) None)) on_nothing)
  pub turned : task_asked (codes "run" ∷ codes "-f" ∷ codes "chart" ∷ codes "--from" ∷ codes "5" ∷ codes "--to" ∷ codes "3" ∷ []) ≡ Some (Run (Chart (slots (Some 5) (Some 3))) on_nothing)
  -- a format without a range, and no number
  pub unranged : AreMistaken (codes "run" ∷ codes "--from" ∷ codes "3" ∷ codes "--format" ∷ codes "json" ∷ []) NoRange
  pub tables : AreMistaken (codes "run" ∷ codes "--to" ∷ codes "3" ∷ []) NoRange
  pub jobs : AreMistaken (codes "run" ∷ codes "--to" ∷ codes "3" ∷ codes "-f" ∷ codes "jobs" ∷ []) Unranged
  pub no_number : AreMistaken (codes "run" ∷ codes "-f" ∷ codes "chart" ∷ codes "--from" ∷ codes "x" ∷ []) BadNumber

-- words that ask for a picture
abbrev pub of_width : ℕ → Look
of_width cell = record { cell = cell; wrap = 4096; style = Strips }

pub record Pictured : Type 0 where
  pub usual : task_asked (codes "run" ∷ codes "-f" ∷ codes "svg" ∷ []) ≡ Some (Run (Svg whole (of_width 20)) on_nothing)
  pub cell : task_asked (codes "run" ∷ codes "--cell" ∷ codes "9" ∷ codes "-f" ∷ codes "svg" ∷ codes "--to" ∷ codes "4" ∷ []) ≡ Some (Run (Svg (slots None (Some 4)) (of_width 9)) on_nothing)
  pub least : task_asked (codes "run" ∷ codes "-f" ∷ codes "svg" ∷ codes "--cell=6" ∷ []) ≡ Some (Run (Svg whole (of_width 6)) on_nothing)
  pub most : task_asked (codes "run" ∷ codes "-f" ∷ codes "svg" ∷ codes "--cell=40" ∷ []) ≡ Some (Run (Svg whole (of_width 40)) on_nothing)
  -- too narrow, too wide, no number, and a format without a width
  pub narrow : AreMistaken (codes "run" ∷ codes "-f" ∷ codes "svg" ∷ codes "--cell" ∷ codes "5" ∷ []) BadCell
  pub wide : AreMistaken (codes "run" ∷ codes "-f" ∷ codes "svg" ∷ codes "--cell" ∷ codes "41" ∷ []) BadCell
  pub no_number : AreMistaken (codes "run" ∷ codes "-f" ∷ codes "svg" ∷ codes "--cell" ∷ codes "x" ∷ []) BadCell
  pub chart : AreMistaken (codes "run" ∷ codes "-f" ∷ codes "chart" ∷ codes "--cell" ∷ codes "9" ∷ []) NoCell
  pub tables : AreMistaken (codes "run" ∷ codes "--cell" ∷ codes "9" ∷ []) NoCell

-- words that ask for a picture in blocks and in a style
pub record Styled : Type 0 where
  pub wrap : task_asked (codes "run" ∷ codes "-f" ∷ codes "svg" ∷ codes "--wrap" ∷ codes "1" ∷ []) ≡ Some (Run (Svg whole (record { cell = 20; wrap = 1; style = Strips })) on_nothing)
  pub stairs : task_asked (codes "run" ∷ codes "-f" ∷ codes "svg" ∷ codes "--style" ∷ codes "stairs" ∷ codes "--wrap=60" ∷ []) ≡ Some (Run (Svg whole (record { cell = 20; wrap = 60; style = Stairs })) on_nothing)
  pub strips : task_asked (codes "run" ∷ codes "-f" ∷ codes "svg" ∷ codes "--style" ∷ codes "strips" ∷ []) ≡ Some (Run (Svg whole (of_width 20)) on_nothing)
  -- no slots, too many, no style, and a format without a look
  pub none : AreMistaken (codes "run" ∷ codes "-f" ∷ codes "svg" ∷ codes "--wrap" ∷ codes "0" ∷ []) BadWrap
  pub many : AreMistaken (codes "run" ∷ codes "-f" ∷ codes "svg" ∷ codes "--wrap" ∷ codes "4097" ∷ []) BadWrap
  pub paper : AreMistaken (codes "run" ∷ codes "-f" ∷ codes "svg" ∷ codes "--style" ∷ codes "paper" ∷ []) BadStyle
  pub wrapped_chart : AreMistaken (codes "run" ∷ codes "-f" ∷ codes "chart" ∷ codes "--wrap" ∷ codes "60" ∷ []) NoWrap
  pub styled_chart : AreMistaken (codes "run" ∷ codes "-f" ∷ codes "chart" ∷ codes "--style" ∷ codes "stairs" ∷ []) NoStyle
  -- the first mistake is told, and of one word its value before the format
  pub cell_first : AreMistaken (codes "run" ∷ codes "-f" ∷ codes "svg" ∷ codes "--style" ∷ codes "x" ∷ codes "--wrap" ∷ codes "y" ∷ codes "--cell" ∷ codes "5" ∷ []) BadCell
  pub wrap_next : AreMistaken (codes "run" ∷ codes "-f" ∷ codes "chart" ∷ codes "--style" ∷ codes "x" ∷ codes "--wrap" ∷ codes "y" ∷ []) BadWrap

-- words that ask for some tasks alone
abbrev pub from_to : ℕ → ℕ → TaskWord
from_to first last = listed.Numbers (record { first = first; last = last })

pub record Listed : Type 0 where
  pub one : task_asked (codes "run" ∷ codes "-f" ∷ codes "jobs" ∷ codes "--task" ∷ codes "7" ∷ []) ≡ Some (RunTasks Jobs (from_to 7 7 ∷ []) on_nothing)
  pub several : task_asked (codes "run" ∷ codes "-f" ∷ codes "windows" ∷ codes "--task=4,1-2,rear-left" ∷ [])
      ≡ Some (RunTasks (Windows whole) (from_to 4 4 ∷ from_to 1 2 ∷ listed.Named (codes "rear-left") ∷ []) on_nothing)
  pub failing : task_asked (codes "run" ∷ codes "-f" ∷ codes "lags" ∷ codes "--task" ∷ codes "0012" ∷ codes "--fail-on" ∷ codes "missed" ∷ [])
      ≡ Some (RunTasks Lags (from_to 12 12 ∷ []) (record { refused = false; denied = false; missed = true }))
  -- no item, numbers in no order, a number of no task, and no name
  pub empty : AreMistaken (codes "run" ∷ codes "-f" ∷ codes "jobs" ∷ codes "--task" ∷ codes "1,,2" ∷ []) BadTasks
  pub turned : AreMistaken (codes "run" ∷ codes "-f" ∷ codes "jobs" ∷ codes "--task" ∷ codes "3-1" ∷ []) BadTasks
  pub nobody : AreMistaken (codes "run" ∷ codes "-f" ∷ codes "jobs" ∷ codes "--task" ∷ codes "0-3" ∷ []) BadTasks
  pub large : AreMistaken (codes "run" ∷ codes "-f" ∷ codes "jobs" ∷ codes "--task" ∷ codes "4096" ∷ []) BadTasks
  pub no_name : AreMistaken (codes "run" ∷ codes "-f" ∷ codes "jobs" ∷ codes "--task" ∷ codes "a/b" ∷ []) BadTasks
  -- a format that can't show some alone; the list comes before the format, and before what a run is to fail on
  pub tables : AreMistaken (codes "run" ∷ codes "--task" ∷ codes "1" ∷ []) NoTasks
  pub list_first : AreMistaken (codes "run" ∷ codes "--fail-on" ∷ codes "late" ∷ codes "--task" ∷ codes "x," ∷ []) BadTasks

-- words that ask for a run that fails on something
abbrev pub fails_on : Bool → Bool → Bool → FailOn
fails_on refused denied missed = record { refused = refused; denied = denied; missed = missed }

pub record FailingRuns : Type 0 where
  pub refused : task_asked (codes "run" ∷ codes "--fail-on" ∷ codes "refused" ∷ []) ≡ Some (Run Tables (fails_on true false false))
  pub denied : task_asked (codes "run" ∷ codes "--fail-on=denied" ∷ codes "-f" ∷ codes "lags" ∷ []) ≡ Some (Run Lags (fails_on false true false))
  -- in any order, and one of them twice
  pub both : task_asked (codes "run" ∷ codes "--fail-on" ∷ codes "missed,refused" ∷ []) ≡ Some (Run Tables (fails_on true false true))
  pub twice : task_asked (codes "run" ∷ codes "--fail-on" ∷ codes "missed,missed" ∷ []) ≡ Some (Run Tables (fails_on false false true))
  pub all : task_asked (codes "run" ∷ codes "--fail-on" ∷ codes "refused,denied,missed" ∷ []) ≡ Some (Run Tables (fails_on true true true))
  -- no word, an empty one after a comma, another word, and a space
  pub none : AreMistaken (codes "run" ∷ codes "--fail-on=" ∷ []) BadFailOn
  pub empty : AreMistaken (codes "run" ∷ codes "--fail-on" ∷ codes "refused," ∷ []) BadFailOn
  pub other : AreMistaken (codes "run" ∷ codes "--fail-on" ∷ codes "refused,late" ∷ []) BadFailOn
  pub spaced : AreMistaken (codes "run" ∷ codes "--fail-on" ∷ codes "refused, denied" ∷ []) BadFailOn
  -- a mistake of the format comes first
  pub format : AreMistaken (codes "run" ∷ codes "--fail-on" ∷ codes "late" ∷ codes "-f" ∷ codes "xml" ∷ []) UnknownFormat
  -- it is an option of `run` alone
  pub check : IsRefused (codes "check" ∷ codes "--fail-on" ∷ codes "refused" ∷ [])

-- words that name a file, and words that name none
pub record Files : Type 0 where
  pub run : file_asked (codes "run" ∷ codes "-f" ∷ codes "lags" ∷ codes "plan.csv" ∷ []) ≡ Some (codes "plan.csv")
  pub before : file_asked (codes "run" ∷ codes "plan.csv" ∷ codes "--format" ∷ codes "json" ∷ []) ≡ Some (codes "plan.csv")
  pub check : file_asked (codes "check" ∷ codes "plan.csv" ∷ []) ≡ Some (codes "plan.csv")
  pub dash : file_asked (codes "run" ∷ codes "-" ∷ []) ≡ None
  pub none : file_asked (codes "check" ∷ []) ≡ None

-- words that ask for a drill, which takes no file
pub record Drilled : Type 0 where
  pub alone : task_asked (codes "drill" ∷ []) ≡ Some Drill
  pub none : file_asked (codes "drill" ∷ []) ≡ None
  pub of_file : IsRefused (codes "drill" ∷ codes "x" ∷ [])
  pub in_format : IsRefused (codes "drill" ∷ codes "--format" ∷ codes "json" ∷ [])
  pub help : AsksHelp (codes "drill" ∷ codes "--help" ∷ [])

-- how a diff is told, and whether its status tells of a difference
abbrev pub told_so : Bool → Bool → DiffOptions
told_so summary exit_code = record { summary = summary; exit_code = exit_code }

-- words that ask what a script's last records changed
pub record Differences : Type 0 where
  pub last : task_asked (codes "diff" ∷ []) ≡ Some (Diff None (told_so false false))
  pub since : task_asked (codes "diff" ∷ codes "--since" ∷ codes "5" ∷ []) ≡ Some (Diff (Some 5) (told_so false false))
  pub of_file : file_asked (codes "diff" ∷ codes "--since=5" ∷ codes "plan.csv" ∷ []) ≡ Some (codes "plan.csv")
  pub dash : file_asked (codes "diff" ∷ codes "-" ∷ []) ≡ None
  -- no number, and the number of no record
  pub no_number : AreMistaken (codes "diff" ∷ codes "--since" ∷ codes "x" ∷ []) BadSince
  pub no_record : AreMistaken (codes "diff" ∷ codes "--since=0" ∷ []) BadSince
  -- with its sums, and with a status of its own; no flag has a value, and none stands twice
  pub summed : task_asked (codes "diff" ∷ codes "--summary" ∷ codes "plan.csv" ∷ []) ≡ Some (Diff None (told_so true false))
  pub judged : task_asked (codes "diff" ∷ codes "--exit-code" ∷ codes "--since" ∷ codes "2" ∷ []) ≡ Some (Diff (Some 2) (told_so false true))
  pub valued : IsRefused (codes "diff" ∷ codes "--summary=yes" ∷ [])
  pub twice : IsRefused (codes "diff" ∷ codes "--exit-code" ∷ codes "--exit-code" ∷ [])
  -- an option that `run` alone has, and one that it has not
  pub in_format : IsRefused (codes "diff" ∷ codes "-f" ∷ codes "lags" ∷ [])
  pub of_a_run : IsRefused (codes "run" ∷ codes "--since" ∷ codes "5" ∷ [])
  pub help : AsksHelp (codes "diff" ∷ codes "--help" ∷ [])

-- words that ask what differs between two scripts, and for no task with one
abbrev pub named : Option (List ℕ) → Option (List ℕ) → DiffOptions → PairNames
named first second options = record { first = first; second = second; options = options }

pub record Compared : Type 0 where
  pub both : pair_asked (codes "diff" ∷ codes "a.csv" ∷ codes "b.csv" ∷ []) ≡ Some (named (Some (codes "a.csv")) (Some (codes "b.csv")) (told_so false false))
  pub told : pair_asked (codes "diff" ∷ codes "a.csv" ∷ codes "--exit-code" ∷ codes "b.csv" ∷ codes "--summary" ∷ []) ≡ Some (named (Some (codes "a.csv")) (Some (codes "b.csv")) (told_so true true))
  pub input_first : pair_asked (codes "diff" ∷ codes "-" ∷ codes "b.csv" ∷ []) ≡ Some (named None (Some (codes "b.csv")) (told_so false false))
  pub input_second : pair_asked (codes "diff" ∷ codes "a.csv" ∷ codes "-" ∷ []) ≡ Some (named (Some (codes "a.csv")) None (told_so false false))
  pub no_task : task_asked (codes "diff" ∷ codes "a.csv" ∷ codes "b.csv" ∷ []) ≡ None
  pub one : pair_asked (codes "diff" ∷ codes "a.csv" ∷ []) ≡ None
  -- standard input is read where one of them is that
  pub files_read : reads_input (codes "diff" ∷ codes "a.csv" ∷ codes "b.csv" ∷ []) ≡ false
  pub input_read : reads_input (codes "diff" ∷ codes "a.csv" ∷ codes "-" ∷ []) ≡ true
  pub alone_read : reads_input (codes "diff" ∷ []) ≡ true
  -- a record of two scripts, standard input twice, and the record first
  pub since : AreMistaken (codes "diff" ∷ codes "--since" ∷ codes "5" ∷ codes "a.csv" ∷ codes "b.csv" ∷ []) SinceOfTwo
  pub input_twice : AreMistaken (codes "diff" ∷ codes "-" ∷ codes "-" ∷ []) InputTwice
  pub since_first : AreMistaken (codes "diff" ∷ codes "--since" ∷ codes "5" ∷ codes "-" ∷ codes "-" ∷ []) SinceOfTwo
  pub no_number : AreMistaken (codes "diff" ∷ codes "--since" ∷ codes "x" ∷ codes "-" ∷ codes "-" ∷ []) BadSince
  -- three, and two of another command
  pub three : IsRefused (codes "diff" ∷ codes "a.csv" ∷ codes "b.csv" ∷ codes "c.csv" ∷ [])
  pub checked : IsRefused (codes "check" ∷ codes "a.csv" ∷ codes "b.csv" ∷ [])

-- words that ask for a list of tasks to be converted
abbrev pub whole_script : ℕ → Conversion
whole_script quantum = record { format = made.Script; unit = None; quanta = quantum ∷ []; switch = 0; processors = None; arrivals = Aligned }

pub record Conversions : Type 0 where
  pub alone : task_asked (codes "convert" ∷ codes "--quantum" ∷ codes "0.5" ∷ []) ≡ Some (Convert (whole_script 500000))
  pub several : task_asked (codes "convert" ∷ codes "--quantum=1,0.5" ∷ codes "--switch" ∷ codes "0.02" ∷ codes "--processors" ∷ codes "4" ∷ [])
      ≡ Some (Convert (record { format = made.Table; unit = None; quanta = 1000000 ∷ 500000 ∷ []; switch = 20000; processors = Some 4; arrivals = Aligned }))
  pub in_json : task_asked (codes "convert" ∷ codes "-f" ∷ codes "json" ∷ codes "--unit" ∷ codes "us" ∷ codes "--quantum" ∷ codes "25" ∷ [])
      ≡ Some (Convert (record { format = made.Json; unit = Some Microsecond; quanta = 25000 ∷ []; switch = 0; processors = None; arrivals = Aligned }))
  pub of_file : file_asked (codes "convert" ∷ codes "--quantum" ∷ codes "1" ∷ codes "tasks.csv" ∷ []) ≡ Some (codes "tasks.csv")
  pub dash : file_asked (codes "convert" ∷ codes "--quantum" ∷ codes "1" ∷ codes "-" ∷ []) ≡ None
  -- without a quantum, and with jobs that arrive at any time
  pub found : task_asked (codes "convert" ∷ codes "--arrivals" ∷ codes "any" ∷ codes "tasks.csv" ∷ [])
      ≡ Some (Convert (record { format = made.Script; unit = None; quanta = []; switch = 0; processors = None; arrivals = Any }))
  -- a quantum of nothing, one that stands twice, and more processors than there may be
  pub nothing : AreMistaken (codes "convert" ∷ codes "--quantum" ∷ codes "0" ∷ []) (why.Convert Quantum)
  pub twice : AreMistaken (codes "convert" ∷ codes "--quantum" ∷ codes "1,0.5,1.0" ∷ []) (why.Convert Quantum)
  pub many : AreMistaken (codes "convert" ∷ codes "--quantum" ∷ codes "1" ∷ codes "--processors" ∷ codes "65" ∷ []) (why.Convert Processors)
  -- a switch as long as the second quantum, and a script of two
  pub switch : AreMistaken (codes "convert" ∷ codes "--quantum" ∷ codes "1,0.02" ∷ codes "--switch" ∷ codes "0.02" ∷ [])
      (why.Convert (SwitchNotBelow Millisecond 20000))
  pub of_two : AreMistaken (codes "convert" ∷ codes "--quantum" ∷ codes "1,2" ∷ codes "-f" ∷ codes "script" ∷ []) (why.Convert SeveralQuanta)
  -- a mistake of the format comes first
  pub format : AreMistaken (codes "convert" ∷ codes "--quantum" ∷ codes "0" ∷ codes "-f" ∷ codes "xml" ∷ []) (why.Convert Format)
  -- an option that `run` alone has, and one that it has not
  pub of_a_run : IsRefused (codes "run" ∷ codes "--quantum" ∷ codes "1" ∷ [])
  pub ranged : IsRefused (codes "convert" ∷ codes "--quantum" ∷ codes "1" ∷ codes "--from" ∷ codes "1" ∷ [])
  pub help : AsksHelp (codes "convert" ∷ codes "--help" ∷ [])

-- words that ask why a slot went as it did
abbrev pub question : ℕ → Option TaskAsked → WhyFormat → Question
question slot task format = record { slot = slot; task = task; format = format }

pub record Reasons : Type 0 where
  pub slot : task_asked (codes "why" ∷ codes "3" ∷ []) ≡ Some (Why (question 3 None answer.Text))
  pub of_file : file_asked (codes "why" ∷ codes "3" ∷ codes "plan.csv" ∷ []) ≡ Some (codes "plan.csv")
  pub dash : file_asked (codes "why" ∷ codes "3" ∷ codes "-" ∷ []) ≡ None
  pub task : task_asked (codes "why" ∷ codes "3" ∷ codes "--task" ∷ codes "5" ∷ codes "-f" ∷ codes "json" ∷ []) ≡ Some (Why (question 3 (Some (Number 5)) answer.Json))
  pub named : task_asked (codes "why" ∷ codes "--task=camera" ∷ codes "3" ∷ []) ≡ Some (Why (question 3 (Some (Named (codes "camera"))) answer.Text))
  -- no slot, and a word too many
  pub no_slot : IsRefused (codes "why" ∷ [])
  pub twice : IsRefused (codes "why" ∷ codes "3" ∷ codes "plan.csv" ∷ codes "plan.csv" ∷ [])
  -- no number, no format, and no task; the slot comes first, and the format next
  pub no_number : AreMistaken (codes "why" ∷ codes "1x" ∷ codes "-f" ∷ codes "xml" ∷ []) (why.Why asking.Slot)
  pub no_format : AreMistaken (codes "why" ∷ codes "1" ∷ codes "-f" ∷ codes "xml" ∷ codes "--task" ∷ codes "0" ∷ []) (why.Why asking.Format)
  pub no_task : AreMistaken (codes "why" ∷ codes "1" ∷ codes "--task" ∷ codes "4096" ∷ []) (why.Why asking.Task)
  pub no_name : AreMistaken (codes "why" ∷ codes "1" ∷ codes "--task" ∷ codes "a/b" ∷ []) (why.Why asking.Task)
  pub help : AsksHelp (codes "why" ∷ codes "--help" ∷ [])

-- words that ask whether a script fits, or a list
abbrev pub fit_for : FitFormat → List ℕ → Option ListWord → FitAsked
fit_for format quanta word = record {
  format = format;
  conversion = record { format = made.Script; unit = None; quanta = quanta; switch = 0; processors = None; arrivals = Aligned };
  list_word = word;
}

pub record Fitting : Type 0 where
  pub alone : task_asked (codes "fit" ∷ []) ≡ Some (Fit (fit_for FitText [] None))
  pub text : task_asked (codes "fit" ∷ codes "-f" ∷ codes "text" ∷ []) ≡ Some (Fit (fit_for FitText [] None))
  pub json : task_asked (codes "fit" ∷ codes "--format=json" ∷ codes "plan.csv" ∷ []) ≡ Some (Fit (fit_for FitJson [] None))
  pub of_list : task_asked (codes "fit" ∷ codes "--quantum" ∷ codes "0.5" ∷ codes "tasks.csv" ∷ []) ≡ Some (Fit (fit_for FitText (500000 ∷ []) (Some of_list.Quantum)))
  pub of_file : file_asked (codes "fit" ∷ codes "plan.csv" ∷ []) ≡ Some (codes "plan.csv")
  pub dash : file_asked (codes "fit" ∷ codes "-" ∷ []) ≡ None
  -- a format of a run, and a quantum of nothing, which comes next
  pub unknown : AreMistaken (codes "fit" ∷ codes "--quantum" ∷ codes "0" ∷ codes "-f" ∷ codes "report" ∷ []) (why.Convert BadFitFormat)
  pub nothing : AreMistaken (codes "fit" ∷ codes "--quantum" ∷ codes "0" ∷ []) (why.Convert Quantum)
  -- an option that `run` alone has
  pub in_range : IsRefused (codes "fit" ∷ codes "--from" ∷ codes "5" ∷ [])
  pub help : AsksHelp (codes "fit" ∷ codes "--help" ∷ [])

-- words that ask for a session at a desk
abbrev pub desk : Option Text → Option Text → Bool → Bool → DeskNames
desk script journal json quiet = record { script = script; journal = journal; json = json; quiet = quiet }

pub record Desks : Type 0 where
  pub alone : desk_asked (codes "desk" ∷ []) ≡ Some (desk None None false false)
  pub json : desk_asked (codes "desk" ∷ codes "--json" ∷ codes "plan.csv" ∷ []) ≡ Some (desk (Some (codes "plan.csv")) None true false)
  pub quiet : desk_asked (codes "desk" ∷ codes "-q" ∷ codes "-" ∷ []) ≡ Some (desk None None false true)
  pub kept : desk_asked (codes "desk" ∷ codes "--journal" ∷ codes "kept.csv" ∷ []) ≡ Some (desk None (Some (codes "kept.csv")) false false)
  pub begun : desk_asked (codes "desk" ∷ codes "--journal=-" ∷ codes "plan.csv" ∷ []) ≡ Some (desk (Some (codes "plan.csv")) (Some (codes "-")) false false)
  -- a session is no task, and reads standard input beside its script
  pub no_task : task_asked (codes "desk" ∷ codes "plan.csv" ∷ []) ≡ None
  pub no_desk : desk_asked (codes "fit" ∷ codes "plan.csv" ∷ []) ≡ None
  pub input_read : reads_input (codes "desk" ∷ codes "plan.csv" ∷ []) ≡ true
  -- a journal without its file, two of them, a second script, and options that `run` alone has
  pub unnamed : IsRefused (codes "desk" ∷ codes "--journal" ∷ [])
  pub journals : IsRefused (codes "desk" ∷ codes "--journal" ∷ codes "a.csv" ∷ codes "--journal" ∷ codes "b.csv" ∷ [])
  pub twice : IsRefused (codes "desk" ∷ codes "a.csv" ∷ codes "b.csv" ∷ [])
  pub in_format : IsRefused (codes "desk" ∷ codes "-f" ∷ codes "json" ∷ [])
  pub noted : IsRefused (codes "desk" ∷ codes "--notes" ∷ [])
  pub help : AsksHelp (codes "desk" ∷ codes "--help" ∷ [])

-- words that ask for a topic of help, for the help of a command, and for neither
pub record Helped : Type 0 where
  pub plan : topic_asked (codes "help" ∷ codes "plan" ∷ []) ≡ Some PLAN.now
  pub status : topic_asked (codes "help" ∷ codes "status" ∷ []) ≡ Some STATUS.now
  pub command : topic_asked (codes "help" ∷ codes "run" ∷ []) ≡ None
  pub asked : AsksHelp (codes "help" ∷ codes "run" ∷ [])
  pub lesson : lesson_of (codes "help" ∷ codes "run" ∷ []) ≡ RUN.now
  pub behind : lesson_of (codes "run" ∷ codes "--help" ∷ []) ≡ RUN.now
  pub whole : lesson_of (codes "--help" ∷ []) ≡ PROGRAM.now
  -- a topic and a word more, and a topic alone
  pub more : IsRefused (codes "help" ∷ codes "plan" ∷ codes "plan" ∷ [])
  pub alone : IsRefused (codes "plan" ∷ [])
  -- a hint is for `help` alone
  pub no_hint : refused_hint (codes "run" ∷ codes "rn" ∷ []) ≡ []

-- what words ask to be told
abbrev pub tells : Bool → Bool → Bool → Telling
tells whole notes prompt = record { whole = whole; notes = notes; prompt = prompt }

pub record Told : Type 0 where
  pub none : telling_asked [] ≡ tells false false true
  pub of_file : telling_asked (codes "run" ∷ codes "plan.csv" ∷ []) ≡ tells true true false
  pub dash : telling_asked (codes "run" ∷ codes "-" ∷ []) ≡ tells false false false
  pub asked : telling_asked (codes "drill" ∷ codes "--notes" ∷ []) ≡ tells true true true
  pub checked : telling_asked (codes "check" ∷ codes "plan.csv" ∷ codes "-q" ∷ []) ≡ tells true false false
  pub quiet : telling_asked (codes "why" ∷ codes "3" ∷ codes "--quiet" ∷ codes "--notes" ∷ codes "plan.csv" ∷ []) ≡ tells true false false
  pub second : telling_asked (codes "diff" ∷ codes "-" ∷ codes "b.csv" ∷ []) ≡ tells true true false
  pub list : telling_asked (codes "convert" ∷ codes "--quantum" ∷ codes "1" ∷ []) ≡ tells true true true
  pub either : telling_asked (codes "fit" ∷ []) ≡ tells true true true
  pub fits : telling_asked (codes "fit" ∷ codes "plan.csv" ∷ []) ≡ tells true true false
  -- two commands without these flags
  pub of_a_fit : IsRefused (codes "fit" ∷ codes "--notes" ∷ [])
  pub of_a_check : IsRefused (codes "check" ∷ codes "--notes" ∷ [])

-- what is told of these words, where they have this mistake
abbrev pub told_of : List Text → Mistake → List ℕ
told_of words mistake = mistake_told (subcommand_of program words) mistake

pub record Mistaken : Type 0 where
  -- a whole message has the value, a short one does not; of a script of standard input it is short
  pub cell : told_of (codes "run" ∷ codes "-f" ∷ codes "svg" ∷ codes "--cell" ∷ codes "5" ∷ codes "plan.csv" ∷ []) BadCell
      ≡ codes "--cell takes a number of 6 to 40, not \"5\"\n"
  pub short : told_of (codes "run" ∷ codes "-f" ∷ codes "svg" ∷ codes "--cell" ∷ codes "5" ∷ []) BadCell ≡ codes "--cell takes a number of 6 to 40\n"
  -- the format in use, and the end that is no number
  pub format : told_of (codes "run" ∷ codes "--task" ∷ codes "1" ∷ codes "plan.csv" ∷ []) NoTasks
      ≡ codes "--task is for the formats windows, jobs, quanta, stats, lags, misses, chart and svg, not \"tables\"\n"
  pub end : told_of (codes "run" ∷ codes "-f" ∷ codes "chart" ∷ codes "--from" ∷ codes "1" ∷ codes "--to" ∷ codes "x" ∷ codes "plan.csv" ∷ []) BadNumber
      ≡ codes "--from and --to take a number of 1 to 15 digits, not \"x\"\n"
  -- a hint, and none where notes are not told
  pub like : told_of (codes "run" ∷ codes "-f" ∷ codes "png" ∷ codes "plan.csv" ∷ []) UnknownFormat
      ≡ codes "unknown format \"png\"\n  hint: svg, of which rsvg-convert makes a PNG\n"
  pub quiet : told_of (codes "run" ∷ codes "-q" ∷ codes "-f" ∷ codes "png" ∷ codes "plan.csv" ∷ []) UnknownFormat ≡ codes "unknown format \"png\"\n"
  pub slot : told_of (codes "why" ∷ codes "x" ∷ []) (why.Why asking.Slot) ≡ codes "SLOT is a number of 1 to 15 digits, not \"x\"\n"
  pub tasks : tasks_hint (codes "3-1, 7") ≡ codes "1-3,7"
  pub no_tasks : tasks_hint (codes "1;2") ≡ []
  -- of words that the grammar does not take
  pub version : refused_hint (codes "check" ∷ codes "-V" ∷ []) ≡ codes "pfair --version"
  pub json : refused_hint (codes "why" ∷ codes "--json" ∷ codes "3" ∷ []) ≡ codes "-f json"
  pub several : refused_hint (codes "run" ∷ codes "a.csv" ∷ codes "b.csv" ∷ codes "c.csv" ∷ []) ≡ codes "run takes one file"
  pub list : refused_hint (codes "check" ∷ codes "--unit=s" ∷ codes "plan.csv" ∷ []) ≡ codes "--unit is a word of pfair fit and pfair convert"

-- what can be shown of so many slots
pub record Showable : Type 0 where
  pub most : range_fault (Svg whole (of_width 20)) 4096 ≡ None
  pub too_many : range_fault (Svg whole (of_width 20)) 4097 ≡ Some TooLong
  pub part : range_fault (Svg (slots (Some 1) None) (of_width 6)) 4097 ≡ None
  pub chart : range_fault (Chart whole) 4097 ≡ None
  pub behind : range_fault (Svg (slots None (Some 5000)) (of_width 20)) 4999 ≡ Some (NotWithin 4999)
  pub turned : range_fault (Svg (slots (Some 2) (Some 1)) (of_width 20)) 4 ≡ Some (NotWithin 4)

pub record WorkedWords : Type 0 where
  pub runs : Runs
  pub ranged : Ranged
  pub pictured : Pictured
  pub styled : Styled
  pub listed : Listed
  pub failing : FailingRuns
  pub files : Files
  pub drilled : Drilled
  pub differences : Differences
  pub compared : Compared
  pub conversions : Conversions
  pub reasons : Reasons
  pub fitting : Fitting
  pub desks : Desks
  pub helped : Helped
  pub told : Told
  pub mistaken : Mistaken
  pub showable : Showable
  pub check : task_asked (codes "check" ∷ []) ≡ Some Check
  pub check_run : task_asked (codes "check" ∷ codes "--run" ∷ codes "plan.csv" ∷ []) ≡ Some CheckRun
  -- a name of no format
  pub unknown : AreMistaken (codes "run" ∷ codes "--format" ∷ codes "xml" ∷ []) UnknownFormat
  -- the option without `run`, a word that is none of the program's, and a word too many
  pub option_alone : IsRefused (codes "--format" ∷ codes "json" ∷ [])
  pub alone : IsRefused (codes "plan.csv" ∷ [])
  pub twice : IsRefused (codes "run" ∷ codes "plan.csv" ∷ codes "plan.csv" ∷ [])
  pub check_format : IsRefused (codes "check" ∷ codes "-f" ∷ codes "lags" ∷ [])
  pub help : AsksHelp (codes "--help" ∷ [])
  pub version : AsksVersion (codes "--version" ∷ [])
  pub version_by_letter : AsksVersion (codes "-V" ∷ [])
