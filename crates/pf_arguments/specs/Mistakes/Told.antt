-- What is told of a mistake: a line, and where notes are told a hint.
use Rattle.std.specs.Prelude.{ℕ, Bool, if◌then◌else◌, List, [], ◌++◌, Option, None, Some, unwrap_or, codes}
use Rattle.clap.specs.Words.{Row, Text}
use Rattle.pf_convert.specs.List.Messages.{hint_text}
use Rattle.pf_text.specs.Quoted.{quoted}
use Rattle.pf_vocabulary.specs.Questions.Reading.{mistake_words as why_words}
use Rattle.pf_vocabulary.specs.declared.questions.mistake.WhyMistake.TheVariants as asking
use Rattle.pf_arguments.specs.CommandLine.{file_behind}
use Rattle.pf_arguments.specs.Mistakes.Hints.{mistake_hint}
use Rattle.pf_arguments.specs.Mistakes.Values.{mistaken_value}
use Rattle.pf_arguments.specs.declared.mistake.Mistake.{Mistake}
use Rattle.pf_arguments.specs.declared.mistake.Mistake.TheVariants.{UnknownFormat, BadNumber, NoRange, Unranged, BadCell, NoCell, BadWrap, NoWrap, BadStyle, NoStyle, BadTasks, NoTasks, BadFailOn, BadSince, SinceOfTwo, InputTwice, Convert, Why}
use Rattle.pf_arguments.specs.declared.telling.Telling.{Telling}

-- its words, without a value and a line end; those of a conversion have their own
abbrev pub mistake_words : Mistake → List ℕ
mistake_words UnknownFormat = codes "unknown format"
mistake_words BadNumber = codes "--from and --to take a number of 1 to 15 digits"
mistake_words NoRange = codes "--from and --to are for the formats schedule, chart and svg"
mistake_words Unranged = codes "--from and --to are for the formats schedule, chart, svg, windows, load and quanta"
mistake_words BadCell = codes "--cell takes a number of 6 to 40"
mistake_words NoCell = codes "--cell is for the format svg"
mistake_words BadWrap = codes "--wrap takes a number of 1 to 4096"
mistake_words NoWrap = codes "--wrap is for the format svg"
mistake_words BadStyle = codes "--style takes strips or stairs"
mistake_words NoStyle = codes "--style is for the format svg"
mistake_words BadTasks = codes "--task takes task numbers of 1 to 4095, ranges of them and names, joined by commas"
mistake_words NoTasks = codes "--task is for the formats windows, jobs, quanta, stats, lags, misses, chart and svg"
mistake_words BadFailOn = codes "--fail-on takes refused, denied and missed, joined by commas"
mistake_words BadSince = codes "--since takes a number of 1 to 15 digits, from 1 on"
mistake_words SinceOfTwo = codes "--since is for one script"
mistake_words InputTwice = codes "standard input is read once"
mistake_words (Convert mistake) = []
mistake_words (Why mistake) = why_words mistake

-- a whole message names all formats that have a range
abbrev pub whole_words : Mistake → List ℕ
whole_words NoRange = mistake_words Unranged
whole_words mistake = mistake_words mistake

-- the value behind them, as a field is shown
abbrev pub before_value : Mistake → List ℕ
before_value UnknownFormat = codes " "
before_value (Why asking.Format) = codes " "
before_value mistake = codes ", not "

abbrev pub value_shown : Mistake → Option Text → List ℕ
value_shown mistake None = []
value_shown mistake (Some value) = before_value mistake ++ quoted value

-- the line of a message, whole or short, with this value
abbrev pub mistake_line : Bool → Mistake → Option Text → List ℕ
mistake_line whole mistake value =
    (if whole then whole_words mistake ++ value_shown mistake value else mistake_words mistake) ++ codes "\n"

-- what is told where so much is to be told, with this value, and this text of FILE
abbrev pub told_with : Telling → Mistake → Option Text → Option Text → List ℕ
told_with telling mistake value file =
    mistake_line telling.whole mistake value ++ (if telling.notes then hint_text (mistake_hint file (unwrap_or value []) mistake) else [])

-- the same, by what was found of a subcommand
abbrev pub told_by : Telling → Option (Text × List Row) → Mistake → List ℕ
told_by telling found mistake = told_with telling mistake (mistaken_value found mistake) (file_behind found)
