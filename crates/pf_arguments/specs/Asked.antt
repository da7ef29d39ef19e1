-- What the words ask for.
use Rattle.std.specs.Prelude.{◌≡◌, ◌≢◌, ◌⊎◌, ℕ, Bool, false, not, ◌&&◌, ◌||◌, true, is_some, if◌then◌else◌, List, [], Option, Some, None, option_map, Result, Ok, Err, codes, String, string_bytes, ⊤}
use Rattle.std.specs.Result.{result_ok, result_err}
use Rattle.std.specs.Str.{bytes_eq}
use Rattle.std.specs.declared.alloc.Global.{Global}
use Rattle.clap.specs.Walk.{is_empty}
use Rattle.clap.specs.Words.{IsAmong, Row, Text, subcommand_of}
use Rattle.clap.specs.declared.error.kind.ErrorKind.{ErrorKind}
use Rattle.clap.specs.declared.error.kind.ErrorKind.TheVariants.{DisplayHelp, DisplayVersion, OutOfMemory}
use Rattle.pf_vocabulary.specs.declared.options.fail_on.FailOn.{FailOn}
use Rattle.pf_vocabulary.specs.declared.options.format.Format.{Format}
use Rattle.pf_vocabulary.specs.declared.options.format.Format.TheVariants.{C, Chart, Full, Html, Jobs, Lags, Misses, Quanta, Stats, Svg, Tables, Trace, Windows}
use Rattle.pf_arguments.specs.declared.request.Request.{Request}
use Rattle.pf_arguments.specs.declared.request.Request.TheVariants.{Do, Compare, Sit, Show}
use Rattle.pf_arguments.specs.declared.request.WordsFault.{WordsFault}
use Rattle.pf_arguments.specs.declared.request.WordsFault.TheVariants.{Refused, Mistaken, NoMemory}
use Rattle.pf_arguments.specs.declared.mistake.Mistake.{Mistake}
use Rattle.pf_arguments.specs.declared.mistake.Mistake.TheVariants as why
use Rattle.pf_arguments.specs.declared.mistake.Mistake.TheVariants.{UnknownFormat, BadNumber, NoRange, Unranged, BadCell, NoCell, BadWrap, NoWrap, BadStyle, NoStyle, BadTasks, NoTasks, BadFailOn}
use Rattle.pf_arguments.specs.declared.desk_words.DeskWords.{DeskWords}
use Rattle.pf_arguments.specs.declared.script_pair.ScriptPair.{ScriptPair}
use Rattle.pf_arguments.specs.declared.telling.Telling.{Telling}
use Rattle.pf_arguments.specs.Mistakes.Told.{told_by}
use Rattle.pf_vocabulary.specs.declared.options.slot_range.SlotRange.{SlotRange}
use Rattle.pf_vocabulary.specs.TaskWords.Reading.{words_in}
use Rattle.pf_vocabulary.specs.declared.task_words.task_word.TaskWord.{TaskWord}
use Rattle.pf_arguments.specs.declared.task.Task.{Task}
use Rattle.pf_arguments.specs.declared.task.Task.TheVariants.{Run, RunTasks, Check, CheckRun, Drill, Convert, Fit, Why}
use Rattle.pf_vocabulary.specs.Options.FitFormats.{fit_format_named}
use Rattle.pf_vocabulary.specs.declared.options.fit_format.FitFormat.{FitFormat}
use Rattle.pf_vocabulary.specs.declared.options.fit_format.FitFormat.TheVariants.{Text as FitText}
use Rattle.pf_vocabulary.specs.Look.Looks.{style_named}
use Rattle.pf_vocabulary.specs.Look.Sizes.{cell_of, wrap_of}
use Rattle.pf_vocabulary.specs.declared.look.style.Style.{Style}
use Rattle.pf_arguments.specs.Desks.{DeskNames, desk_given}
use Rattle.pf_arguments.specs.Diffs.{PairNames, are_two, diff_of, options_of, pair_given, pair_named, second_behind, since_of}
use Rattle.pf_vocabulary.specs.Options.FailLists.{fail_on_named, on_nothing}
use Rattle.pf_vocabulary.specs.Options.Formats.{format_named, format_with_cell, format_with_style, format_with_wrap, format_within}
use Rattle.pf_arguments.specs.Help.{topic_asked}
use Rattle.pf_arguments.specs.Texts.{EndsWithLesson, IsRefusal, version_line}
use Rattle.pf_arguments.specs.CommandLine.{any_behind, any_flag, file_behind, has_flag, is_check, is_convert, is_desk, is_diff, is_drill, is_fit, is_why, kinds_of, program, text_behind, text_behind_run}
use Rattle.pf_text.specs.Numbers.{number_of}
use Rattle.pf_vocabulary.specs.Questions.Reading.{question_of}
use Rattle.pf_vocabulary.specs.declared.questions.mistake.WhyMistake.{WhyMistake}
use Rattle.pf_vocabulary.specs.declared.questions.question.Question.{Question}
use Rattle.pf_convert.specs.Words.Reading.{ConvertTexts, IsConversion, conversion_of}
use Rattle.pf_convert.specs.Words.Fits.{fit_of}
use Rattle.pf_convert.specs.declared.words.conversion.Conversion.{Conversion}
use Rattle.pf_convert.specs.declared.words.fit_asked.FitAsked.{FitAsked}
use Rattle.pf_convert.specs.declared.words.mistake.ConvertMistake.{ConvertMistake}
use Rattle.pf_convert.specs.Words.Texts.{convert_mistake_text}

-- without a name the format is `tables`
abbrev pub format_or_tables : Option Text → Option Format
format_or_tables None = Some Tables
format_or_tables (Some name) = format_named name

-- the number that a text is
abbrev pub number_read : Option ℕ → Result (Option ℕ) Mistake
number_read None = Err BadNumber
number_read (Some number) = Ok (Some number)

-- the number that is the text of an option, and none where the option is left out
abbrev pub number_given : Option Text → Result (Option ℕ) Mistake
number_given None = Ok None
number_given (Some text) = number_read (number_of text)

-- the range of these ends
abbrev pub range_given : Result (Option ℕ) Mistake → Result (Option ℕ) Mistake → Result SlotRange Mistake
range_given (Err mistake) to = Err mistake
range_given (Ok from) (Err mistake) = Err mistake
range_given (Ok from) (Ok to) = Ok (record { from = from; to = to })

-- the format, where it has that range
abbrev pub format_in_range : Mistake → Option Format → Result Format Mistake
format_in_range mistake None = Err mistake
format_in_range mistake (Some format) = Ok format

-- what is told where a range is asked of a format that has none
abbrev pub range_mistake : Format → Mistake
range_mistake Jobs = Unranged
range_mistake Trace = Unranged
range_mistake C = Unranged
range_mistake Full = Unranged
range_mistake Html = Unranged
range_mistake format = NoRange

-- the format that is named, of the slots of a range
abbrev pub format_given : Option Format → Result SlotRange Mistake → Result Format Mistake
format_given None range = Err UnknownFormat
format_given (Some format) (Err mistake) = Err mistake
format_given (Some format) (Ok range) = format_in_range (range_mistake format) (format_within format range)

-- the format of a run, of the slots that are asked for, by what was found of a subcommand
abbrev pub format_found : Option (Text × List Row) → Result Format Mistake
format_found found =
    format_given (format_or_tables (text_behind_run (codes "format") found))
    (range_given (number_given (text_behind_run (codes "from") found)) (number_given (text_behind_run (codes "to") found)))

-- the width, where it is one that a slot may have
abbrev pub cell_allowed : Option ℕ → Result (Option ℕ) Mistake
cell_allowed None = Err BadCell
cell_allowed (Some cell) = Ok (Some cell)

-- the width that a text is
abbrev pub cell_read : Option ℕ → Result (Option ℕ) Mistake
cell_read None = Err BadCell
cell_read (Some width) = cell_allowed (cell_of width)

-- the width that is the text of an option, and none where the option is left out
abbrev pub cell_given : Option Text → Result (Option ℕ) Mistake
cell_given None = Ok None
cell_given (Some text) = cell_read (number_of text)

-- the length of a block, where it is one that a picture may have
abbrev pub wrap_allowed : Option ℕ → Result (Option ℕ) Mistake
wrap_allowed None = Err BadWrap
wrap_allowed (Some slots) = Ok (Some slots)

-- the length that a text is
abbrev pub wrap_read : Option ℕ → Result (Option ℕ) Mistake
wrap_read None = Err BadWrap
wrap_read (Some slots) = wrap_allowed (wrap_of slots)

-- the length that is the text of an option, and none where the option is left out
abbrev pub wrap_given : Option Text → Result (Option ℕ) Mistake
wrap_given None = Ok None
wrap_given (Some text) = wrap_read (number_of text)

-- the style that a text names
abbrev pub style_read : Option Style → Result (Option Style) Mistake
style_read None = Err BadStyle
style_read (Some style) = Ok (Some style)

-- the style that the text of an option names, and none where the option is left out
abbrev pub style_given : Option Text → Result (Option Style) Mistake
style_given None = Ok None
style_given (Some name) = style_read (style_named name)

-- the format, where it has a look; else this mistake
abbrev pub format_or : Mistake → Option Format → Result Format Mistake
format_or mistake None = Err mistake
format_or mistake (Some format) = Ok format

-- the format in slots of a width, in blocks, and in a style, where one is given
abbrev pub format_in_cells : Result Format Mistake → Result (Option ℕ) Mistake → Result Format Mistake
format_in_cells (Err mistake) cell = Err mistake
format_in_cells (Ok format) (Err mistake) = Err mistake
format_in_cells (Ok format) (Ok None) = Ok format
format_in_cells (Ok format) (Ok (Some cell)) = format_or NoCell (format_with_cell format cell)

abbrev pub format_in_blocks : Result Format Mistake → Result (Option ℕ) Mistake → Result Format Mistake
format_in_blocks (Err mistake) wrap = Err mistake
format_in_blocks (Ok format) (Err mistake) = Err mistake
format_in_blocks (Ok format) (Ok None) = Ok format
format_in_blocks (Ok format) (Ok (Some wrap)) = format_or NoWrap (format_with_wrap format wrap)

abbrev pub format_in_style : Result Format Mistake → Result (Option Style) Mistake → Result Format Mistake
format_in_style (Err mistake) style = Err mistake
format_in_style (Ok format) (Err mistake) = Err mistake
format_in_style (Ok format) (Ok None) = Ok format
format_in_style (Ok format) (Ok (Some style)) = format_or NoStyle (format_with_style format style)

-- the format of a run, by what was found of a subcommand: of the slots, in slots of the width, in blocks, and in the style
-- that are asked for
abbrev pub format_celled : Option (Text × List Row) → Result Format Mistake
format_celled found = format_in_cells (format_found found) (cell_given (text_behind_run (codes "cell") found))

abbrev pub format_wrapped : Option (Text × List Row) → Result Format Mistake
format_wrapped found = format_in_blocks (format_celled found) (wrap_given (text_behind_run (codes "wrap") found))

abbrev pub format_of : Option (Text × List Row) → Result Format Mistake
format_of found = format_in_style (format_wrapped found) (style_given (text_behind_run (codes "style") found))

-- what a list names that a run is to fail on
abbrev pub fail_on_read : Option FailOn → Result FailOn Mistake
fail_on_read None = Err BadFailOn
fail_on_read (Some fail_on) = Ok fail_on

-- what the list that is the text of an option names, and nothing where the option is left out
abbrev pub fail_on_given : Option Text → Result FailOn Mistake
fail_on_given None = Ok on_nothing
fail_on_given (Some list) = fail_on_read (fail_on_named list)

-- the formats that can show some tasks alone
abbrev pub takes_tasks : Format → Bool
takes_tasks (Windows range) = true
takes_tasks Jobs = true
takes_tasks (Quanta range) = true
takes_tasks Stats = true
takes_tasks Lags = true
takes_tasks Misses = true
takes_tasks (Chart range) = true
takes_tasks (Svg range look) = true
takes_tasks format = false

-- the list of tasks that a text is, of a format that can show these alone
abbrev pub tasks_for : Format → Option (List TaskWord) → Result (Option (List TaskWord)) Mistake
tasks_for format None = Err BadTasks
tasks_for format (Some words) = if takes_tasks format then Ok (Some words) else Err NoTasks

-- the list that is the text of an option, and none where the option is left out
abbrev pub tasks_given : Format → Option Text → Result (Option (List TaskWord)) Mistake
tasks_given format None = Ok None
tasks_given format (Some text) = tasks_for format (words_in text)

-- to run it in that format, of those tasks alone where some are listed, and to fail on that
abbrev pub run_with : Format → Option (List TaskWord) → FailOn → Task
run_with format None fail_on = Run format fail_on
run_with format (Some words) fail_on = RunTasks format words fail_on

abbrev pub run_listed : Format → Result (Option (List TaskWord)) Mistake → Result FailOn Mistake → Result Task Mistake
run_listed format (Err mistake) fail_on = Err mistake
run_listed format (Ok tasks) (Err mistake) = Err mistake
run_listed format (Ok tasks) (Ok fail_on) = Ok (run_with format tasks fail_on)

abbrev pub run_given : Result Format Mistake → Option Text → Result FailOn Mistake → Result Task Mistake
run_given (Err mistake) tasks fail_on = Err mistake
run_given (Ok format) tasks fail_on = run_listed format (tasks_given format tasks) fail_on

-- the run that is asked for, by what was found of a subcommand
abbrev pub run_of : Option (Text × List Row) → Result Task Mistake
run_of found = run_given (format_of found) (text_behind_run (codes "task") found) (fail_on_given (text_behind_run (codes "fail-on") found))

-- the texts of a conversion, or of a fit, by what was found of a subcommand
abbrev pub convert_texts : Option (Text × List Row) → ConvertTexts
convert_texts found = record {
  format = any_behind (codes "format") found;
  unit = any_behind (codes "unit") found;
  quantum = any_behind (codes "quantum") found;
  switch = any_behind (codes "switch") found;
  processors = any_behind (codes "processors") found;
  arrivals = any_behind (codes "arrivals") found;
}

-- to convert a list so
abbrev pub convert_given : Result Conversion ConvertMistake → Result Task Mistake
convert_given (Err mistake) = Err (why.Convert mistake)
convert_given (Ok conversion) = Ok (Convert conversion)

-- to tell why that slot went as it did
abbrev pub why_given : Result Question WhyMistake → Result Task Mistake
why_given (Err mistake) = Err (why.Why mistake)
why_given (Ok question) = Ok (Why question)

-- the question about a slot, by what was found of a subcommand
abbrev pub why_of : Option (Text × List Row) → Result Task Mistake
why_of found =
    why_given (question_of (text_behind (codes "why") (codes "slot") found) (text_behind (codes "why") (codes "format") found)
    (text_behind (codes "why") (codes "task") found))

-- a check, which may carry the script out too
abbrev pub check_of : Option (Text × List Row) → Task
check_of found = if has_flag (codes "check") (codes "run") found then CheckRun else Check

-- the format of a fit that a text names, and text where it is left out
abbrev pub fit_format_given : Option Text → Option FitFormat
fit_format_given None = Some FitText
fit_format_given (Some name) = fit_format_named name

-- to tell so whether it fits
abbrev pub fit_given : Result FitAsked ConvertMistake → Result Task Mistake
fit_given (Err mistake) = Err (why.Convert mistake)
fit_given (Ok asked) = Ok (Fit asked)

-- what a subcommand asks for, and none: the format is a name of one, the ends of the range are numbers, the format has
-- that range, the width is one that a slot of the format may have, what a run is to fail on is a list of that, and the
-- number of a record is one, the words of a conversion are in order, and so are those that ask of a slot, or the words are mistaken
abbrev pub task_of : Option (Text × List Row) → Result Task Mistake
task_of found =
    if is_drill found then Ok Drill
    else if is_check found then Ok (check_of found)
    else if is_diff found then diff_of found
    else if is_convert found then convert_given (conversion_of (convert_texts found))
    else if is_why found then why_of found
    else if is_fit found then fit_given (fit_of (fit_format_given (any_behind (codes "format") found)) (convert_texts found))
    else run_of found

-- the file of this text: none where it is `-`, which is standard input
abbrev pub file_of : Option Text → Option Text
file_of None = None
file_of (Some text) = if bytes_eq text (codes "-") then None else Some text

-- the file that is named after a subcommand; a drill has none
abbrev pub file_found : Option (Text × List Row) → Option Text
file_found found = if is_drill found then None else file_of (file_behind found)

-- whether a text is the name of a file, and whether a file is named after a subcommand
abbrev pub is_file : Option Text → Bool
is_file name = is_some (file_of name)

abbrev pub names_file : Option (Text × List Row) → Bool
names_file found = is_file (file_behind found) || is_file (second_behind found)

-- messages are short where nothing asks for more: those of a run, with or without its word, and of a drill
abbrev pub is_short : Option (Text × List Row) → Bool
is_short None = true
is_short (Some (name, rows)) = bytes_eq name (codes "run") || bytes_eq name (codes "drill")

abbrev pub is_whole : Option (Text × List Row) → Bool
is_whole found = not (is_short found) || any_flag (codes "notes") found || names_file found

-- what is to be told: whole messages, hints and notes with them but where `--quiet` is; how a script or a list ends where it has no word
abbrev pub telling_of : Option (Text × List Row) → Telling
telling_of found = record {
  whole = is_whole found;
  notes = is_whole found && not (any_flag (codes "quiet") found);
  prompt = not (any_flag (codes "quiet") found) && not (is_some (file_behind found)) && not (is_desk found);
}

-- what is told of words that the grammar takes, but that ask for nothing
abbrev pub mistake_told : Option (Text × List Row) → Mistake → List ℕ
mistake_told found (why.Convert mistake) = convert_mistake_text (convert_texts found) mistake
mistake_told found mistake = told_by (telling_of found) found mistake

abbrev pub IsMistakeText : Option (Text × List Row) → Mistake → List ℕ → Type 0
IsMistakeText found mistake text = text ≡ mistake_told found mistake

-- the two scripts that are to be compared
abbrev pub pair_of : Option (Text × List Row) → Result PairNames Mistake
pair_of found = pair_given (since_of found) (pair_named (options_of found) (file_found found) (file_of (second_behind found)))

-- what is asked for, a task with one script, the two that are to be compared or a session at a desk; or else the mistake
abbrev pub task_found : Option (Text × List Row) → Option Task
task_found found = if are_two found then None else if is_desk found then None else result_ok (task_of found)

abbrev pub pair_found : Option (Text × List Row) → Option PairNames
pair_found found = if are_two found then result_ok (pair_of found) else None

abbrev pub mistake_found : Option (Text × List Row) → Option Mistake
mistake_found found = if are_two found then result_err (pair_of found) else if is_desk found then None else result_err (task_of found)

abbrev pub desk_found : Option (Text × List Row) → Option DeskNames
desk_found found = if are_two found then None else if is_desk found then Some (desk_given (file_found found) found) else None

-- what the words ask for: nothing where the grammar does not take them, and where they are mistaken
unfoldable pub task_asked : List Text → Option Task
task_asked words = if is_empty (kinds_of words) then task_found (subcommand_of program words) else None

unfoldable pub pair_asked : List Text → Option PairNames
pair_asked words = if is_empty (kinds_of words) then pair_found (subcommand_of program words) else None

unfoldable pub desk_asked : List Text → Option DeskNames
desk_asked words = if is_empty (kinds_of words) then desk_found (subcommand_of program words) else None

-- the file that the words name, which is read in place of standard input
unfoldable pub file_asked : List Text → Option Text
file_asked words = if is_empty (kinds_of words) then file_found (subcommand_of program words) else None

-- what the words ask to be told; nothing where the grammar does not take them
unfoldable pub telling_asked : List Text → Telling
telling_asked words = if is_empty (kinds_of words) then telling_of (subcommand_of program words) else record { whole = false; notes = false; prompt = false }

-- the text of a file's name
abbrev pub name_of : Option (String Global) → Option Text
name_of = option_map string_bytes

abbrev pub names_of : ScriptPair → PairNames
names_of pair = record { first = name_of pair.first; second = name_of pair.second; options = pair.options }

abbrev pub desk_named : DeskWords → DeskNames
desk_named desk = record { script = name_of desk.script; journal = name_of desk.journal; json = desk.json; quiet = desk.quiet }

-- whether the script of a task is standard input, or one of two scripts is; the lines of a session are
abbrev pub reads_input_for : Option Task → Option Text → Option PairNames → Option DeskNames → Bool
reads_input_for (Some task) file pair desk = not (is_some file)
reads_input_for None file (Some pair) desk = not (is_some pair.first && is_some pair.second)
reads_input_for None file None desk = is_some desk

abbrev pub reads_input : List Text → Bool
reads_input words = reads_input_for (task_asked words) (file_asked words) (pair_asked words) (desk_asked words)

-- the grammar may answer with help
abbrev pub AsksHelp : List Text → Type 0
AsksHelp words = IsAmong DisplayHelp (kinds_of words)

-- the grammar may answer with the version
abbrev pub AsksVersion : List Text → Type 0
AsksVersion words = IsAmong DisplayVersion (kinds_of words)

-- the text of a topic is its own, and that of help ends with the lesson that the words ask for
abbrev pub IsHelpText : Option Text → List Text → Text → Type 0
IsHelpText (Some topic) words text = text ≡ topic
IsHelpText None words text = EndsWithLesson words text

-- the text is one of help, of a topic or none, or it is the line of the version
abbrev pub IsTextOf : (help version : Type 0) → Option Text → List Text → Text → Type 0
IsTextOf help version topic words text = (help × IsHelpText topic words text) ⊎ (version × (text ≡ version_line))

-- the text is what the words may ask to be shown
abbrev pub IsShownTo : List Text → Text → Type 0
IsShownTo words text = IsTextOf (AsksHelp words) (AsksVersion words) (topic_asked words) words text

-- an error of this kind shows a text that was asked for: help, or the version
abbrev pub IsShown : ErrorKind → Type 0
IsShown kind = (kind ≡ DisplayHelp) ⊎ (kind ≡ DisplayVersion)

-- the grammar may refuse the words, which ask for no topic
abbrev pub IsRefused : List Text → Type 0
IsRefused words = (kind : ErrorKind) × ¬ IsShown kind × IsAmong kind (kinds_of words) × (topic_asked words ≡ None)

-- the grammar takes the words, and they are mistaken
abbrev pub AreMistaken : List Text → Mistake → Type 0
AreMistaken words mistake = (kinds_of words ≡ []) × (mistake_found (subcommand_of program words) ≡ Some mistake)

-- this answer is what the words ask for; running out of memory may stand in place of any
abbrev pub IsAsked : List Text → Result Request WordsFault → Type 0
IsAsked words (Ok (Do task file telling)) = (task_asked words ≡ Some task) × (name_of file ≡ file_asked words) × (telling ≡ telling_asked words)
IsAsked words (Ok (Compare pair telling)) = (task_asked words ≡ None) × (pair_asked words ≡ Some (names_of pair)) × (telling ≡ telling_asked words)
IsAsked words (Ok (Sit desk)) = (task_asked words ≡ None) × (pair_asked words ≡ None) × (desk_asked words ≡ Some (desk_named desk))
IsAsked words (Ok (Show text)) = IsShownTo words (string_bytes text)
IsAsked words (Err (Refused text)) = IsRefused words × IsRefusal words text.items
IsAsked words (Err (Mistaken text)) = (mistake : Mistake) × AreMistaken words mistake × IsMistakeText (subcommand_of program words) mistake text.items
IsAsked words (Err NoMemory) = Unit {0}

-- this answer is what words ask for that the grammar takes, by what was found of a subcommand
abbrev pub IsRequest : Option (Text × List Row) → Result Request WordsFault → Type 0
IsRequest found (Ok (Do task file telling)) = (task_found found ≡ Some task) × (name_of file ≡ file_found found) × (telling ≡ telling_of found)
IsRequest found (Ok (Compare pair telling)) = (task_found found ≡ None) × (pair_found found ≡ Some (names_of pair)) × (telling ≡ telling_of found)
IsRequest found (Ok (Sit desk)) = (task_found found ≡ None) × (pair_found found ≡ None) × (desk_found found ≡ Some (desk_named desk))
IsRequest found (Ok (Show text)) = ⊥
IsRequest found (Err (Refused text)) = ⊥
IsRequest found (Err (Mistaken text)) = (mistake : Mistake) × (mistake_found found ≡ Some mistake) × IsMistakeText found mistake text.items
IsRequest found (Err NoMemory) = Unit {0}

-- this answer is the two scripts that are asked for, by what was found of a subcommand
abbrev pub IsPair : Option (Text × List Row) → Result PairNames Mistake → Result ScriptPair WordsFault → Type 0
IsPair found asked (Ok pair) = asked ≡ Ok (names_of pair)
IsPair found asked (Err (Refused text)) = ⊥
IsPair found asked (Err (Mistaken text)) = (mistake : Mistake) × (asked ≡ Err mistake) × IsMistakeText found mistake text.items
IsPair found asked (Err NoMemory) = Unit {0}

-- what is answered to an error of this kind, of these words
abbrev pub ShowsError : List Text → ErrorKind → Result Request WordsFault → Type 0
ShowsError words kind (Ok (Do task file telling)) = ⊥
ShowsError words kind (Ok (Compare pair telling)) = ⊥
ShowsError words kind (Ok (Sit desk)) = ⊥
ShowsError words kind (Ok (Show text)) = IsTextOf (kind ≡ DisplayHelp) (kind ≡ DisplayVersion) None words (string_bytes text)
ShowsError words kind (Err (Refused text)) = (kind ≢ OutOfMemory) × ¬ IsShown kind × IsRefusal words text.items
ShowsError words kind (Err (Mistaken text)) = ⊥
ShowsError words kind (Err NoMemory) = Unit {0}

-- a conversion that is asked for is in order, and so is what a list is planned for to tell whether it fits
abbrev pub IsSound : Task → Type 0
IsSound (Convert conversion) = IsConversion conversion
IsSound (Fit asked) = IsConversion asked.conversion
IsSound task = ⊤

abbrev pub IsSoundRequest : Request → Type 0
IsSoundRequest (Do task file telling) = IsSound task
IsSoundRequest (Compare pair telling) = ⊤
IsSoundRequest (Sit desk) = ⊤
IsSoundRequest (Show text) = ⊤
