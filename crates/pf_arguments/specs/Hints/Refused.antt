-- What would be right in place of words that the program does not take; nothing where nothing is said of that.
use Rattle.std.specs.Prelude.{ℕ, Bool, false, ◌||◌, ◌&&◌, ◌==◌, not, length, is_some, if◌then◌else◌, List, [], ◌∷◌, ◌++◌, Option, None, Some, map, find, codes}
use Rattle.std.specs.List.{filter, flat_map, list_all, list_any}
use Rattle.std.specs.Str.{bytes_eq}
use Rattle.clap.specs.Words.{Text}
use Rattle.pf_message.specs.Shell.{shell_word}
use Rattle.pf_vocabulary.specs.Options.Formats.{format_named}
use Rattle.pf_text.specs.FileName.{is_plain}
use Rattle.pf_arguments.specs.Help.{help_meant}
use Rattle.pf_arguments.specs.Hints.Words.{before_equals, is_command, is_list_word, is_of_run, is_script, spaced_word}

-- these words after others
abbrev pub command_line : List ℕ → Text → List Text → List ℕ
command_line front word words = front ++ shell_word word ++ flat_map spaced_word words

-- without its word a run is asked for by a format or by words of it, where one word names a script, and all can be shown as they are
abbrev pub run_hint : Text → List Text → List ℕ
run_hint first words =
    if is_some (format_named first) then command_line (codes "pfair run -f ") first words
    else if is_of_run first then command_line (codes "pfair run ") first words
    else []

abbrev pub script_hint : Text → List Text → List ℕ
script_hint first words =
    if (is_script first || list_any is_script words) && (is_plain first && list_all is_plain words) then run_hint first words else []

-- a drill reads standard input
abbrev pub drill_hint : List Text → List ℕ
drill_hint [] = []
drill_hint (word ∷ []) = if is_script word && is_plain word then codes "pfair drill < " ++ shell_word word else []
drill_hint (word ∷ other ∷ words) = []

-- a run reads one script
abbrev pub scripts_hint : List Text → List ℕ
scripts_hint [] = []
scripts_hint (first ∷ []) = []
scripts_hint (first ∷ second ∷ []) =
    if is_plain first && is_plain second then codes "pfair diff " ++ shell_word first ++ spaced_word second else []
scripts_hint (first ∷ second ∷ third ∷ words) = codes "run takes one file"

-- behind a command that takes no list of tasks, with the first word of such a list
abbrev pub listed_hint : Option Text → Text → List Text → List ℕ
listed_hint (Some word) command words = word ++ codes " is a word of pfair fit and pfair convert"
listed_hint None command words =
    if bytes_eq command (codes "drill") then drill_hint words
    else if bytes_eq command (codes "run") then scripts_hint (filter is_script words)
    else []

abbrev pub takes_lists : Text → Bool
takes_lists command = bytes_eq command (codes "fit") || bytes_eq command (codes "convert")

abbrev pub unlisted_hint : Text → List Text → List ℕ
unlisted_hint command words =
    if takes_lists command then [] else listed_hint (find is_list_word (map before_equals words)) command words

-- behind a command the version, and JSON, which has a format
abbrev pub json_format : Text → List ℕ
json_format command =
    if bytes_eq command (codes "run") then codes "-f full"
    else if takes_lists command || bytes_eq command (codes "why") then codes "-f json"
    else []

abbrev pub has_word : Text → List Text → Bool
has_word word words = list_any (bytes_eq word) words

abbrev pub flag_hint : Text → List Text → List ℕ
flag_hint command words =
    if has_word (codes "--version") words || has_word (codes "-V") words then codes "pfair --version"
    else if has_word (codes "--json") words then json_format command
    else []

-- the first hint that is one
abbrev pub or_hint : List ℕ → List ℕ → List ℕ
or_hint hint next = if length hint == 0 then next else hint

abbrev pub command_hint : Text → List Text → List ℕ
command_hint command words = or_hint (flag_hint command words) (unlisted_hint command words)

-- `help` and a word
abbrev pub help_hint : List Text → List ℕ
help_hint [] = []
help_hint (word ∷ []) = help_meant word
help_hint (word ∷ other ∷ words) = []

-- by the first word
abbrev pub hint_by : Text → List Text → List ℕ
hint_by first words =
    if is_command first then command_hint first words
    else if bytes_eq first (codes "help") then help_hint words
    else if bytes_eq first (codes "version") || bytes_eq first (codes "-v") then codes "pfair --version"
    else script_hint first words

abbrev pub refused_hint : List Text → List ℕ
refused_hint [] = []
refused_hint (first ∷ words) = hint_by first words

-- what is told of refused words is short as that of a run and a drill is, where none of them names a script
abbrev pub begins_short : List Text → Bool
begins_short [] = false
begins_short (first ∷ words) = bytes_eq first (codes "run") || bytes_eq first (codes "drill")

abbrev pub is_told_whole : List Text → Bool
is_told_whole words = not (begins_short words) || list_any is_script words

-- the front of the tip how a word is passed as a value
abbrev pub tip_front : List ℕ
tip_front = codes "\n  tip: to pass '"
