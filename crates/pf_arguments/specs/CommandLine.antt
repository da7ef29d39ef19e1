-- The program's command line, as clap's definitions see it.
use Rattle.std.specs.Prelude.{ℕ, Bool, true, false, if◌then◌else◌, List, [], ◌∷◌, Option, Some, None, codes}
use Rattle.std.specs.Option.{option_map_or}
use Rattle.std.specs.Str.{bytes_eq}
use Rattle.clap.specs.Walk.{is_empty}
use Rattle.clap.specs.Words.{App, Kinds, Row, Rule, Shape, Text, fault_of, first_of, new_rule}
use Rattle.clap.specs.Simple.{new_shape}
use Rattle.clap.specs.declared.builder.action.ArgAction.TheVariants.{Set, SetTrue}

-- a flag of this name
abbrev pub flag_named : Text → Rule
flag_named name = record (new_rule name) { long = Some name; action = Some SetTrue }

-- an option of this name, with one text
abbrev pub text_option : Text → Rule
text_option name = record (new_rule name) { long = Some name; value_names = 1; action = Some Set }

-- a text without a name
abbrev pub text_argument : Text → Rule
text_argument name = record (new_rule name) { value_names = 1; action = Some Set }

-- the rule with a letter too
abbrev pub with_letter : ℕ → Rule → Rule
with_letter letter rule = record rule { short = Some letter }

-- the rule of what has to be there
abbrev pub required : Rule → Rule
required rule = record rule { required = true }

-- the options `--format`, or `-f`, and `--output`, or `-o`, the flags `--notes` and `--quiet`, or `-q`, and FILE, which several subcommands have
abbrev pub format_option : Rule
format_option = with_letter 102 (text_option (codes "format"))

abbrev pub output_option : Rule
output_option = with_letter 111 (text_option (codes "output"))

abbrev pub notes_flag : Rule
notes_flag = flag_named (codes "notes")

abbrev pub quiet_flag : Rule
quiet_flag = with_letter 113 (flag_named (codes "quiet"))

abbrev pub file_argument : Rule
file_argument = text_argument (codes "file")

-- a subcommand of this name, with these rules
abbrev pub command : Text → List Rule → Shape
command name rules = record (new_shape name) { rules = rules }

abbrev pub run_command : Shape
run_command = command (codes "run")
    (format_option ∷ output_option ∷ text_option (codes "from") ∷ text_option (codes "to") ∷ text_option (codes "task") ∷ text_option (codes "fail-on")
    ∷ text_option (codes "cell") ∷ text_option (codes "wrap") ∷ text_option (codes "style") ∷ notes_flag ∷ quiet_flag ∷ file_argument ∷ [])

abbrev pub check_command : Shape
check_command = command (codes "check") (flag_named (codes "run") ∷ output_option ∷ quiet_flag ∷ file_argument ∷ [])

-- `diff`, which may have a second file
abbrev pub diff_command : Shape
diff_command = command (codes "diff")
    (text_option (codes "since") ∷ flag_named (codes "summary") ∷ flag_named (codes "exit-code") ∷ output_option ∷ notes_flag
    ∷ quiet_flag ∷ file_argument ∷ text_argument (codes "second") ∷ [])

abbrev pub drill_command : Shape
drill_command = command (codes "drill") (notes_flag ∷ quiet_flag ∷ [])

abbrev pub why_command : Shape
why_command = command (codes "why")
    (required (text_argument (codes "slot")) ∷ text_option (codes "task") ∷ format_option ∷ output_option ∷ notes_flag ∷ quiet_flag ∷ file_argument ∷ [])

-- what a list of tasks may be asked for, to convert it, or to tell whether it fits
abbrev pub list_rules : List Rule
list_rules =
    text_option (codes "quantum") ∷ text_option (codes "processors") ∷ text_option (codes "switch") ∷ text_option (codes "arrivals")
    ∷ text_option (codes "unit") ∷ format_option ∷ output_option ∷ file_argument ∷ []

abbrev pub convert_command : Shape
convert_command = command (codes "convert") list_rules

abbrev pub fit_command : Shape
fit_command = command (codes "fit") list_rules

abbrev pub desk_command : Shape
desk_command = command (codes "desk") (flag_named (codes "json") ∷ text_option (codes "journal") ∷ quiet_flag ∷ file_argument ∷ [])

-- `pfair`, with these subcommands: its own name is not among the words, and it tells its version
abbrev pub program_with : List Shape → App
program_with commands = record {
  top = record (new_shape (codes "pfair")) { is_leaf = is_empty commands; no_binary_name = true; has_version = true };
  subs = commands;
}

abbrev pub program : App
program = program_with
    (fit_command ∷ run_command ∷ why_command ∷ check_command ∷ diff_command ∷ convert_command ∷ desk_command ∷ drill_command ∷ [])

-- the kinds of error by which the grammar does not take the words; it takes them where there is none
unfoldable pub kinds_of : List Text → Kinds
kinds_of words = fault_of program words

-- the text of an option after the subcommand of a name, in what clap found of a subcommand
abbrev pub text_behind : Text → Text → Option (Text × List Row) → Option Text
text_behind name option None = None
text_behind name option (Some found) = if bytes_eq found.0 name then first_of option found.1 else None

-- the text of an option after `run`
abbrev pub text_behind_run : Text → Option (Text × List Row) → Option Text
text_behind_run option found = text_behind (codes "run") option found

-- whether a flag stands after the subcommand of a name: clap gives each flag a text
abbrev pub has_flag : Text → Text → Option (Text × List Row) → Bool
has_flag name flag found = option_map_or (λ text. bytes_eq text (codes "true")) (text_behind name flag found) false

-- the text of an option after a subcommand, whichever that is
abbrev pub any_behind : Text → Option (Text × List Row) → Option Text
any_behind option None = None
any_behind option (Some found) = first_of option found.1

-- whether a flag stands there
abbrev pub any_flag : Text → Option (Text × List Row) → Bool
any_flag flag found = option_map_or (λ text. bytes_eq text (codes "true")) (any_behind flag found) false

-- the text of FILE
abbrev pub file_behind : Option (Text × List Row) → Option Text
file_behind found = any_behind (codes "file") found

-- whether the subcommand has this name
abbrev pub is_named : Text → Option (Text × List Row) → Bool
is_named name None = false
is_named name (Some found) = bytes_eq found.0 name

-- whether the subcommand is `check`
abbrev pub is_check : Option (Text × List Row) → Bool
is_check found = is_named (codes "check") found

-- whether the subcommand is `diff`
abbrev pub is_diff : Option (Text × List Row) → Bool
is_diff found = is_named (codes "diff") found

-- whether the subcommand is `drill`
abbrev pub is_drill : Option (Text × List Row) → Bool
is_drill found = is_named (codes "drill") found

-- whether the subcommand is `convert`
abbrev pub is_convert : Option (Text × List Row) → Bool
is_convert found = is_named (codes "convert") found

-- whether the subcommand is `why`
abbrev pub is_why : Option (Text × List Row) → Bool
is_why found = is_named (codes "why") found

-- whether the subcommand is `fit`
abbrev pub is_fit : Option (Text × List Row) → Bool
is_fit found = is_named (codes "fit") found

-- whether the subcommand is `desk`
abbrev pub is_desk : Option (Text × List Row) → Bool
is_desk found = is_named (codes "desk") found
