-- What words ask a diff for.
use Rattle.std.specs.Prelude.{ℕ, ◌==◌, Bool, is_some, if◌then◌else◌, List, Option, None, Some, Result, Ok, Err, codes}
use Rattle.clap.specs.Words.{Row, Text}
use Rattle.pf_text.specs.Numbers.{number_of}
use Rattle.pf_vocabulary.specs.declared.options.diff_options.DiffOptions.{DiffOptions}
use Rattle.pf_arguments.specs.declared.mistake.Mistake.{Mistake}
use Rattle.pf_arguments.specs.declared.mistake.Mistake.TheVariants.{BadSince, SinceOfTwo, InputTwice}
use Rattle.pf_arguments.specs.declared.task.Task.{Task}
use Rattle.pf_arguments.specs.declared.task.Task.TheVariants.{Diff}
use Rattle.pf_arguments.specs.CommandLine.{has_flag, text_behind}

-- the record that a number names: they are counted from 1
abbrev pub since_read : Option ℕ → Result (Option ℕ) Mistake
since_read None = Err BadSince
since_read (Some number) = if number == 0 then Err BadSince else Ok (Some number)

-- the record that is the text of an option, and none where the option is left out
abbrev pub since_given : Option Text → Result (Option ℕ) Mistake
since_given None = Ok None
since_given (Some text) = since_read (number_of text)

-- the same, by what was found of a subcommand
abbrev pub since_of : Option (Text × List Row) → Result (Option ℕ) Mistake
since_of found = since_given (text_behind (codes "diff") (codes "since") found)

-- how it is to be told, and to end
abbrev pub options_of : Option (Text × List Row) → DiffOptions
options_of found = record {
  summary = has_flag (codes "diff") (codes "summary") found;
  exit_code = has_flag (codes "diff") (codes "exit-code") found;
}

-- to tell what the records from that one on changed
abbrev pub diff_given : DiffOptions → Result (Option ℕ) Mistake → Result Task Mistake
diff_given options (Err mistake) = Err mistake
diff_given options (Ok since) = Ok (Diff since options)

abbrev pub diff_of : Option (Text × List Row) → Result Task Mistake
diff_of found = diff_given (options_of found) (since_of found)

-- the text of a second script
abbrev pub second_behind : Option (Text × List Row) → Option Text
second_behind found = text_behind (codes "diff") (codes "second") found

-- whether two scripts are to be compared
abbrev pub are_two : Option (Text × List Row) → Bool
are_two found = is_some (second_behind found)

-- the names of two scripts, none that of standard input, and how the diff of both is to be told and to end
pub record PairNames : Type 0 where
  pub first : Option Text
  pub second : Option Text
  pub options : DiffOptions

-- one of them may be standard input
abbrev pub pair_named : DiffOptions → Option Text → Option Text → Result PairNames Mistake
pair_named options None None = Err InputTwice
pair_named options first second = Ok (record { first = first; second = second; options = options })

-- and no record of theirs is told apart
abbrev pub pair_given : Result (Option ℕ) Mistake → Result PairNames Mistake → Result PairNames Mistake
pair_given (Err mistake) pair = Err mistake
pair_given (Ok (Some since)) pair = Err SinceOfTwo
pair_given (Ok None) pair = pair
