-- Where the words have an answer written.
use Rattle.std.specs.Prelude.{Bool, ◌||◌, if◌then◌else◌, List, Option, Some, None, codes, string_bytes, option_map}
use Rattle.clap.specs.Walk.{is_empty}
use Rattle.clap.specs.Words.{Row, Text, subcommand_of}
use Rattle.pf_arguments.specs.Asked.{file_of}
use Rattle.pf_arguments.specs.CommandLine.{any_behind, is_check, is_diff, kinds_of, program}
use Rattle.pf_arguments.specs.declared.output_words.OutputWords.{OutputWords}

-- the path of a file, and whether a status of 1 is an answer
pub record Output : Type 0 where
  pub path : Text
  pub is_test : Bool

-- the file of this name, after a subcommand; a check and a diff are tests
abbrev pub output_to : Option (Text × List Row) → Option Text → Option Output
output_to found None = None
output_to found (Some path) = Some (record { path = path; is_test = is_check found || is_diff found })

-- what clap found of `--output`; none where it is left out, or is `-`
abbrev pub output_found : Option (Text × List Row) → Option Output
output_found found = output_to found (file_of (any_behind (codes "output") found))

-- what the words ask for; none where the grammar does not take them
unfoldable pub output_asked : List Text → Option Output
output_asked words = if is_empty (kinds_of words) then output_found (subcommand_of program words) else None

abbrev pub output_named : Option OutputWords → Option Output
output_named output = option_map (λ o. record { path = string_bytes o.path; is_test = o.is_test }) output
