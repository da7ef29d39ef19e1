-- What words ask a desk for.
use Rattle.std.specs.Prelude.{Bool, List, Option, codes}
use Rattle.clap.specs.Words.{Row, Text}
use Rattle.pf_arguments.specs.CommandLine.{has_flag, text_behind}

-- the file of the script whose records come first, if there is one, and that of the journal; whether answers are JSON; and whether
-- nothing is told beside them
pub record DeskNames : Type 0 where
  pub script : Option Text
  pub journal : Option Text
  pub json : Bool
  pub quiet : Bool

-- the same, by what was found of a subcommand
abbrev pub desk_given : Option Text → Option (Text × List Row) → DeskNames
desk_given script found = record {
  script = script;
  journal = text_behind (codes "desk") (codes "journal") found;
  json = has_flag (codes "desk") (codes "json") found;
  quiet = has_flag (codes "desk") (codes "quiet") found;
}
