-- The tables of the command line, read as clap's rules.
use Rattle.std.specs.Prelude.{Some, map}
use Rattle.clap.specs.Words.{Rule, Shape, new_rule}
use Rattle.clap.specs.declared.builder.action.ArgAction.TheVariants.{Set, SetTrue}
use Rattle.pf_arguments.specs.CommandLine.{command}
use Rattle.pf_arguments.specs.declared.argument.Argument.{Argument}
use Rattle.pf_arguments.specs.declared.form.Form.{Form}
use Rattle.pf_arguments.specs.declared.form.Form.TheVariants.{Flag, Named, Placed}
use Rattle.pf_arguments.specs.declared.subcommand.Subcommand.{Subcommand}

-- the rule, in this form
abbrev pub in_form : Form → Rule → Rule
in_form Flag rule = record rule { long = Some rule.id; action = Some SetTrue }
in_form (Named value) rule = record rule { long = Some rule.id; value_names = 1; action = Some Set }
in_form (Placed value) rule = record rule { value_names = 1; action = Some Set }

-- the rule of a row
abbrev pub rule_of_argument : Argument → Rule
rule_of_argument a = in_form a.form (record (new_rule a.name.now) { short = a.letter; required = a.is_required })

-- a subcommand's name, with the rules of its rows
abbrev pub shape_of_subcommand : Subcommand → Shape
shape_of_subcommand s = command s.name.now (map rule_of_argument s.arguments.now)
