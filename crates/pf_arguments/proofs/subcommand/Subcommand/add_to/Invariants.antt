use Rattle.std.proofs.Common.{◌≡◌, false, map, take}
use Rattle.clap.specs.Words.{shape_of}
use Rattle.clap.specs.declared.builder.command.Command.TheViews.{out-Command}
use Rattle.pf_arguments.specs.CommandLine.{command}
use Rattle.pf_arguments.specs.Rows.{rule_of_argument}
use Rattle.pf_arguments.proofs.subcommand.Subcommand.add_to.Given as goal

abbrev pub invariant-loop-argument : goal.invariant-loop-argument
invariant-loop-argument l = record {
  shape : shape_of l.command ≡ command l.self.name.now (map rule_of_argument (take l.argument-index l.self.arguments.now));
  local : (out-Command l.command).has_globals ≡ false;
}
