use Rattle.std.proofs.Common.{◌≡◌, map, take}
use Rattle.clap.specs.Words.{app_of}
use Rattle.pf_arguments.specs.CommandLine.{program_with}
use Rattle.pf_arguments.specs.Rows.{shape_of_subcommand}
use Rattle.pf_arguments.proofs.command_line.program_with.Given as goal

abbrev pub invariant-loop-subcommand : goal.invariant-loop-subcommand
invariant-loop-subcommand l =
    app_of l.program ≡ program_with (map shape_of_subcommand (take l.subcommand-index l.subcommands))
