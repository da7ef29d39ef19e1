use Rattle.pf_arguments.proofs.Growing.{next_row}
use Rattle.pf_arguments.proofs.command_line.program_with.Goals as goal

pub loop-subcommand-preserved : goal.loop-subcommand-preserved
loop-subcommand-preserved c =
    next_row c.args.subcommands.now c.loop-subcommand.subcommand-index _ _ _ c.loop-subcommand-test.true c.loop-subcommand.invariant c.in_ok-program-2.ensures
