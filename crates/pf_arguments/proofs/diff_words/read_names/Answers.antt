use Rattle.clap.specs.Words.{subcommand_rows_of}
use Rattle.pf_arguments.specs.declared.mistake.Mistake.TheVariants.{InputTwice}
use Rattle.pf_arguments.specs.Diffs.{options_of}
use Rattle.pf_arguments.proofs.Pairs.{two_inputs}
use Rattle.pf_arguments.proofs.diff_words.read_names.Goals as goal

pub returns-then-is_none-2 : goal.returns-then-is_none-2
returns-then-is_none-2 c = (
  InputTwice,
  two_inputs (options_of (subcommand_rows_of c.args.matches.now)) c.in_ok-first.first c.in_ok-second.second _ _ c.is_none.result c.is_none-then-is_none.result
      c.in_ok-first.ensures c.in_ok-second.ensures c.is_none.ensures c.if-is_none.true c.is_none-then-is_none.ensures c.if-is_none-2.true,
  c.in_ok-mistake_text.ensures,
)
