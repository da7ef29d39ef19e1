use Rattle.std.proofs.Common.{◌∙◌, sym}
use Rattle.clap.specs.Words.{found_of, subcommand_rows_of}
use Rattle.clap.proofs.WalkLemmas.{first_value-rows}
use Rattle.pf_arguments.proofs.Reading.{behind_any}
use Rattle.pf_arguments.proofs.telling_words.any_text.Goals as goal

pub returns : goal.returns
returns c =
    let inner = c.in_ok-subcommand in
    c.get_str.ensures ∙ first_value-rows (found_of inner.field-0.1.now) c.args.option.now
    ∙ behind_any c.args.option.now (subcommand_rows_of c.args.matches.now) _ (sym inner.ensures.rows)
