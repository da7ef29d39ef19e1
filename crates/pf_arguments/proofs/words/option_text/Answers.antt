use Rattle.std.proofs.Common.{◌∙◌, refl}
use Rattle.clap.specs.Words.{found_of, subcommand_rows_of}
use Rattle.clap.proofs.WalkLemmas.{first_value-rows}
use Rattle.pf_arguments.proofs.Reading.{behind_named, option_map-option_map}
use Rattle.pf_arguments.proofs.words.option_text.Goals as goal

pub returns : goal.returns
returns c =
    let inner = c.in_ok-subcommand_matches in
    c.get_str.ensures ∙ first_value-rows (found_of inner.field-0.now) c.args.option.now
    ∙ behind_named c.args.name.now c.args.option.now (subcommand_rows_of c.args.matches.now) _ (option_map-option_map _ _ _ ∙ inner.ensures.found.0 refl) inner.ensures.rows
