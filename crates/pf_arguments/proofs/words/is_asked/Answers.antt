use Rattle.std.proofs.Common.{◌∙◌, sym}
use Rattle.clap.specs.Words.{subcommand_rows_of}
use Rattle.pf_arguments.proofs.Reading.{has_name, option_map-option_map}
use Rattle.pf_arguments.proofs.words.is_asked.Goals as goal

pub returns : goal.returns
returns c =
    let found = c.subcommand_matches.ensures.found in
    c.is_some.ensures ∙ has_name c.args.name.now (subcommand_rows_of c.args.matches.now) _
    (λ here. option_map-option_map _ _ _ ∙ found.0 here, λ name. found.1 (sym (option_map-option_map _ _ _) ∙ name))
