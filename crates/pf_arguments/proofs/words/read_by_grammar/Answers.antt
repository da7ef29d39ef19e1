use Rattle.std.proofs.Common.{◌∙◌, sym, ap, subst, map}
use Rattle.clap.specs.Words.{App, HasKind, Kinds, fault_of, is_simple, is_simple_and_free, kind_of, subcommand_of, subcommand_rows_of}
use Rattle.pf_arguments.proofs.Reading.{kinds_are, program_is_simple, taken_words, untaken_words}
use Rattle.pf_arguments.proofs.words.read_by_grammar.Goals as goal

pub returns-in-Ok-clause-asked : goal.returns-in-Ok-clause-asked
returns-in-Ok-clause-asked g c no_topic =
    let is = c.in_ok-program.ensures in
    let words = map g.S.AsStr.text c.args.words.now in
    let kinds = ap (λ (a : App). fault_of a words) is ∙ kinds_are words in
    let taken = sym kinds ∙ c.in-Ok.ensures.kinds (ap is_simple_and_free is ∙ program_is_simple.1) in
    let found = (c.in-Ok.ensures.matches (ap is_simple is ∙ program_is_simple.0)).1 ∙ ap (λ (a : App). subcommand_of a words) is in
    taken_words words (subcommand_rows_of c.in-Ok.matches) c.read_matches.result taken found c.read_matches.ensures.request

pub returns-in-Err-clause-asked : goal.returns-in-Err-clause-asked
returns-in-Err-clause-asked g c no_topic =
    let is = c.in_ok-program.ensures in
    let words = map g.S.AsStr.text c.args.words.now in
    let kinds = ap (λ (a : App). fault_of a words) is ∙ kinds_are words in
    let among = subst (λ (ks : Kinds). HasKind ks c.in-Err.error) kinds (c.in-Err.ensures.kinds (ap is_simple_and_free is ∙ program_is_simple.1)) in
    untaken_words words (kind_of c.in-Err.error) c.read_error.result among no_topic c.read_error.ensures
