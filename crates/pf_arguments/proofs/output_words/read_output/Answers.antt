use Rattle.std.proofs.Common.{◌∙◌, sym, ap, subst, map}
use Rattle.clap.specs.Words.{App, HasKind, Kinds, fault_of, is_simple, is_simple_and_free, kind_of, subcommand_of, subcommand_rows_of}
use Rattle.pf_arguments.proofs.Reading.{kinds_are, output_taken, output_untaken, program_is_simple}
use Rattle.pf_arguments.proofs.output_words.read_output.Goals as goal

pub returns-in-Ok : goal.returns-in-Ok
returns-in-Ok g c =
    let is = c.in_ok-program.ensures in
    let words = map g.S.AsStr.text c.args.words.now in
    let kinds = ap (λ (a : App). fault_of a words) is ∙ kinds_are words in
    let taken = sym kinds ∙ c.in-Ok.ensures.kinds (ap is_simple_and_free is ∙ program_is_simple.1) in
    let found = (c.in-Ok.ensures.matches (ap is_simple is ∙ program_is_simple.0)).1 ∙ ap (λ (a : App). subcommand_of a words) is in
    output_taken words (subcommand_rows_of c.in-Ok.matches) c.output_in.result taken found c.output_in.ensures

pub returns-in_ok-check_memory-in-Err : goal.returns-in_ok-check_memory-in-Err
returns-in_ok-check_memory-in-Err g c =
    let is = c.in_ok-program.ensures in
    let words = map g.S.AsStr.text c.args.words.now in
    let kinds = ap (λ (a : App). fault_of a words) is ∙ kinds_are words in
    let among = subst (λ (ks : Kinds). HasKind ks c.in-Err.error) kinds (c.in-Err.ensures.kinds (ap is_simple_and_free is ∙ program_is_simple.1)) in
    output_untaken words (kind_of c.in-Err.error) among c.in_ok-check_memory-in-Err.ensures
