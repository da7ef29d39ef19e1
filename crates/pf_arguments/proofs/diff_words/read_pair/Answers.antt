use Rattle.std.proofs.Common.{sym}
use Rattle.clap.specs.Words.{subcommand_rows_of}
use Rattle.pf_arguments.specs.declared.mistake.Mistake.TheVariants.{SinceOfTwo}
use Rattle.pf_arguments.specs.Asked.{file_found, file_of}
use Rattle.pf_arguments.specs.Diffs.{options_of, pair_named, second_behind, since_of}
use Rattle.pf_arguments.proofs.Pairs.{since_of_two}
use Rattle.pf_arguments.proofs.diff_words.read_pair.Goals as goal

pub returns-in_ok-mistake_text-in-Ok-Some : goal.returns-in_ok-mistake_text-in-Ok-Some
returns-in_ok-mistake_text-in-Ok-Some c =
    let found = subcommand_rows_of c.args.matches.now in (
      SinceOfTwo,
      since_of_two (since_of found) (pair_named (options_of found) (file_found found) (file_of (second_behind found))) c.in-Ok-Some.field-0-0
          (sym (rw c.in-Ok-Some.field-0-is at c.in-Ok-Some.ensures)),
      c.in_ok-mistake_text-in-Ok-Some.ensures,
    )
