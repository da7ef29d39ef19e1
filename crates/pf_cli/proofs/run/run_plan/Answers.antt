use Rattle.std.proofs.Common.{◌≡◌, ◌<◌, length, Some, refl, sym, subst, ap, arith}
use Rattle.std.specs.Io.KnownBytes.{Appends}
use Rattle.std.proofs.KnownBytes.{Appends-nil}
use Rattle.pf_commands.specs.Meaning.{Meaning, TooLong}
use Rattle.pf_stream.specs.Reading.{longest_script}
use Rattle.pf_text.specs.Page.{table_text}
use Rattle.pf_cli.specs.Runs.{numbered_end}
use Rattle.pf_cli.proofs.Running.{too_long}
use Rattle.pf_cli.proofs.run.run_plan.Goals as goal

pub returns-then-len-gt-LONGEST_SCRIPT-clause-meaning : goal.returns-then-len-gt-LONGEST_SCRIPT-clause-meaning
returns-then-len-gt-LONGEST_SCRIPT-clause-meaning g c p is =
    let long : longest_script < length (table_text p.records) = omega (arith, c.if-len-gt-LONGEST_SCRIPT.true, c.len.ensures, ap length is.text) in
    let means = sym (too_long c.args.format p.titles (Some p.origins) (table_text p.records) long) in
    let x = g.W.Write.contents c.args.writer.now in (
      subst (λ (m : Meaning). numbered_end p.origins m.end ≡ TooLong) means refl,
      subst (λ (m : Meaning). Appends x x m.text) means (Appends-nil x),
    )
