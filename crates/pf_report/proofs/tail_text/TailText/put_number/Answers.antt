use Rattle.std.proofs.Common.{length, length-append, ap, arith}
use Rattle.std.specs.Fmt.{decimal}
use Rattle.pf_lemmas.proofs.Digits.{twenty_digits}
use Rattle.pf_report.proofs.tail_text.TailText.put_number.Goals as goal

pub put_digits-requires : goal.put_digits-requires
put_digits-requires c = omega (arith, twenty_digits c.args.number c.ranges.number.fits)

pub returns-clause-room : goal.returns-clause-room
returns-clause-room c =
    omega (arith, ap length c.put_digits.ensures, length-append (decimal c.args.number) c.args.self.now, twenty_digits c.args.number c.ranges.number.fits)
