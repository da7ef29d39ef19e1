use Rattle.pf_notes.specs.Periods.{divides_both}
use Rattle.pf_notes.proofs.Divisors.{greatest_is}
use Rattle.pf_notes.proofs.periods.divisor_below.Goals as goal

pub returns-in-Ok : goal.returns-in-Ok
returns-in-Ok c =
    let found = c.in-Ok.ensures.found in
    rw c.get.ensures.value at (greatest_is (divides_both c.get.result c.args.b) c.args.below c.in-Ok.divisor found.2 found.0 found.1)
