use Rattle.std.proofs.Common.{sym}
use Rattle.pf_convert.proofs.Dividing.{last_is_rounded}
use Rattle.pf_convert.proofs.divisors.rounded_down.Goals as goal

pub returns : goal.returns
returns c =
    sym (last_is_rounded c.args.base c.args.period c.last_within.result c.args.divisors.now c.requires.divisors c.requires.rising
    c.last_within.ensures.there c.last_within.ensures.within c.last_within.ensures.last)
