use Rattle.std.proofs.Common.{MatchOption, take}
use Rattle.pf_convert.specs.Margins.Periods.{AllBelow, IsLeastFrom}
use Rattle.pf_convert.proofs.margins.periods.least_from.Given as goal

abbrev pub invariant-loop-number : goal.invariant-loop-number
invariant-loop-number l = MatchOption l.least (AllBelow l.other (take l.number-index l.numbers)) (IsLeastFrom l.other (take l.number-index l.numbers))
