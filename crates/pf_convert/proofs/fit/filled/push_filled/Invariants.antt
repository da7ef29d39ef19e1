use Rattle.std.proofs.Common.{◌≡◌, ◌++◌, drop}
use Rattle.pf_convert.specs.Fit.Filled.{filled, filled_from}
use Rattle.pf_convert.proofs.fit.filled.push_filled.Given as goal

abbrev pub invariant-loop-byte : goal.invariant-loop-byte
invariant-loop-byte l = l.text.items ++ filled_from l.width l.word.items (drop l.byte-index l.words) ≡ l.fn.text.items ++ filled l.words
