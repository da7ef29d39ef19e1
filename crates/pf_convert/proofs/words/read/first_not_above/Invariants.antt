use Rattle.std.proofs.Common.{◌≡◌, ℕ, ◌<◌, drop, get_or}
use Rattle.pf_convert.specs.Words.Reading.{first_not_above}
use Rattle.pf_convert.proofs.words.read.first_not_above.Given as goal

abbrev pub invariant-loop-quantum : goal.invariant-loop-quantum
invariant-loop-quantum l = record {
  value : first_not_above l.switch (drop l.quantum-index l.quanta) ≡ first_not_above l.switch l.quanta;
  above : (k : ℕ) → k < l.quantum-index → l.switch < get_or l.quanta k 0;
}
