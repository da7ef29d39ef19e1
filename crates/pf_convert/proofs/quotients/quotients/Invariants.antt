use Rattle.std.proofs.Common.{◌≡◌, ◌≤◌, ◌<◌, length}
use Rattle.std.specs.Prelude.{All}
use Rattle.pf_convert.specs.declared.quantum.TheConstants.{LONGEST_QUANTUM}
use Rattle.pf_convert.specs.Quotients.{quotients_to}
use Rattle.pf_convert.proofs.quotients.quotients.Given as goal

abbrev pub invariant-loop-count : goal.invariant-loop-count
invariant-loop-count l = record {
  quanta : l.quanta ≡ quotients_to l.whole l.switch l.time l.count;
  few : length l.quanta ≤ l.count;
  longer : All (λ q. l.switch < q) l.quanta;
  short : All (λ q. q ≤ LONGEST_QUANTUM) l.quanta;
}
