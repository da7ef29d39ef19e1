use Rattle.std.proofs.Common.{◌≡◌, ◌+◌, ◌≤◌, length, false}
use Rattle.pf_journal.proofs.Sizes.{size_from}
use Rattle.pf_journal.proofs.shape.lines_size.Given as goal

abbrev pub invariant-loop-rest : goal.invariant-loop-rest
invariant-loop-rest l = record {
  same : size_from l.at l.best l.begun l.rest ≡ size_from 0 0 false l.bytes;
  size : l.at + length l.rest ≡ length l.bytes;
  best : l.best ≤ l.at;
}

abbrev pub decreases-loop-rest : goal.decreases-loop-rest
decreases-loop-rest l = length l.rest
