use Rattle.std.specs.Prelude.{ℕ, ◌≡◌, ◌<◌, ◌≤◌, drop}
use Rattle.pf_board.specs.Passes.{IsIn}
use Rattle.pf_desk_board.specs.Histories.{quanta_from}
use Rattle.pf_desk_board.proofs.issue.issue.Given as goal

-- the quanta from the next processor on are left, and the words from there on are empty
abbrev pub invariant-loop-processor : goal.invariant-loop-processor
invariant-loop-processor l = record {
  left : l.keeper.left ≡ quanta_from l.slot l.processor (drop l.processor l.row);
  keeper : l.keeper ≡ record l.fn.keeper { left = l.keeper.left; empty = l.keeper.empty };
  empty : (p : ℕ) → l.processor ≤ p → p < l.processors → IsIn l.keeper.empty p;
}
