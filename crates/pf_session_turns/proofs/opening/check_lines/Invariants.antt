use Rattle.std.proofs.Common.{◌≡◌, length}
use Rattle.pf_session_turns.proofs.opening.check_lines.Given as goal

-- the fault that ends them is the same
abbrev pub invariant-lines : goal.invariant-lines
invariant-lines l = l.lines.fault ≡ l.fn.lines.fault

abbrev pub decreases-lines : goal.decreases-lines
decreases-lines l = length l.lines.lines
