use Rattle.std.proofs.Common.{◌≡◌, drop}
use Rattle.pf_script.specs.Left.{lines_left}
use Rattle.pf_script_results.proofs.places.line_of.Given as goal

-- so many lines were passed
abbrev pub invariant-loop-turn : goal.invariant-loop-turn
invariant-loop-turn l = lines_left l.lines ≡ drop l._turn (lines_left l.fn.lines)
