use Rattle.std.proofs.Common.{◌≡◌, ◌++◌, []}
use Rattle.std.specs.List.{flat_map, range_with_len}
use Rattle.pf_place.specs.Occupancy.{sitter}
use Rattle.pf_code.specs.Array.{seat_with}
use Rattle.pf_code.proofs.rows.push_nobody.Given as goal

-- the processors below this one stand there
abbrev pub invariant-loop-processor : goal.invariant-loop-processor
invariant-loop-processor l =
    l.text.items ≡ l.fn.text.items ++ flat_map (λ p. seat_with p (sitter [] p)) (range_with_len 0 l.processor)
