use Rattle.std.proofs.Common.{◌≡◌, ◌∷◌}
use Rattle.std.specs.List.{flat_map}
use Rattle.pf_arguments.specs.Mistakes.Hints.{turned, without_blanks}
use Rattle.pf_arguments.proofs.mistakes.lists.list_mended.Given as goal

-- the items so far, each behind a comma
abbrev pub invariant-loop-item : goal.invariant-loop-item
invariant-loop-item l = l.items.items ≡ flat_map (λ item. 44 ∷ turned (without_blanks item.now)) l.yielded
