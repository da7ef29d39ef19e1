use Rattle.std.proofs.Common.{◌≡◌, length, drop}
use Rattle.pf_place.specs.Packed.{even_ends}
use Rattle.pf_place.proofs.block.end_evenly.Given as goal

abbrev pub invariant-loop-end : goal.invariant-loop-end
invariant-loop-end l =
    drop l.end-index l.ends ≡ even_ends l.start l.width (length (drop l.end-index l.ends)) → l.ends ≡ even_ends 0 l.width (length l.ends)
