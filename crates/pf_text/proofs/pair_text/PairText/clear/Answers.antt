use Rattle.std.proofs.Common.{set, refl, arith}
use Rattle.std.proofs.lemmas.List.{drop_all, drop-set, drop-set-lt, length-set}
use Rattle.pf_text.proofs.pair_text.PairText.clear.Goals as goal

pub invariant_of-self : goal.invariant_of-self
invariant_of-self c = (
  omega arith,
  omega arith,
  rw (drop-set c.self.inside.bytes 41 32 (omega (arith, c.self.told)), drop-set-lt 42 c.self.inside.bytes 41 32 (omega arith)) refl,
)

pub returns : goal.returns
returns c = drop_all 42 (set c.self.inside.bytes 41 32) (omega (arith, length-set c.self.inside.bytes 41 32, c.self.told))
