use Rattle.std.proofs.Common.{None, arith}
use Rattle.std.proofs.lemmas.List.{ext_get_or}
use Rattle.pf_place.proofs.row_view.unpack.Goals as goal

pub returns : goal.returns
returns c =
    ext_get_or None c.loop-k.places c.args.row.now (omega (arith, c.loop-k.invariant.0)) (λ k l. c.loop-k.invariant.1 k (omega (arith, c.loop-k.invariant.0, l)))
