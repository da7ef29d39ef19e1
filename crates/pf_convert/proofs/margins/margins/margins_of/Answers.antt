use Rattle.std.proofs.Common.{◌+◌, sym, subst}
use Rattle.pf_convert.specs.Margins.Margins.{AreMarginsOf}
use Rattle.pf_convert.proofs.MarginsLemmas.Margins.{one_more}
use Rattle.pf_convert.proofs.margins.margins.margins_of.Goals as goal

pub loop-place-preserved : goal.loop-place-preserved
loop-place-preserved c =
    subst (AreMarginsOf c.args.processors c.args.quantum c.args.plan.now (c.loop-place.place + 1)) (sym c.in_ok-push.ensures.items)
    (one_more c.args.processors c.args.quantum c.args.plan.now c.loop-place.place c.loop-place.margins.items c.margin_at.result c.loop-place.invariant
    c.margin_at.ensures)
