use Rattle.std.proofs.Common.{ap, ◌∙◌, slice_set, arith}
use Rattle.std.proofs.lemmas.List.{get_or_default}
use Rattle.std.proofs.lemmas.List.Edits.{map_over_more}
use Rattle.pf_session.specs.Made.{renumbered}
use Rattle.pf_session.proofs.made.renumber.Goals as goal

pub loop-one-preserved : goal.loop-one-preserved
loop-one-preserved c =
    ap (λ y. slice_set c.loop-one.made c.loop-one.one-index y) c.renumbered.ensures
    ∙ map_over_more (renumbered c.args.old c.args.new) c.args.made.now c.loop-one.made c.loop-one.one-index _ c.loop-one-test.true c.loop-one.invariant
    (get_or_default c.loop-one.made c.loop-one.one-index _ _ (omega (arith, c.loop-one-test.true, c.loop-one.auto.made)))
