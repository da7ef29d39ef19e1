-- The new timeline stands for as many slots as it took and counted, from the last checkpoint not after the change on.
use Rattle.std.proofs.Common.{◌≡◌, ◌≤◌, ap, subst, arith}
use Rattle.pf_timeline.specs.Timeline.{StandsFor}
use Rattle.pf_timeline.proofs.Past.{stands_now}
use Rattle.pf_timeline.proofs.timeline.Timeline.rewritten.Goals as goal

pub advance-requires-clause-stands : goal.advance-requires-clause-stands
advance-requires-clause-stands c = stands_now _ _ _ c.loop.invariant.stands

pub advance-requires-clause-below : goal.advance-requires-clause-below
advance-requires-clause-below c =
    omega (
      arith,
      c.loop-test.true,
      c.loop.invariant.stands.slots,
      c.self.invariant.run.of_run.within,
      ap (λ t. t.past.settings.horizon) c.self.view_is,
      ap (λ system. system.horizon) c.requires.agrees.settings,
    )

pub returns-clause-stands : goal.returns-clause-stands
returns-clause-stands c =
    let ahead : c.now-counter.result ≤ c.now-end.result =
    omega (arith, c.now-counter.ensures, c.now-end.ensures, c.in_ok-fresh.ensures.not_behind, c.requires.below, ap (λ t. t.now) c.self.view_is) in
    let ended : c.loop.counter ≡ c.args.self.now.now =
    omega (arith, ahead, c.loop.auto.counter-end ahead, c.loop-test.false, c.now-end.ensures, ap (λ t. t.now) c.self.view_is) in
    subst (λ n. StandsFor c.args.scenario.now n c.loop.fresh) ended c.loop.invariant.stands
