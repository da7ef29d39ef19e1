-- The last checkpoint not after `from` stands for the run up to it.
use Rattle.std.proofs.Common.{◌≡◌, ◌<◌, ◌≤◌, ap, ◌∙◌, arith}
use Rattle.pf_timeline.specs.Timeline.{past_below}
use Rattle.pf_timeline.proofs.Past.{stands_kept}
use Rattle.pf_timeline.proofs.Points.{agreed_past, front_rows_few, front_not_behind, front_distance, front_close, front_run, front_points, front_near, front_few, start_up_to}
use Rattle.pf_timeline.proofs.timeline.Timeline.front.Goals as goal

pub first_rows-requires : goal.first_rows-requires
first_rows-requires c =
    let now : c.self.inside.engine.now ≡ c.args.self.now.now = ap (λ t. t.now) c.self.view_is in
    let below : c.args.from < c.self.inside.engine.now = omega (arith, now, c.requires.below) in
    let same = agreed_past c.args.scenario.now c.self.inside.scenario.value c.args.from _ _ _ _ c.self.inside.engine _ (omega (arith, below)) c.self.view_is c.requires.agrees in
    omega (arith, c.now-slot.ensures, front_rows_few _ _ _ c.args.from _ _ _ _ _ c.self.invariant below c.settings.ensures.scenario same _ c.last_of-start.ensures)

pub invariant_of-result : goal.invariant_of-result
invariant_of-result c =
    let now : c.self.inside.engine.now ≡ c.args.self.now.now = ap (λ t. t.now) c.self.view_is in
    let below : c.args.from < c.self.inside.engine.now = omega (arith, now, c.requires.below) in
    let same = agreed_past c.args.scenario.now c.self.inside.scenario.value c.args.from _ _ _ _ c.self.inside.engine _ (omega (arith, below)) c.self.view_is c.requires.agrees in
    rw (
      c.of.ensures,
      c.in_ok-engine.ensures.engine,
      c.in_ok-first_rows.ensures,
      c.in_ok-first.ensures,
      c.in_ok-up_to.ensures,
      c.in_ok-up_to-2.ensures,
      c.now-slot.ensures,
    ) (record {
      run = front_run _ _ _ c.args.from _ _ _ _ _ c.self.invariant below c.settings.ensures.scenario same _ c.last_of-start.ensures;
      points = front_points _ _ _ c.args.from _ _ _ _ _ c.self.invariant below c.settings.ensures.scenario same _ c.last_of-start.ensures;
      near = front_near _ _ _ c.args.from _ _ _ _ _ c.self.invariant below c.settings.ensures.scenario same _ c.last_of-start.ensures;
      few = front_few _ _ _ c.args.from _ _ _ _ _ c.self.invariant below c.settings.ensures.scenario same _ c.last_of-start.ensures;
      from_start = c.self.invariant.from_start;
    })

pub returns-clause-stands : goal.returns-clause-stands
returns-clause-stands c =
    let now : c.self.inside.engine.now ≡ c.args.self.now.now = ap (λ t. t.now) c.self.view_is in
    let below : c.args.from < c.self.inside.engine.now = omega (arith, now, c.requires.below) in
    let same = agreed_past c.args.scenario.now c.self.inside.scenario.value c.args.from _ _ _ _ c.self.inside.engine _ (omega (arith, below)) c.self.view_is c.requires.agrees in
    rw (
      c.in_ok-engine.ensures.engine,
      c.in_ok-first_rows.ensures,
      c.now-slot.ensures,
      c.in_ok-first.ensures,
    )
    (stands_kept c.args.scenario.now c.of.result.value _ _ _ _ _ _ (front_run _ _ _ c.args.from _ _ _ _ _ c.self.invariant below c.settings.ensures.scenario same _ c.last_of-start.ensures)
    (ap (past_below c.last_of-start.result.now.engine.now) c.of.ensures))

pub returns-clause-not_behind : goal.returns-clause-not_behind
returns-clause-not_behind c =
    let now : c.self.inside.engine.now ≡ c.args.self.now.now = ap (λ t. t.now) c.self.view_is in
    let below : c.args.from < c.self.inside.engine.now = omega (arith, now, c.requires.below) in
    let same = agreed_past c.args.scenario.now c.self.inside.scenario.value c.args.from _ _ _ _ c.self.inside.engine _ (omega (arith, below)) c.self.view_is c.requires.agrees in
    rw c.in_ok-engine.ensures.engine (front_not_behind _ _ _ c.args.from _ _ _ _ _ c.self.invariant below c.settings.ensures.scenario same _ c.last_of-start.ensures)

pub returns-clause-distance : goal.returns-clause-distance
returns-clause-distance c =
    let now : c.self.inside.engine.now ≡ c.args.self.now.now = ap (λ t. t.now) c.self.view_is in
    let below : c.args.from < c.self.inside.engine.now = omega (arith, now, c.requires.below) in
    let same = agreed_past c.args.scenario.now c.self.inside.scenario.value c.args.from _ _ _ _ c.self.inside.engine _ (omega (arith, below)) c.self.view_is c.requires.agrees in
    let every : c.self.inside.checkpoints.every ≡ c.args.self.now.every = ap (λ t. t.every) c.self.view_is in
    omega (arith, every, ap (λ e. e.now) c.in_ok-engine.ensures.engine, front_distance _ _ _ c.args.from _ _ _ _ _ c.self.invariant below c.settings.ensures.scenario same _ c.last_of-start.ensures)

pub up_to-requires-clause-reach : goal.up_to-requires-clause-reach
up_to-requires-clause-reach c =
    let now : c.self.inside.engine.now ≡ c.args.self.now.now = ap (λ t. t.now) c.self.view_is in
    let below : c.args.from < c.self.inside.engine.now = omega (arith, now, c.requires.below) in
    let same = agreed_past c.args.scenario.now c.self.inside.scenario.value c.args.from _ _ _ _ c.self.inside.engine _ (omega (arith, below)) c.self.view_is c.requires.agrees in
    omega (arith, c.now-slot.ensures, front_not_behind _ _ _ c.args.from _ _ _ _ _ c.self.invariant below c.settings.ensures.scenario same _ c.last_of-start.ensures, c.self.invariant.points.reach, below)

pub up_to-requires-2 : goal.up_to-requires-2
up_to-requires-2 c =
    let now : c.self.inside.engine.now ≡ c.args.self.now.now = ap (λ t. t.now) c.self.view_is in
    let below : c.args.from < c.self.inside.engine.now = omega (arith, now, c.requires.below) in
    let same = agreed_past c.args.scenario.now c.self.inside.scenario.value c.args.from _ _ _ _ c.self.inside.engine _ (omega (arith, below)) c.self.view_is c.requires.agrees in
    omega (arith, c.now-slot.ensures, front_not_behind _ _ _ c.args.from _ _ _ _ _ c.self.invariant below c.settings.ensures.scenario same _ c.last_of-start.ensures, c.self.invariant.near.reach, below)

pub returns-clause-close : goal.returns-clause-close
returns-clause-close c = λ back.
    let now : c.self.inside.engine.now ≡ c.args.self.now.now = ap (λ t. t.now) c.self.view_is in
    let below : c.args.from < c.self.inside.engine.now = omega (arith, now, c.requires.below) in
    let same = agreed_past c.args.scenario.now c.self.inside.scenario.value c.args.from _ _ _ _ c.self.inside.engine _ (omega (arith, below)) c.self.view_is c.requires.agrees in
    let start : c.self.inside.near.start ≡ c.args.self.now.near = ap (λ t. t.near) c.self.view_is in
    omega (arith, ap (λ e. e.now) c.in_ok-engine.ensures.engine, front_close _ _ _ c.args.from _ _ _ _ _ c.self.invariant below c.settings.ensures.scenario same _ c.last_of-start.ensures (omega (arith, start, back)))

pub returns-clause-near : goal.returns-clause-near
returns-clause-near c =
    let start : c.self.inside.near.start ≡ c.args.self.now.near = ap (λ t. t.near) c.self.view_is in
    omega (arith, start, ap (λ p. p.start) c.in_ok-up_to-2.ensures, start_up_to c.now-slot.result c.self.inside.near)
