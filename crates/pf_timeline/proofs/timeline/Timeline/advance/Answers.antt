-- The engine takes the next slot of the run, and its row is placed after the last.
use Rattle.std.proofs.Common.{◌+◌, length, sym, ap, ◌∙◌, arith}
use Rattle.pf_scenario.specs.Scenario.{events_of}
use Rattle.pf_timeline.specs.Keeping.{FitRun, KeepsRun}
use Rattle.pf_timeline.specs.Timeline.{past_below}
use Rattle.pf_timeline.proofs.Grown.{keeps_now, kept_now, keeps_more, takes_next, takes_slot, taken_turn, taken_numbered, few_denials, last_stands, idle_width}
use Rattle.pf_place.proofs.Blocks.{but_last_behind}
use Rattle.pf_timeline.proofs.Comparing.{slot_compared}
use Rattle.pf_timeline.proofs.Past.{keeps_standing, stands_kept}
use Rattle.pf_timeline.proofs.Points.{few_kept, few_trimmed, near_held, point_kept, point_now_fits, points_longer, points_standing, points_trimmed, start_kept, start_moved, due_soon}
use Rattle.pf_timeline.proofs.timeline.Timeline.advance.Goals as goal
use Rattle.pf_timeline.proofs.timeline.Timeline.advance.Goals.{After-drop-events-2}

pub slot-requires : goal.slot-requires
slot-requires c =
    let keeps = keeps_standing _ _ _ _ _ _ _ _ _ c.self.invariant.run c.self.view_is c.requires.stands in
    let events = c.deref.ensures.value ∙ c.in_ok-events.ensures.value ∙ ap (events_of c.args.scenario.now) c.now.ensures in
    takes_next _ _ _ _ _ keeps _ events c.requires.below

pub seat_last-requires-clause-turn : goal.seat_last-requires-clause-turn
seat_last-requires-clause-turn c =
    let keeps = keeps_standing _ _ _ _ _ _ _ _ _ c.self.invariant.run c.self.view_is c.requires.stands in
    let events = c.deref.ensures.value ∙ c.in_ok-events.ensures.value ∙ ap (events_of c.args.scenario.now) c.now.ensures in
    rw (c.in_ok-push_idle.ensures.ok, idle_width, c.processors.ensures.value, c.settings.ensures.value, c.count.ensures, c.picks.ensures)
    (taken_turn _ _ _ _ _ keeps _ _ (takes_slot _ _ _ _ _ keeps _ events _ _ c.in-Ok.ensures.slot))

pub seat_last-requires-clause-numbered : goal.seat_last-requires-clause-numbered
seat_last-requires-clause-numbered c =
    let keeps = keeps_standing _ _ _ _ _ _ _ _ _ c.self.invariant.run c.self.view_is c.requires.stands in
    let events = c.deref.ensures.value ∙ c.in_ok-events.ensures.value ∙ ap (events_of c.args.scenario.now) c.now.ensures in
    rw c.picks.ensures (taken_numbered _ _ _ _ _ keeps _ _ (takes_slot _ _ _ _ _ keeps _ events _ _ c.in-Ok.ensures.slot))

pub seat_last-requires-clause-before : goal.seat_last-requires-clause-before
seat_last-requires-clause-before c =
    let keeps = keeps_standing _ _ _ _ _ _ _ _ _ c.self.invariant.run c.self.view_is c.requires.stands in
    rw (c.in_ok-push_idle.ensures.ok, but_last_behind, idle_width, c.processors.ensures.value, c.settings.ensures.value)
    (last_stands _ _ _ _ _ keeps)

pub extend_reserved-requires : goal.extend_reserved-requires
extend_reserved-requires c =
    let keeps = keeps_standing _ _ _ _ _ _ _ _ _ c.self.invariant.run c.self.view_is c.requires.stands in
    let events = c.deref.ensures.value ∙ c.in_ok-events.ensures.value ∙ ap (events_of c.args.scenario.now) c.now.ensures in
    let few = few_denials _ _ _ _ _ keeps _ events _ (takes_slot _ _ _ _ _ keeps _ events _ _ c.in-Ok.ensures.slot).next in
    omega (arith, few, ap length c.denials.ensures, c.in_ok-reserve.ensures.room, c.deref.ensures.len, c.len.ensures)

keeps_next : (c : After-drop-events-2) →
    KeepsRun c.args.scenario.now (c.args.self.now.now + 1) c.seat_last.new.self c.share.new.self.items c.slot.new.self
keeps_next c =
    let keeps = keeps_standing _ _ _ _ _ _ _ _ _ c.self.invariant.run c.self.view_is c.requires.stands in
    let events = c.deref.ensures.value ∙ c.in_ok-events.ensures.value ∙ ap (events_of c.args.scenario.now) c.now.ensures in
    keeps_more _ _ _ _ _ keeps _ _ (takes_slot _ _ _ _ _ keeps _ events _ _ c.in-Ok.ensures.slot) _ _ c.requires.below
    (rw (
      c.seat_last.ensures.rows,
      c.in_ok-push_idle.ensures.ok,
      but_last_behind,
      idle_width,
      c.processors.ensures.value,
      c.settings.ensures.value,
      c.count.ensures,
      c.picks.ensures,
    ))
    (rw (c.share.ensures, c.extend_reserved.ensures, c.in_ok-reserve.ensures.items, c.denials.ensures))

pub invariant_of-self-in_err-keep-2 : goal.invariant_of-self-in_err-keep-2
invariant_of-self-in_err-keep-2 c =
    let long = c.len-2.ensures ∙ ap length c.in_ok-reserve.ensures.items in
    rw (c.in_err-keep-2.ensures.err, c.in_ok-reserve.ensures.items) (record {
      run = c.self.invariant.run;
      points = (point_kept _ _ _ _ _ c.self.invariant.points (point_now_fits _ _ _ _ _ _ c.self.invariant.run long)
          c.in_ok-keep.ensures.due c.in_ok-keep.ensures.early).fit;
      near = c.self.invariant.near;
      few = c.self.invariant.few;
      from_start = start_kept _ _ _ _ c.in_ok-keep.ensures.due c.in_ok-keep.ensures.early ∙ c.self.invariant.from_start;
    })

pub invariant_of-self-in_err-push_idle : goal.invariant_of-self-in_err-push_idle
invariant_of-self-in_err-push_idle c =
    let long = c.len-2.ensures ∙ ap length c.in_ok-reserve.ensures.items in
    let long' = c.len-3.ensures ∙ ap length c.in_ok-reserve.ensures.items in
    rw (c.in_err-push_idle.ensures.err, c.in_ok-reserve.ensures.items) (record {
      run = c.self.invariant.run;
      points = (point_kept _ _ _ _ _ c.self.invariant.points (point_now_fits _ _ _ _ _ _ c.self.invariant.run long)
          c.in_ok-keep.ensures.due c.in_ok-keep.ensures.early).fit;
      near = (point_kept _ _ _ _ _ c.self.invariant.near (point_now_fits _ _ _ _ _ _ c.self.invariant.run long')
          c.in_ok-keep-2.ensures.due c.in_ok-keep-2.ensures.early).fit;
      few = few_kept _ _ _ _ _ c.self.invariant.few (point_kept _ _ _ _ _ c.self.invariant.near (point_now_fits _ _ _ _ _ _ c.self.invariant.run long')
          c.in_ok-keep-2.ensures.due c.in_ok-keep-2.ensures.early) c.in_ok-keep-2.ensures.due c.in_ok-keep-2.ensures.early;
      from_start = start_kept _ _ _ _ c.in_ok-keep.ensures.due c.in_ok-keep.ensures.early ∙ c.self.invariant.from_start;
    })

pub invariant_of-self-in-Err : goal.invariant_of-self-in-Err
invariant_of-self-in-Err c =
    let long = c.len-2.ensures ∙ ap length c.in_ok-reserve.ensures.items in
    let long' = c.len-3.ensures ∙ ap length c.in_ok-reserve.ensures.items in
    rw (c.in-Err.ensures.err, c.pop.ensures, c.in_ok-push_idle.ensures.ok, but_last_behind, c.in_ok-reserve.ensures.items) (record {
      run = c.self.invariant.run;
      points = (point_kept _ _ _ _ _ c.self.invariant.points (point_now_fits _ _ _ _ _ _ c.self.invariant.run long)
          c.in_ok-keep.ensures.due c.in_ok-keep.ensures.early).fit;
      near = (point_kept _ _ _ _ _ c.self.invariant.near (point_now_fits _ _ _ _ _ _ c.self.invariant.run long')
          c.in_ok-keep-2.ensures.due c.in_ok-keep-2.ensures.early).fit;
      few = few_kept _ _ _ _ _ c.self.invariant.few (point_kept _ _ _ _ _ c.self.invariant.near (point_now_fits _ _ _ _ _ _ c.self.invariant.run long')
          c.in_ok-keep-2.ensures.due c.in_ok-keep-2.ensures.early) c.in_ok-keep-2.ensures.due c.in_ok-keep-2.ensures.early;
      from_start = start_kept _ _ _ _ c.in_ok-keep.ensures.due c.in_ok-keep.ensures.early ∙ c.self.invariant.from_start;
    })

-- the near checkpoints, with that of this slot
near_more : (c : After-drop-events-2) → FitRun c.args.scenario.now (c.self.inside.engine.now + 1) c.keep-2.new.self
near_more c =
    let long = c.len-3.ensures ∙ ap length c.in_ok-reserve.ensures.items in
    points_longer _ _ _ (point_kept _ _ _ _ _
    (points_standing _ _ _ _ _ _ _ _ _ _ c.self.invariant.run c.self.view_is c.requires.stands c.self.invariant.near)
    (point_now_fits _ _ _ _ _ _ (keeps_now _ _ _ _ _ (keeps_standing _ _ _ _ _ _ _ _ _ c.self.invariant.run c.self.view_is c.requires.stands)) long)
    c.in_ok-keep-2.ensures.due c.in_ok-keep-2.ensures.early)

pub invariant_of-self-2 : goal.invariant_of-self-2
invariant_of-self-2 c =
    let long = c.len-2.ensures ∙ ap length c.in_ok-reserve.ensures.items in
    let reach = point_kept _ _ _ _ _ (points_standing _ _ _ _ _ _ _ _ _ _ c.self.invariant.run c.self.view_is c.requires.stands c.self.invariant.points)
    (point_now_fits _ _ _ _ _ _ (keeps_now _ _ _ _ _ (keeps_standing _ _ _ _ _ _ _ _ _ c.self.invariant.run c.self.view_is c.requires.stands)) long)
    c.in_ok-keep.ensures.due c.in_ok-keep.ensures.early in
    let now = kept_now _ _ _ _ _ (keeps_next c) ∙ ap (λ t. t.now + 1) (sym c.self.view_is) in
    rw c.of.ensures (record {
      run = keeps_now _ _ _ _ _ (keeps_next c);
      points = rw now (points_longer _ _ _ reach);
      near = rw now (points_trimmed _ _ _ _ (near_more c) c.trim.ensures.trims);
      few = few_trimmed _ _ c.trim.ensures.few;
      from_start = start_kept _ _ _ _ c.in_ok-keep.ensures.due c.in_ok-keep.ensures.early ∙ c.self.invariant.from_start;
    })

pub returns-clause-ok : goal.returns-clause-ok
returns-clause-ok c = stands_kept _ c.of.result.value _ _ _ _ _ _ (keeps_next c) (ap (past_below (c.args.self.now.now + 1)) c.of.ensures)

pub returns-clause-comparisons : goal.returns-clause-comparisons
returns-clause-comparisons c =
    let keeps = keeps_standing _ _ _ _ _ _ _ _ _ c.self.invariant.run c.self.view_is c.requires.stands in
    let events = c.deref.ensures.value ∙ c.in_ok-events.ensures.value ∙ ap (events_of c.args.scenario.now) c.now.ensures in
    slot_compared _ _ _ _ _ keeps _ events _ _ (takes_slot _ _ _ _ _ keeps _ events _ _ c.in-Ok.ensures.slot) _ _
    c.in-Ok.ensures.comparisons

pub trim-requires-clause-wide : goal.trim-requires-clause-wide
trim-requires-clause-wide c =
    let long = c.len-3.ensures ∙ ap length c.in_ok-reserve.ensures.items in
    let kept = point_kept _ _ _ _ _ c.self.invariant.near (point_now_fits _ _ _ _ _ _ c.self.invariant.run long)
    c.in_ok-keep-2.ensures.due c.in_ok-keep-2.ensures.early in
    omega (
      arith,
      due_soon _ _ _ kept.fit,
      c.keep-2.ensures.every,
      c.self.invariant.run.of_run.within,
      c.self.invariant.run.of_run.scenario.settings.horizon,
    )

pub returns-clause-near : goal.returns-clause-near
returns-clause-near c =
    let long = c.len-3.ensures ∙ ap length c.in_ok-reserve.ensures.items in
    let kept = point_kept _ _ _ _ _ c.self.invariant.near (point_now_fits _ _ _ _ _ _ c.self.invariant.run long)
    c.in_ok-keep-2.ensures.due c.in_ok-keep-2.ensures.early in
    start_moved _ _ _ _ c.self.inside.near _ _ kept.fit c.trim.ensures.trims
    (start_kept _ _ _ _ c.in_ok-keep-2.ensures.due c.in_ok-keep-2.ensures.early)
    (ap (λ t. t.near) c.self.view_is) (ap (λ t. t.now) c.self.view_is)

pub trim-requires-clause-few : goal.trim-requires-clause-few
trim-requires-clause-few c =
    let long = c.len-3.ensures ∙ ap length c.in_ok-reserve.ensures.items in
    let kept = point_kept _ _ _ _ _ c.self.invariant.near (point_now_fits _ _ _ _ _ _ c.self.invariant.run long)
    c.in_ok-keep-2.ensures.due c.in_ok-keep-2.ensures.early in
    (few_kept _ _ _ _ _ c.self.invariant.few kept c.in_ok-keep-2.ensures.due c.in_ok-keep-2.ensures.early).few

pub returns-clause-held : goal.returns-clause-held
returns-clause-held c =
    omega (
      arith,
      kept_now _ _ _ _ _ (keeps_next c),
      ap (λ t. t.now) c.self.view_is,
      near_held _ _ _ (points_trimmed _ _ _ _ (near_more c) c.trim.ensures.trims) c.trim.ensures.every c.trim.ensures.few,
    )
