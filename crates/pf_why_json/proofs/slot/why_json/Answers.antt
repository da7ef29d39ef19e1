use Rattle.std.proofs.Common.{◌∙◌, ap, ap₂, arith}
use Rattle.std.proofs.lemmas.Result.{IfOk-weaker}
use Rattle.pf_run.proofs.Within.{horizon_within}
use Rattle.pf_why.specs.declared.point.Point.{Point}
use Rattle.pf_why_text.specs.Ranks.{Seats}
use Rattle.pf_why_text.specs.Slot.{point_seen, ranking_seen, seats_in}
use Rattle.pf_why_text.proofs.Shown.{length-rows}
use Rattle.pf_why_json.specs.Slot.{slot_json, why_json}
use Rattle.pf_why_json.proofs.slot.why_json.Goals as goal

pub seating_in-seating-requires-clause-within : goal.seating_in-seating-requires-clause-within
seating_in-seating-requires-clause-within c = omega (arith, c.requires, length-rows c.args.snapshot.now c.now.ensures.of_run)

pub seating_in-seating-requires-clause-short : goal.seating_in-seating-requires-clause-short
seating_in-seating-requires-clause-short c =
    let are = c.now.ensures.of_run in
    omega (arith, c.requires, are.within, horizon_within c.args.snapshot.now.state.plan.settings are.scenario.settings)

pub returns : goal.returns
unfolding why_json
returns c =
    let seen = c.args.snapshot.now in
    let names = c.args.names.now in
    let t = c.args.t in
    let seats = c.seating_in-seating.ensures.value ∙ ap (λ (p : Point). seats_in seen p.count t) c.in_ok-point.ensures in
    IfOk-weaker c.slot_json.result _ _
    (λ text h. h
    ∙ ap₂ (λ p (s : Seats). slot_json names seen p c.deref.result.now s c.args.asked) c.in_ok-point.ensures seats
    ∙ ap (λ xs. slot_json names seen (point_seen seen t) xs (seats_in seen (point_seen seen t).count t) c.args.asked)
    (c.deref.ensures.value ∙ c.in_ok-ranking.ensures))
    c.slot_json.ensures
