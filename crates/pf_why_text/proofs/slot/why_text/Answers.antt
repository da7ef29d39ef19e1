use Rattle.std.proofs.Common.{◌≡◌, ◌∙◌, ◌++◌, length, ap, ap₂, arith, rules}
use Rattle.pf_run.proofs.Within.{horizon_within}
use Rattle.pf_run.specs.Computed.{run_of}
use Rattle.pf_scenario.specs.Scenario.{events_of}
use Rattle.pf_why.specs.declared.point.Point.{Point}
use Rattle.pf_why_text.specs.Events.{events_text}
use Rattle.pf_why_text.specs.Head.{head_text, places_text}
use Rattle.pf_why_text.specs.Ranks.{Seats, ranks_text}
use Rattle.pf_why_text.specs.Slot.{point_seen, ranking_seen, row_in, seats_in, why_text}
use Rattle.pf_why_text.specs.Whereabouts.{asked_text}
use Rattle.pf_why_text.proofs.Numbers.{five_parts}
use Rattle.pf_why_text.proofs.Shown.{length-rows}
use Rattle.pf_why_text.proofs.slot.why_text.Goals as goal

pub seating_in-seating-requires-clause-within : goal.seating_in-seating-requires-clause-within
seating_in-seating-requires-clause-within c = omega (arith, c.requires, length-rows c.args.snapshot.now c.now.ensures.of_run)

pub seating_in-seating-requires-clause-short : goal.seating_in-seating-requires-clause-short
seating_in-seating-requires-clause-short c =
    let are = c.now.ensures.of_run in
    omega (arith, c.requires, are.within, horizon_within c.args.snapshot.now.state.plan.settings are.scenario.settings)

pub returns : goal.returns
unfolding why_text
returns c =
    let seen = c.args.snapshot.now in
    let names = c.args.names.now in
    let t = c.args.t in
    let point = c.in_ok-point.ensures in
    let ranking = c.deref.ensures.value ∙ c.in_ok-ranking.ensures in
    let seats = c.seating_in-seating.ensures.value ∙ ap (λ (p : Point). seats_in seen p.count t) point in
    let many : c.len.result ≡ length c.in_ok-ranking.ranking.items = search rules in
    five_parts _ _ _ _ _
    (head_text (point_seen seen t) (length (ranking_seen seen t)))
    (events_text names seen.state.plan (run_of seen.state.plan seen.state.now) seen.denials (events_of seen.state.plan t))
    (places_text names (point_seen seen t).count seen.state.plan.settings.processors (row_in seen t))
    (ranks_text names (seats_in seen (point_seen seen t).count t) (ranking_seen seen t))
    (asked_text names seen (seats_in seen (point_seen seen t).count t) (ranking_seen seen t) c.args.asked)
    (c.in_ok-extend_from_slice.ensures.items ∙ ap₂ (λ a b. a ++ b) c.new-text.ensures.items
    (c.as_bytes.ensures.value ∙ c.in_ok-head.ensures ∙ ap₂ head_text point (many ∙ ap length c.in_ok-ranking.ensures)))
    c.in_ok-push_slot_events.ensures
    (c.in_ok-push_places.ensures
    ∙ ap₂ (λ (s : Seats) m. c.push_slot_events.new.text.items ++ places_text names s.count m s.row) seats c.seating_in-seating.ensures.processors)
    (c.in_ok-push_ranking.ensures ∙ ap₂ (λ (s : Seats) xs. c.push_places.new.text.items ++ ranks_text names s xs) seats ranking)
    (c.in_ok-push_asked.ensures ∙ ap₂ (λ (s : Seats) xs. c.push_ranking.new.text.items ++ asked_text names seen s xs c.args.asked) seats
    (c.deref-2.ensures.value ∙ c.in_ok-ranking.ensures))
