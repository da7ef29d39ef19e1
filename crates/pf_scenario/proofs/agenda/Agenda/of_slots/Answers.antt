use Rattle.std.proofs.Common.{◌≡◌, refl, sym, ap, ◌∙◌}
use Rattle.std.specs.List.{filter}
use Rattle.std.specs.Option.{option_map}
use Rattle.pf_scenario.specs.TimeOrder.{in_time_order, is_between}
use Rattle.pf_scenario.specs.Index.{event_at}
use Rattle.pf_scenario.specs.declared.found.Found.{Found}
use Rattle.pf_scenario.specs.declared.place.Place.{Place}
use Rattle.pf_scenario.proofs.Slots.{places_between, all_near, next_event, none_some, found_same, all_read}
use Rattle.pf_scenario.proofs.agenda.Agenda.of_slots.Goals as goal

pub loop-place-init : goal.loop-place-init
loop-place-init c = record {
  rest = filter (is_between c.args.from c.args.to) (in_time_order c.self.inside.events);
  whole = rw (c.new-events.ensures.items, ← c.self.view_is) refl;
  places = rw (c.into_iter-place-iterator.ensures.into_iter_gives, c.range-place-items.ensures.between tt, c.first_of.ensures, c.first_of-2.ensures, c.self.invariant.placed) (places_between c.args.from c.args.to c.self.inside.events);
}

pub unreachable-requires : goal.unreachable-requires
unreachable-requires c =
    let events = c.self.inside.events in
    let read = rw (← c.self.view_is, c.in-Some.ensures.steps) at c.loop-place.invariant in
    let n = next_event (is_between c.args.from c.args.to) events c.loop-place.events.items c.in-Some.place.now c.next.new.self c.self.invariant.rising read in
    let number : c.from-id.result ≡ n.at.id = c.from-id.ensures ∙ ap (λ (p : Place). p.id) n.is in
    let found = sym (ap (option_map (λ (f : Found). f.event)) c.in_default.is) ∙ c.find.ensures ∙ ap (event_at events) number ∙ n.held in
    absurd (none_some _ found)

pub loop-place-preserved : goal.loop-place-preserved
loop-place-preserved c =
    let events = c.self.inside.events in
    let read = rw (← c.self.view_is, c.in-Some.ensures.steps) at c.loop-place.invariant in
    let n = next_event (is_between c.args.from c.args.to) events c.loop-place.events.items c.in-Some.place.now c.next.new.self c.self.invariant.rising read in
    let number : c.from-id.result ≡ n.at.id = c.from-id.ensures ∙ ap (λ (p : Place). p.id) n.is in
    let found = sym (ap (option_map (λ (f : Found). f.event)) c.in-Some-find.is) ∙ c.find.ensures ∙ ap (event_at events) number ∙ n.held in
    rw (c.in_ok-push.ensures.items, ← c.self.view_is, found_same c.from-id.result c.in-Some-find.found.event n.at number found) n.then

pub returns-clause-value : goal.returns-clause-value
returns-clause-value c =
    let read = rw (← c.self.view_is, c.in-None.ensures.steps.0) at c.loop-place.invariant in
    rw (← c.self.view_is) (all_read c.self.inside.events _ c.loop-place.events.items read)

pub returns-clause-near : goal.returns-clause-near
returns-clause-near c = rw (← c.self.view_is) (all_near c.self.inside.events c.self.invariant.placeable)
