use Rattle.std.proofs.Common.{◌+◌, ◌<◌, length, get_or, sym, ap, ◌∙◌, arith}
use Rattle.pf_scenario.specs.declared.event.Event.TheVariants.{Join}
use Rattle.pf_scenario.specs.declared.event.Numbered.{Numbered}
use Rattle.pf_engine.specs.Fits.{Kept}
use Rattle.pf_engine.specs.Kept.{denial_at}
use Rattle.pf_engine.proofs.Advancing.{event_few}
use Rattle.pf_engine.proofs.Allowed.{one_joins}
use Rattle.pf_engine.proofs.Costs.{turn, three_of}
use Rattle.pf_engine.proofs.Turns.{can_take, at_next, events_more, given_more, given_denied, given_none, same_now}
use Rattle.pf_engine.proofs.state.State.take_events.Goals as goal
use Rattle.pf_engine.proofs.state.State.take_events.Goals.{in-Err, in_default}

no_event : Numbered
no_event = record { id = 0; event = Join 0 0 0 0 0 }

pub take_event-requires : goal.take_event-requires
unfolding no_event
take_event-requires c =
    let i = c.loop-x.x-index in
    let within : i < length c.args.events.now = omega arith in
    record {
      can = can_take c.loop-x.self.kept c.args.events.now i no_event within c.loop-x.invariant.at;
      room = omega (arith, one_joins (get_or c.args.events.now i no_event).event, c.loop-x.invariant.spare);
      number = rw c.loop-x.invariant.numbers (c.requires.room.numbers i _ within);
    }

pub loop-x-preserved : goal.loop-x-preserved
unfolding no_event
loop-x-preserved c =
    let events = c.args.events.now in
    let i = c.loop-x.x-index in
    let within : i < length events = omega arith in
    let e = c.loop-x.self.kept in
    let e' = c.take_event.new.self.kept in
    let x = get_or events i no_event in
    let takes = c.take_event.ensures.takes in
    let now = same_now e e' events i no_event within takes.kept c.loop-x.invariant.at in
    record {
      at = at_next e e' events i no_event within takes.kept c.loop-x.invariant.at;
      now = c.loop-x.invariant.now ∙ sym now;
      numbers = takes.numbers ∙ c.loop-x.invariant.numbers;
      spare = omega (arith, one_joins x.event, takes.spare, c.loop-x.invariant.spare);
      few = omega (arith, ap (λ (k : Kept). length k.tasks) takes.kept, event_few e x.event, c.loop-x.invariant.few);
      comparisons = turn i _ _
          (three_of (length e.tasks + 1) (length c.args.self.now.kept.tasks + length events) (omega (arith, c.loop-x.invariant.few)))
          c.loop-x.invariant.comparisons c.take_event.ensures.comparisons;
      memory = elim c.match-take_event.branch [
        | in-Err w ↦ rw w.denials-is (omega (arith, w.push_reserved.ensures.len, w.push_reserved.ensures.capacity, c.loop-x.invariant.memory))
        | in_default w ↦ rw w.denials-is (omega (arith, c.loop-x.invariant.memory))
      ];
      kept = events_more e e' events i no_event within takes.kept ∙ c.loop-x.invariant.kept;
      given = given_more e e' events i no_event c.loop-x.denials.items c.match-take_event.denials.items within takes.kept
          (elim c.match-take_event.branch [
            | in-Err w ↦ rw (w.denials-is, w.push_reserved.ensures.items)
                (given_denied x e.now c.self.inside.slots (denial_at e x.event) w.in-Err.denial c.take_event.result c.loop-x.denials.items
                takes.denial w.in-Err.is c.loop-x.invariant.now)
            | in_default w ↦ rw w.denials-is
                (given_none x e.now (denial_at e x.event) c.take_event.result c.loop-x.denials.items takes.denial
                w.in_default.field-0 w.in_default.is)
          ]) ∙ c.loop-x.invariant.given;
    }
