use Rattle.std.proofs.Common.{◌+◌, ◌≤◌, [], ◌∷◌, ◌++◌, length, refl, sym, ap, ap₂, ◌∙◌, arith}
use Rattle.std.proofs.lemmas.List.{map-append}
use Rattle.pf_calendar.specs.Queues.{key_count}
use Rattle.pf_run.specs.Run.{pick_of_key}
use Rattle.pf_engine.proofs.Chosen.{takes_none, takes_more}
use Rattle.pf_engine.proofs.Costs.{turn, turns, two_of, none_made}
use Rattle.pf_engine.proofs.agenda.choose.Goals as goal

pub loop-init : goal.loop-init
loop-init c = record {
  first = record { keys = []; are = c.requires.none; first = takes_none c.args.calendar.now };
  few = omega (arith, ap length c.requires.none);
  room = refl;
  comparisons = none_made _ c.args.meter.now;
}

pub returns-in_default-clause-comparisons : goal.returns-in_default-clause-comparisons
returns-in_default-clause-comparisons c =
    let fewer : key_count c.loop.calendar ≤ key_count c.args.calendar.now = omega (arith, c.loop.invariant.first.first.counted) in
    turns (c.loop.counter + 1) c.args.count _ (omega arith) (turn c.loop.counter _ _ (two_of (key_count c.loop.calendar) (key_count c.args.calendar.now) fewer) c.loop.invariant.comparisons c.in_default.ensures.comparisons)

pub loop-preserved : goal.loop-preserved
loop-preserved c =
    let f = c.loop.invariant.first in
    let t = f.first in
    let key = c.in-Some.key in
    let fewer : key_count c.loop.calendar ≤ key_count c.args.calendar.now = omega (arith, t.counted) in
    record {
      first = record {
        keys = f.keys ++ key ∷ [];
        are = c.push_reserved.ensures.items
            ∙ ap₂ (λ ps p. ps ++ p ∷ []) f.are (λ j. record { task = c.task.ensures.value j; sub = c.sub.ensures.value j })
            ∙ sym (map-append pick_of_key f.keys (key ∷ []));
        first = takes_more c.args.calendar.now c.loop.calendar c.pop_ready.new.self f.keys key t c.in-Some.ensures.popped.0
            c.in-Some.ensures.popped.1 c.in-Some.ensures.once c.in-Some.ensures.counted;
      };
      few = omega (arith, c.push_reserved.ensures.len, c.loop.invariant.few);
      room = c.push_reserved.ensures.capacity ∙ c.loop.invariant.room;
      comparisons = turn c.loop.counter _ _ (two_of (key_count c.loop.calendar) (key_count c.args.calendar.now) fewer) c.loop.invariant.comparisons c.in-Some.ensures.comparisons;
    }
