use Rattle.std.proofs.Common.{◌≡◌, ◌+◌, ◌≤◌, ◌⊎◌, inl, inr, ◌++◌, List, [], map, fold, length, sym, ap, ◌∙◌, subst, arith, ⊎_elim}
use Rattle.std.proofs.lemmas.List.{length-map}
use Rattle.std.specs.FinMap as fin
use Rattle.std.specs.FinSet as set
use Rattle.pf_scenario.specs.System.{System}
use Rattle.pf_order.specs.First.{AreFirst}
use Rattle.pf_order.specs.declared.pick.Pick.{Pick}
use Rattle.pf_calendar.specs.Queues.{Queues, until, key_count}
use Rattle.pf_run.specs.Run.{pick_of_key}
use Rattle.pf_engine.specs.Fits.{Kept}
use Rattle.pf_engine.specs.Kept.{kept_after_events, denials_of_slot, ready_keys, kept_after_picks, tasks_after_pick}
use Rattle.pf_engine.specs.Points.{IsAt}
use Rattle.pf_engine.specs.Taking.{Advances, Chooses, AreBeingRun}
use Rattle.pf_engine.specs.Keeping.{Keeping}
use Rattle.pf_engine.specs.States.{kept_of}
use Rattle.pf_engine.proofs.Bounding.{at_taking, engine_taken}
use Rattle.pf_engine.proofs.Advancing.{events_few, same_settings, at_end}
use Rattle.pf_engine.proofs.Costs.{slot_made}
use Rattle.pf_engine.proofs.Due.{agenda_due}
use Rattle.pf_engine.proofs.Slot.{are_first, left_agenda, can_run}
use Rattle.pf_engine.proofs.state.State.advance.Goals.{After-advance, After-choose, After-run}
use Rattle.pf_engine.proofs.state.State.advance.Goals as goal

pub take_events-requires-clause-at : goal.take_events-requires-clause-at
take_events-requires-clause-at c = at_taking _ _ c.requires.can

-- once the events were taken
same : (c : After-advance) → kept_of c.self.inside ≡ kept_after_events c.args.self.now.kept c.args.events.now
same c = ap (λ (s : Keeping). s.kept) c.self.view_is ∙ c.take_events.ensures.kept

at_picks : (c : After-advance) → IsAt (kept_of c.self.inside) []
at_picks c = at_end _ _ c.args.events.now (same c) (at_taking _ _ c.requires.can)

-- there are no more processors in use than there are
count_within : (c : After-advance) → c.self.inside.count ≤ c.args.self.now.kept.settings.processors
count_within c =
    omega (arith, c.self.invariant.engine.count, ap (λ (s : System). s.processors) (same_settings _ _ c.args.events.now (same c) (at_taking _ _ c.requires.can)))

pub choose-requires-clause-room : goal.choose-requires-clause-room
choose-requires-clause-room c =
    omega (arith, count_within (goal.at.choose-requires-clause-room c).After-advance, c.requires.ready.slot.picks_fit)

-- as many keys were taken out as there are picks
as_many : {q q' : Queues} {picks : List Pick} (chosen : Chooses q q' picks) → length chosen.keys ≡ length picks
as_many chosen = sym (length-map chosen.keys pick_of_key) ∙ ap length (sym chosen.are)

enough_chosen : (c : After-choose) → (length c.choose.ensures.first.keys ≡ c.self.inside.count) ⊎ (c.choose.new.calendar.ready ≡ set.empty)
enough_chosen c = ⊎_elim (λ full. inl (as_many c.choose.ensures.first ∙ full)) (λ spent. inr spent) c.choose.ensures.enough

few_chosen : (c : After-choose) → length c.choose.ensures.first.keys ≤ c.self.inside.count
few_chosen c = omega (arith, as_many c.choose.ensures.first, c.choose.ensures.few)

pub run-requires : goal.run-requires
run-requires c =
    let g = goal.at.run-requires c in
    let first = c.choose.ensures.first in
    subst (λ ps. AreBeingRun c.self.inside.slots c.self.inside.tasks.tasks ps 0 c.self.inside.tasks.tasks c.choose.new.calendar) (sym c.deref.ensures.value) (record {
      keys = first.keys;
      are = first.are;
      can = can_run (kept_of c.self.inside) c.self.inside.calendar c.advance.new.self c.choose.new.calendar first.keys (at_picks g.After-advance)
          c.self.invariant.agenda c.advance.ensures.advanced c.advance.ensures.counted c.advance.ensures.some c.advance.ensures.once first.first
          (enough_chosen g.After-choose) (few_chosen g.After-choose);
      agenda = left_agenda (kept_of c.self.inside) c.self.inside.calendar c.advance.new.self c.choose.new.calendar first.keys (at_picks g.After-advance)
          c.self.invariant.agenda c.advance.ensures.advanced c.advance.ensures.counted c.advance.ensures.some c.advance.ensures.once first.first;
    })

-- what the slot gives
abbrev after : After-run → Kept
after c = record (kept_of c.self.inside) { now = c.self.inside.slots + 1; tasks = c.run.new.tasks.tasks }

advances : (c : After-run) → IsAt (kept_of c.self.inside) [] → kept_of c.self.inside ≡ kept_after_events c.args.self.now.kept c.args.events.now →
    (length c.choose.ensures.first.keys ≡ c.self.inside.count) ⊎ (c.choose.new.calendar.ready ≡ set.empty) → length c.choose.ensures.first.keys ≤ c.self.inside.count →
    Advances c.args.self.now.kept c.args.events.now
    (record { slot = record { picks = c.choose.new.picks.items; denials = c.take_events.new.denials.items }; count = c.self.inside.count }) (after c)
advances c at same enough few =
    let e = kept_of c.self.inside in
    let first = c.choose.ensures.first in
    let keys = first.keys in
    record {
      chosen = keys;
      are_first = subst (λ (k : Kept). AreFirst k.count (ready_keys k) keys) same
          (are_first e c.self.inside.calendar c.advance.new.self c.choose.new.calendar keys at c.self.invariant.agenda c.advance.ensures.advanced
          c.advance.ensures.counted c.advance.ensures.some c.advance.ensures.once first.first enough few);
      picks = first.are;
      denials = c.take_events.ensures.denials ∙ ap (λ ds. ds ++ denials_of_slot c.args.self.now.kept c.args.events.now) c.requires.ready.slot.no_denials;
      count = ap (λ (k : Kept). k.count) same;
      after = ap (λ ts. record e { now = e.now + 1; tasks = ts })
          (c.run.ensures.tasks ∙ ap (fold tasks_after_pick e.tasks) (c.deref.ensures.value ∙ first.are))
          ∙ ap (λ k. kept_after_picks k (map pick_of_key keys)) same;
    }

pub invariant_of-self : goal.invariant_of-self
invariant_of-self c =
    let g = goal.at.invariant_of-self c in
    record {
      engine = engine_taken c.args.self.now.kept c.args.events.now _ (after g.After-run) c.requires.can
          (advances g.After-run (at_picks g.After-advance) (same g.After-advance) (enough_chosen g.After-choose) (few_chosen g.After-choose));
      agenda = c.run.ensures.agenda;
    }

pub returns-clause-advances : goal.returns-clause-advances
returns-clause-advances c =
    let g = goal.at.returns-clause-advances c in
    advances g.After-run (at_picks g.After-advance) (same g.After-advance) (enough_chosen g.After-choose) (few_chosen g.After-choose)

pub returns-clause-comparisons : goal.returns-clause-comparisons
returns-clause-comparisons c =
    let q = c.self.inside.calendar in
    let tasks = c.self.inside.tasks.tasks in
    let n = length c.args.self.now.kept.tasks + length c.args.events.now in
    let few : length tasks ≤ n = omega (
      arith,
      ap (λ (k : Kept). length k.tasks) (same (goal.at.returns-clause-comparisons c).After-advance),
      events_few c.args.self.now.kept c.args.events.now,
    ) in
    slot_made (length c.args.events.now) c.self.inside.count (fin.len (until c.self.inside.slots q.waiting)) (length c.deref.result.now) (key_count q)
    (key_count c.advance.new.self) (length tasks) n
    (agenda_due q c.self.inside.slots tasks c.self.invariant.agenda)
    (omega (arith, c.choose.ensures.few, ap length c.deref.ensures.value))
    (omega (arith, c.self.invariant.agenda.count, few))
    (omega (arith, c.self.invariant.agenda.count, c.advance.ensures.counted, few))
    few c.take_events.ensures.comparisons c.advance.ensures.comparisons c.choose.ensures.comparisons c.run.ensures.comparisons
