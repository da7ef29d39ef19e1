use Rattle.std.proofs.Common.{◌≡◌, ◌+◌, ◌≤◌, ◌∷◌, max, get_or, All, None, Some, Contains, length, drop, refl, sym, ap, ap₂, ◌∙◌, subst, arith}
use Rattle.std.specs.Option.{option_copied}
use Rattle.std.proofs.lemmas.List.{length-map}
use Rattle.pf_weight.specs.declared.task.TheConstants.{LARGEST_TASK}
use Rattle.pf_order.specs.Priority.{Priority}
use Rattle.pf_order.specs.declared.pick.Pick.{Pick}
use Rattle.pf_calendar.specs.Queues.{IsQueued, key_count}
use Rattle.pf_heap.proofs.Digits.{digits-mono}
use Rattle.pf_engine.specs.Kept.{member_in, changed_task, changed_tasks, member_after_run, tasks_after_pick}
use Rattle.pf_engine.specs.Agenda.{IsAgenda, with_put}
use Rattle.pf_run.specs.Inside.{eligible_from, next_key}
use Rattle.pf_engine.specs.Engines.{IsInside}
use Rattle.pf_engine.proofs.NextKeys.{Differ}
use Rattle.pf_engine.proofs.Asking.{member_among}
use Rattle.pf_engine.proofs.Agendas.{agenda_put, absent_away, differ_tasks, differ_changed, none_changed, inside_changed}
use Rattle.pf_engine.proofs.Costs.{turn, none_made}
use Rattle.pf_engine.proofs.Running.{IsKeyOf, key_of, tasks_more, next_away, behind_apart, key_small, key_inside, key_numbered, number_placed, all_stay}
use Rattle.pf_engine.proofs.agenda.run.Goals.{After-run, In-Some}
use Rattle.pf_engine.proofs.agenda.run.Goals as goal

pub loop-pick-init : goal.loop-pick-init
loop-pick-init c = record {
  tasks = refl;
  run = c.requires;
  members = c.requires.can.inside;
  differ = differ_tasks c.args.tasks.now.tasks c.requires.can.apart;
  stay = all_stay c.args.tasks.now.tasks;
  many = refl;
  comparisons = none_made _ c.args.meter.now;
}

-- the pick, and its key
abbrev pick : After-run → Pick
pick c = get_or c.args.picks.now c.loop-pick.pick-index (record { task = 0; sub = 0 })

key_here : (c : After-run) → IsKeyOf c.loop-pick.invariant.run.keys c.loop-pick.pick-index (pick c)
key_here c =
    key_of c.args.picks.now c.loop-pick.invariant.run.keys c.loop-pick.pick-index (record { task = 0; sub = 0 }) c.loop-pick.invariant.run.are c.loop-pick-test.true

-- the key is of this task
number : (c : After-run) → (pick c).task ≡ (key_here c).key.task
number c = ap (λ p. p.task) (sym (key_here c).pick)

numbered : (c : After-run) → (1 ≤ (key_here c).key.task) × ((key_here c).key.task ≤ LARGEST_TASK)
numbered c =
    let k = key_here c in
    let run = c.loop-pick.invariant.run in
    key_numbered c.args.slot c.args.tasks.now.tasks run.keys c.loop-pick.pick-index k.key run.can k.within k.is

pub run-requires : goal.run-requires
run-requires c =
    let run = c.loop-pick.invariant.run in
    let k = key_of c.args.picks.now run.keys c.loop-pick.pick-index (record { task = 0; sub = 0 }) run.are c.loop-pick-test.true in
    omega (
      arith,
      ap (λ (p : Pick). p.task) k.pick,
      (key_numbered c.args.slot c.args.tasks.now.tasks run.keys c.loop-pick.pick-index k.key run.can k.within k.is).1,
    )

pub get-requires : goal.get-requires
get-requires c =
    let g = (goal.at.get-requires c).After-run in
    omega (arith, number g, (numbered g).1)

pub put_next-requires-clause-some : goal.put_next-requires-clause-some
put_next-requires-clause-some c =
    let g = (goal.at.put_next-requires-clause-some c).After-run in
    omega (arith, number g, (numbered g).0)

pub put_next-requires-clause-number : goal.put_next-requires-clause-number
put_next-requires-clause-number c =
    let g = (goal.at.put_next-requires-clause-number c).After-run in
    omega (arith, number g, (numbered g).1)

ran_pick : (c : After-run) → c.run.new.self.tasks ≡ tasks_after_pick c.loop-pick.tasks.tasks (pick c)
ran_pick c = c.run.ensures.tasks ∙ ap (λ n. changed_tasks (pick c).task (member_after_run n) c.loop-pick.tasks.tasks) c.from.ensures

ran : (c : After-run) → c.run.new.self.tasks ≡ changed_tasks (key_here c).key.task (member_after_run (key_here c).key.sub) c.loop-pick.tasks.tasks
ran c = ran_pick c ∙ ap (tasks_after_pick c.loop-pick.tasks.tasks) (sym (key_here c).pick)

-- its task is inside
stays : (c : After-run) → member_in c.loop-pick.tasks.tasks (key_here c).key.task ≡ None → ⊥
stays c =
    let k = key_here c in
    let run = c.loop-pick.invariant.run in
    key_inside c.args.slot c.args.tasks.now.tasks run.keys c.loop-pick.pick-index k.key c.loop-pick.tasks.tasks run.can k.within k.is
    c.loop-pick.invariant.stay

pub unreachable-requires : goal.unreachable-requires
unreachable-requires c =
    let g = (goal.at.unreachable-requires c).After-run in
    let key = (key_here g).key in
    stays g (none_changed c.loop-pick.tasks.tasks key.task key.task (member_after_run key.sub)
    (ap₂ (λ ts t. member_in ts t) (sym (ran g)) (sym (number g)) ∙ sym c.get.ensures ∙ ap option_copied c.in_default.is))

-- its member, now that it ran
found : (c : In-Some) → (key : Priority) → c.run.new.self.tasks ≡ changed_tasks key.task (member_after_run key.sub) c.loop-pick.tasks.tasks →
    (get_or c.args.picks.now c.loop-pick.pick-index (record { task = 0; sub = 0 })).task ≡ key.task →
    member_in (changed_tasks key.task (member_after_run key.sub) c.loop-pick.tasks.tasks) key.task ≡ Some c.in-Some.member.now
found c key tasks task = ap₂ (λ ts t. member_in ts t) (sym tasks) (sym task) ∙ sym c.in-Some.ensures

pub put_next-requires-clause-member : goal.put_next-requires-clause-member
put_next-requires-clause-member c =
    let at = goal.at.put_next-requires-clause-member c in
    let g = at.After-run in
    let k = key_here g in
    let run = c.loop-pick.invariant.run in
    member_among (changed_tasks k.key.task (member_after_run k.key.sub) c.loop-pick.tasks.tasks) k.key.task c.in-Some.member.now
    (inside_changed c.loop-pick.tasks.tasks k.key.task k.key.sub
    (key_small c.args.slot c.args.tasks.now.tasks run.keys c.loop-pick.pick-index k.key run.can k.within k.is) c.loop-pick.invariant.members)
    (found at.In-Some (key_here g).key (ran g) (number g))

-- the agenda, where this key is the first one away
first_away : (c : After-run) → IsAgenda c.loop-pick.calendar (c.args.slot + 1) c.loop-pick.tasks.tasks
    ((key_here c).key ∷ drop (c.loop-pick.pick-index + 1) c.loop-pick.invariant.run.keys)
first_away c =
    let k = key_here c in
    let run = c.loop-pick.invariant.run in
    next_away c.loop-pick.calendar (c.args.slot + 1) c.loop-pick.tasks.tasks run.keys c.loop-pick.pick-index k.key k.within k.is run.agenda

pub put_next-requires-clause-placed : goal.put_next-requires-clause-placed
put_next-requires-clause-placed c =
    let g = (goal.at.put_next-requires-clause-placed c).After-run in
    omega (arith, number g, number_placed c.loop-pick.tasks.tasks (key_here g).key.task (first_away g) (stays g))

pub put_next-requires-clause-absent : goal.put_next-requires-clause-absent
put_next-requires-clause-absent c =
    let g = (goal.at.put_next-requires-clause-absent c).After-run in
    subst (λ t. ¬ (IsQueued c.loop-pick.calendar t)) (sym (number g)) (absent_away (key_here g).key (first_away g))

pub loop-pick-preserved : goal.loop-pick-preserved
loop-pick-preserved c =
    let at = goal.at.loop-pick-preserved c in
    let g = at.After-run in
    let k = key_here g in
    let key = k.key in
    let run = c.loop-pick.invariant.run in
    let i = c.loop-pick.pick-index in
    let tasks = c.loop-pick.tasks.tasks in
    let f = member_after_run key.sub in
    let start = c.args.tasks.now.tasks in
    let away = first_away g in
    let small = key_small c.args.slot start run.keys i key run.can k.within k.is in
    record {
      tasks = tasks_more start tasks c.run.new.self.tasks c.args.picks.now i (record { task = 0; sub = 0 }) c.loop-pick-test.true c.loop-pick.invariant.tasks (ran_pick g);
      run = record {
        keys = run.keys;
        are = run.are;
        can = run.can;
        agenda = subst (λ ts. IsAgenda c.put_next.new.calendar (c.args.slot + 1) ts (drop (i + 1) run.keys)) (sym (ran g))
            (agenda_put c.loop-pick.calendar c.put_next.new.calendar (c.args.slot + 1) _ tasks key (drop (i + 1) run.keys) f c.in-Some.member.now
            c.loop-pick.invariant.differ (found at.In-Some (key_here g).key (ran g) (number g)) (behind_apart c.args.slot start run.keys i key run.can k.within k.is) refl
            (c.put_next.ensures.put ∙ ap (λ t. with_put c.loop-pick.calendar (max (eligible_from c.in-Some.member.now) (c.args.slot + 1)) (next_key t c.in-Some.member.now)) (number g))
            c.put_next.ensures.counted c.put_next.ensures.some away);
      };
      members = subst (All IsInside) (sym (ran g)) (inside_changed tasks key.task key.sub small c.loop-pick.invariant.members);
      differ = subst (λ ts. Differ (Contains ts)) (sym (ran g)) (differ_changed tasks key.task f c.loop-pick.invariant.differ);
      stay = λ k inside none. c.loop-pick.invariant.stay k inside
          (none_changed tasks key.task k.task f (ap (λ ts. member_in ts k.task) (sym (ran g)) ∙ none));
      many = ap length (ran g) ∙ length-map tasks (changed_task key.task f) ∙ c.loop-pick.invariant.many;
      comparisons = turn i _ _
          (digits-mono (key_count c.loop-pick.calendar + 1) (length start) (omega (arith, away.count, c.loop-pick.invariant.many)))
          c.loop-pick.invariant.comparisons c.put_next.ensures.comparisons;
    }
