use Rattle.std.proofs.Common.{◌≡◌, ◌<◌, None, length, refl, sym, ap, ◌∙◌, option_copied, subst, arith, rules}
use Rattle.std.proofs.lemmas.List.Elements.{All-contains}
use Rattle.pf_calendar.specs.Queues.{Queues, IsQueued}
use Rattle.pf_admit.specs.Admission.{delay_denial}
use Rattle.pf_run.proofs.Limits.{delay_by}
use Rattle.pf_engine.specs.Fits.{KeptTask}
use Rattle.pf_engine.specs.Kept.{member_in, member_after_delay}
use Rattle.pf_engine.specs.Engines.{IsEngine}
use Rattle.pf_engine.specs.Keeping.{Keeping}
use Rattle.pf_engine.specs.States.{kept_of}
use Rattle.pf_engine.proofs.Asking.{is_member, member_among}
use Rattle.pf_engine.proofs.Agendas.{HasAway, agenda_taken, absent_away, differ_tasks, found_in, found_changed, agenda_back, tasks_taken, count_taken}
use Rattle.pf_engine.proofs.Allowed.{engine_after, inside_of_delay}
use Rattle.pf_engine.proofs.Costs.{both_made}
use Rattle.pf_engine.proofs.state.State.delay.Goals.{In_ok-may_delay, After-take_out}
use Rattle.pf_engine.proofs.state.State.delay.Goals as goal

pub may_delay-requires : goal.may_delay-requires
may_delay-requires c = λ x e.
    is_member (kept_of c.self.inside) c.args.task x.now c.self.invariant.engine (sym c.get.ensures ∙ ap option_copied e)

pub delay-requires-clause-fits : goal.delay-requires-clause-fits
delay-requires-clause-fits c = λ x e.
    let member = is_member (kept_of c.self.inside) c.args.task x c.self.invariant.engine e in
    omega (arith, member.shift, delay_by c.args.self.now.kept.settings c.args.slot c.args.task c.args.by c.requires.can.limits)

-- it isn't denied
allowed : (c : In_ok-may_delay) → delay_denial c.args.slot (member_in c.self.inside.tasks.tasks c.args.task) ≡ None
allowed c = ap (delay_denial c.args.slot) (sym c.get.ensures) ∙ sym c.in_ok-may_delay.ensures

pub put_next-requires-clause-member : goal.put_next-requires-clause-member
put_next-requires-clause-member c =
    let engine : IsEngine (record (kept_of c.self.inside) { tasks = c.delay.new.self.tasks }) = engine_after c.requires.can (search rules) in
    member_among c.delay.new.self.tasks c.args.task c.in-Some.member engine.tasks (sym c.in-Some.ensures.member)

-- the key is away
away : (c : After-take_out) → delay_denial c.args.slot (member_in c.self.inside.tasks.tasks c.args.task) ≡ None →
    HasAway c.take_out.new.self c.self.inside.slots c.self.inside.tasks.tasks c.args.task c.self.inside.calendar.spare
away c none =
    let m = inside_of_delay c.args.slot (member_in c.self.inside.tasks.tasks c.args.task) none in
    agenda_taken c.self.inside.calendar c.take_out.new.self c.self.inside.slots c.self.inside.tasks.tasks c.args.task m.0 c.take_out.result m.1
    c.take_out.ensures.taken c.take_out.ensures.counted c.take_out.ensures.once c.take_out.ensures.some c.self.invariant.agenda

pub put_next-requires-clause-room : goal.put_next-requires-clause-room
put_next-requires-clause-room c =
    let g = goal.at.put_next-requires-clause-room c in
    (away g.After-take_out (allowed g.In_ok-may_delay)).agenda.room

pub put_next-requires-clause-placed : goal.put_next-requires-clause-placed
put_next-requires-clause-placed c =
    let g = goal.at.put_next-requires-clause-placed c in
    let tasks = c.self.inside.tasks.tasks in
    let none = allowed g.In_ok-may_delay in
    let m = inside_of_delay c.args.slot (member_in tasks c.args.task) none in
    All-contains (λ (k : KeptTask). k.task < c.take_out.new.self.tasks) tasks (record { task = c.args.task; member = m.0 })
    (away g.After-take_out none).agenda.numbers (found_in tasks c.args.task m.0 m.1)

pub put_next-requires-clause-absent : goal.put_next-requires-clause-absent
put_next-requires-clause-absent c =
    let g = goal.at.put_next-requires-clause-absent c in
    let h = away g.After-take_out (allowed g.In_ok-may_delay) in
    subst (λ t. ¬ (IsQueued c.take_out.new.self t)) h.of_task (absent_away h.key h.agenda)

pub invariant_of-self : goal.invariant_of-self
invariant_of-self c =
    let g = goal.at.invariant_of-self c in
    let none = allowed g.In_ok-may_delay in
    let tasks = c.self.inside.tasks.tasks in
    record {
      engine = engine_after c.requires.can (search rules);
      agenda = rw c.in-Some.ensures.tasks (agenda_back c.take_out.new.self c.put_next.new.calendar c.self.inside.slots _ c.self.inside.calendar.spare tasks c.args.task
          (member_after_delay c.args.by) c.in-Some.member (differ_tasks tasks c.self.invariant.engine.apart)
          (ap (λ ts. member_in ts c.args.task) (sym c.in-Some.ensures.tasks) ∙ sym c.in-Some.ensures.member) refl c.put_next.ensures.put c.put_next.ensures.counted
          c.put_next.ensures.some (away g.After-take_out none));
    }

pub invariant_of-self-in_default : goal.invariant_of-self-in_default
invariant_of-self-in_default c =
    let tasks = c.self.inside.tasks.tasks in
    let m = inside_of_delay c.args.slot (member_in tasks c.args.task) (allowed (goal.at.invariant_of-self-in_default c).In_ok-may_delay) in
    absurd (found_changed tasks c.args.task (member_after_delay c.args.by) m.0 m.1
    (ap (λ ts. member_in ts c.args.task) (sym c.in_default.ensures.tasks) ∙ sym c.in_default.ensures.member))

pub returns-in-Some-clause-takes : goal.returns-in-Some-clause-takes
returns-in-Some-clause-takes c =
    let g = goal.at.returns-in-Some-clause-takes c in
    let none = allowed g.In_ok-may_delay in
    record {
      denial = search rules;
      kept = search rules;
      spare = omega (
        arith,
        (away g.After-take_out none).freed,
        ap (λ (q : Queues). q.spare) c.put_next.ensures.put,
        ap (λ (s : Keeping). s.spare) c.self.view_is,
      );
      numbers = omega (
        arith,
        ap (λ (q : Queues). q.tasks) c.put_next.ensures.put,
        tasks_taken c.self.inside.calendar c.take_out.new.self c.args.task c.take_out.result c.take_out.ensures.taken,
        ap (λ (s : Keeping). s.numbers) c.self.view_is,
      );
    }

pub returns-in-Some-clause-comparisons : goal.returns-in-Some-clause-comparisons
returns-in-Some-clause-comparisons c =
    let fewer = count_taken c.self.inside.calendar c.take_out.new.self c.args.task c.take_out.result c.take_out.ensures.taken c.take_out.ensures.counted in
    let long = ap (λ (s : Keeping). length s.kept.tasks) c.self.view_is in
    both_made (omega (arith, c.self.invariant.agenda.count, long)) (omega (arith, c.self.invariant.agenda.count, long, fewer)) c.take_out.ensures.comparisons
    c.put_next.ensures.comparisons
