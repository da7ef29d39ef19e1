use Rattle.std.proofs.Common.{◌<◌, min, refl, sym, ap, ◌∙◌, subst, arith, rules}
use Rattle.std.proofs.lemmas.Bool.{eq-eqb}
use Rattle.pf_engine.specs.Kept.{member_in}
use Rattle.pf_engine.specs.Keeping.{Keeping}
use Rattle.pf_engine.proofs.Agendas.{absent_task, agenda_joined}
use Rattle.pf_engine.proofs.Allowed.{engine_after}
use Rattle.pf_engine.proofs.state.State.join.Goals.{After-units-2}
use Rattle.pf_engine.proofs.state.State.join.Goals as goal

-- there is room for the task's number
number : (c : After-units-2) → c.args.task < min c.self.inside.tasks.numbers c.self.inside.calendar.tasks
number c =
    subst (λ (s : Keeping). c.args.task < s.numbers) (sym c.self.view_is) (c.requires.number c.args.task (eq-eqb c.args.task c.args.task refl))

pub push-requires-clause-number : goal.push-requires-clause-number
push-requires-clause-number c = omega (arith, number (goal.at.push-requires-clause-number c).After-units-2)

pub put_next-requires-clause-placed : goal.put_next-requires-clause-placed
put_next-requires-clause-placed c = omega (arith, number (goal.at.put_next-requires-clause-placed c).After-units-2)

pub put_next-requires-clause-absent : goal.put_next-requires-clause-absent
put_next-requires-clause-absent c =
    absent_task c.args.task
    (ap (λ (s : Keeping). member_in s.kept.tasks c.args.task) c.self.view_is ∙ c.requires.can.absent c.args.task (eq-eqb c.args.task c.args.task refl))
    c.self.invariant.agenda

pub invariant_of-self : goal.invariant_of-self
invariant_of-self c = record {
  engine = engine_after c.requires.can (search rules);
  agenda = rw c.push.ensures.tasks (agenda_joined c.self.inside.calendar c.put_next.new.calendar c.self.inside.slots _ c.self.inside.tasks.tasks _ refl
      c.put_next.ensures.put c.put_next.ensures.counted c.put_next.ensures.some (omega (arith, number (goal.at.invariant_of-self c).After-units-2))
      c.self.invariant.agenda);
}
