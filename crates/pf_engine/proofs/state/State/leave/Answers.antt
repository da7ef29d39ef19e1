use Rattle.std.proofs.Common.{◌≡◌, Some, length, sym, ap, ◌∙◌, option_copied, arith}
use Rattle.std.proofs.lemmas.Grind.{common_steps}
use Rattle.pf_admit.specs.Admission.{leave_denial}
use Rattle.pf_engine.specs.Kept.{member_in}
use Rattle.pf_engine.specs.Keeping.{Keeping}
use Rattle.pf_engine.specs.States.{kept_of}
use Rattle.pf_engine.proofs.Asking.{is_member, units_in_load}
use Rattle.pf_engine.proofs.Agendas.{agenda_taken, agenda_left}
use Rattle.pf_engine.proofs.Allowed.{engine_after}
use Rattle.pf_engine.proofs.Costs.{out_made}
use Rattle.pf_engine.proofs.state.State.leave.Goals.{In-Some}
use Rattle.pf_engine.proofs.state.State.leave.Goals as goal

pub may_leave-requires : goal.may_leave-requires
may_leave-requires c = λ x e.
    is_member (kept_of c.self.inside) c.args.task x.now c.self.invariant.engine
    (sym c.get.ensures ∙ sym c.copied-member.ensures ∙ sym c.as_ref.ensures.value ∙ ap option_copied e)

pub unreachable-requires : goal.unreachable-requires
unreachable-requires c =
    let two = c.in_ok-may_leave.ensures ∙ ap (leave_denial c.args.slot) (c.as_ref.ensures.value ∙ c.in_default.is) in
    cc

-- the member is inside
found : (c : In-Some) → member_in c.self.inside.tasks.tasks c.args.task ≡ Some c.in-Some.member
found c = sym c.get.ensures ∙ sym c.copied-member.ensures ∙ c.in-Some.is

pub overflow_sub-self : goal.overflow_sub-self
overflow_sub-self c =
    omega (
      arith,
      units_in_load (kept_of c.self.inside) c.args.task c.in-Some.member c.self.invariant.engine (found (goal.at.overflow_sub-self c).In-Some),
      c.units.ensures.value,
    )

pub invariant_of-self : goal.invariant_of-self
invariant_of-self c =
    let tasks = c.self.inside.tasks.tasks in
    let m = c.in-Some.member in
    let inside = found (goal.at.invariant_of-self c).In-Some in
    record {
      engine = engine_after c.requires.can (grind (arith, common_steps));
      agenda = rw c.remove.ensures.tasks (agenda_left tasks c.args.task m c.self.invariant.engine.apart inside
          (agenda_taken c.self.inside.calendar c.take_out.new.self c.self.inside.slots tasks c.args.task m c.take_out.result inside c.take_out.ensures.taken
          c.take_out.ensures.counted c.take_out.ensures.once c.take_out.ensures.some c.self.invariant.agenda));
    }

pub returns-clause-comparisons : goal.returns-clause-comparisons
returns-clause-comparisons c =
    out_made (omega (arith, c.self.invariant.agenda.count, ap (λ (s : Keeping). length s.kept.tasks) c.self.view_is)) c.take_out.ensures.comparisons
