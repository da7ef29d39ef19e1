use Rattle.std.proofs.Common.{◌+◌, ◌<◌, refl, ap, ◌∙◌, subst, arith}
use Rattle.std.proofs.lemmas.Bool.{eq-eqb}
use Rattle.std.proofs.lemmas.List.{take_all}
use Rattle.pf_weight.specs.declared.task.TheConstants.{LARGEST_TASK}
use Rattle.pf_scenario.specs.Event.{is_join_of}
use Rattle.pf_engine.specs.Roll.{AllJoinBelow}
use Rattle.pf_engine.proofs.agenda.reserve_joins.Goals.{In-Join}
use Rattle.pf_engine.proofs.agenda.reserve_joins.Goals as goal

-- the number of the task that joins
number : (c : In-Join) → c.in-Join.task < LARGEST_TASK + 1
number c =
    c.requires c.loop-x.x-index _ (omega arith) c.in-Join.task (ap (is_join_of c.in-Join.task) c.in-Join.is ∙ eq-eqb c.in-Join.task c.in-Join.task refl)

pub number_of-requires : goal.number_of-requires
number_of-requires c = omega (arith, number (goal.at.number_of-requires c).In-Join)

pub reserve_task-requires : goal.reserve_task-requires
reserve_task-requires c = omega (arith, c.number_of.ensures, number (goal.at.reserve_task-requires c).In-Join)

pub returns-clause-room : goal.returns-clause-room
returns-clause-room c =
    subst (AllJoinBelow c.loop-x.calendar.tasks) (take_all c.loop-x.x-index c.args.events.now (omega arith)) c.loop-x.invariant.room
