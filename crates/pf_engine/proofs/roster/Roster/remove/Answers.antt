use Rattle.std.proofs.Common.{ap, ◌∙◌}
use Rattle.pf_engine.specs.Roll.{Roll}
use Rattle.pf_engine.specs.Kept.{other_tasks}
use Rattle.pf_engine.proofs.Places.{none_to_leave, tasks_removed}
use Rattle.pf_engine.proofs.roster.Roster.remove.Goals as goal

pub returns-in_default-clause-tasks : goal.returns-in_default-clause-tasks
returns-in_default-clause-tasks c = none_to_leave c.args.self.now.tasks c.args.task c.in_default.ensures

pub returns-clause-tasks : goal.returns-clause-tasks
returns-clause-tasks c =
    rw c.remove.ensures.items
    (tasks_removed c.self.inside.tasks.items c.args.task c.in-Some.place c.remove.result (rw (← c.self.view_is) at c.in-Some.ensures)
    ∙ ap (λ (r : Roll). other_tasks c.args.task r.tasks) c.self.view_is)
