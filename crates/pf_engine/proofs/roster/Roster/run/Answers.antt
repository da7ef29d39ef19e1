use Rattle.std.proofs.Common.{ap, ◌∙◌, refl}
use Rattle.pf_engine.specs.Roll.{Roll}
use Rattle.pf_engine.specs.Kept.{changed_tasks, member_after_run}
use Rattle.pf_engine.proofs.Places.{unchanged, edited}
use Rattle.pf_engine.proofs.roster.Roster.run.Goals as goal

pub returns-in_default-clause-tasks : goal.returns-in_default-clause-tasks
returns-in_default-clause-tasks c = unchanged c.args.self.now.tasks c.args.task (member_after_run c.args.sub) c.in_default.ensures

pub returns-clause-tasks : goal.returns-clause-tasks
returns-clause-tasks c =
    edited c.self.inside.tasks.items c.args.task c.in-Some.place c.index_mut-kept.result.now _
    (member_after_run c.args.sub) (rw (← c.self.view_is) at c.in-Some.ensures) c.index_mut-kept.ensures.value refl
    ∙ ap (λ (r : Roll). changed_tasks c.args.task (member_after_run c.args.sub) r.tasks) c.self.view_is
