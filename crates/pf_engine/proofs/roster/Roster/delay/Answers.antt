use Rattle.std.proofs.Common.{◌+◌, ◌^◌, ◌<◌, sym, ap, ◌∙◌, arith, refl}
use Rattle.pf_engine.specs.Roll.{Roll}
use Rattle.pf_engine.specs.Kept.{member_in, changed_tasks, member_after_delay}
use Rattle.pf_engine.proofs.Places.{member_at_place, unchanged, edited, member_edited, no_member}
use Rattle.pf_engine.proofs.roster.Roster.delay.Goals as goal

pub returns-in_default-clause-tasks : goal.returns-in_default-clause-tasks
returns-in_default-clause-tasks c = unchanged c.args.self.now.tasks c.args.task (member_after_delay c.args.by) c.in_default.ensures

pub overflow_add-kept : goal.overflow_add-kept
overflow_add-kept c =
    let at = member_at_place c.self.inside.tasks.items c.args.task c.in-Some.place c.index_mut-kept.result.now
    (rw (← c.self.view_is) at c.in-Some.ensures) c.index_mut-kept.ensures.value in
    let fits : c.index_mut-kept.result.now.member.shift + c.args.by < 2 ^ 64 =
    c.requires.fits c.index_mut-kept.result.now.member
    (ap (λ (r : Roll). member_in r.tasks c.args.task) (sym c.self.view_is) ∙ sym at) in
    omega arith

pub returns-clause-tasks : goal.returns-clause-tasks
returns-clause-tasks c =
    edited c.self.inside.tasks.items c.args.task c.in-Some.place c.index_mut-kept.result.now _
    (member_after_delay c.args.by) (rw (← c.self.view_is) at c.in-Some.ensures) c.index_mut-kept.ensures.value refl
    ∙ ap (λ (r : Roll). changed_tasks c.args.task (member_after_delay c.args.by) r.tasks) c.self.view_is

pub returns-in_default-clause-member : goal.returns-in_default-clause-member
returns-in_default-clause-member c = no_member c.args.self.now.tasks c.args.task c.in_default.ensures

pub returns-clause-member : goal.returns-clause-member
returns-clause-member c =
    member_edited c.self.inside.tasks.items c.args.task c.in-Some.place c.index_mut-kept.result.now _
    (member_after_delay c.args.by) (rw (← c.self.view_is) at c.in-Some.ensures) c.index_mut-kept.ensures.value refl
