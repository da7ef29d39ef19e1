use Rattle.std.proofs.Common.{rules, ◌≡◌, Some}
use Rattle.pf_run.specs.Record.{in_force}
use Rattle.pf_notes.specs.Point.{joined_at}
use Rattle.pf_notes.specs.Reasons.{AreReasons}
use Rattle.pf_notes.proofs.Standing.{standing_slot}
use Rattle.pf_notes.proofs.reasons.Reasons.early_leave.Goals as goal

pub leave_grounds-requires-clause-joined : goal.leave_grounds-requires-clause-joined
leave_grounds-requires-clause-joined c =
    let are : AreReasons c.args.self.now c.self.inside.past.items c.self.inside.denied.items = search rules in
    let found : joined_at c.args.self.now.state.plan.settings.base (in_force c.args.self.now.denials c.args.before.now) c.args.task ≡ Some c.in-Some.joined = search rules in
    standing_slot c.args.self.now c.self.inside.past.items c.self.inside.denied.items are c.args.before.now c.requires.point.is_front c.args.task
    c.in-Some.joined found
