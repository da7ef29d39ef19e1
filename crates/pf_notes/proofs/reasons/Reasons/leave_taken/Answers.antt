use Rattle.std.proofs.Common.{rules, ◌≡◌, ◌==◌, ◌&&◌, ◌∙◌, List, ℕ, not, find, ap}
use Rattle.std.specs.List.{list_any}
use Rattle.pf_scenario.specs.Event.{is_leave_of}
use Rattle.pf_run.specs.Record.{in_force}
use Rattle.pf_desk.specs.Desk.{Seen}
use Rattle.pf_notes.specs.Absence.{leave_among}
use Rattle.pf_notes.proofs.Standing.{taken_is}
use Rattle.pf_notes.proofs.reasons.Reasons.leave_taken.Goals as goal

pub returns : goal.returns
returns c =
    let seen : c.self.inside.snapshot.now ≡ c.args.self.now = search rules in
    c.leave_taken.ensures
    ∙ ap (λ (numbers : List ℕ). find (λ x. not (list_any (λ n. n == x.id) numbers) && is_leave_of c.args.task x.event) c.args.before.now) c.deref.ensures.value
    ∙ taken_is _ _ c.args.task c.args.before.now c.self.invariant.denied
    ∙ ap (λ (seen : Seen). leave_among c.args.task (in_force seen.denials c.args.before.now)) seen
