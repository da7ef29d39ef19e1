use Rattle.std.proofs.Common.{◌∙◌, ap, subst, sym, ◌++◌, ◌∷◌, []}
use Rattle.pf_desk.specs.declared.command.Command.{Command}
use Rattle.pf_desk.specs.declared.entry.Entry.{Entry}
use Rattle.pf_desk.specs.Desk.{Seen, StandsForHistory, entry_of}
use Rattle.pf_desk.specs.Machine.{reply_to, state_after}
use Rattle.first_desk.specs.Planned.{leave_command, planner}
use Rattle.first_desk.proofs.what_if.if_left.Goals as goal

pub returns-clause-state : goal.returns-clause-state
returns-clause-state c =
    let ready = c.in_ok-prepared.ensures.ok in
    let seen = c.in_ok-try_clone.ensures ∙ c.snapshot.ensures in
    let state = c.args.desk.now.state in
    ap (λ (s : Seen). s.state) seen ∙ ready.state
    ∙ ap (λ (command : Command). state_after state command (reply_to state command)) c.leave.ensures

pub returns-clause-stands : goal.returns-clause-stands
returns-clause-stands c =
    let ready = c.in_ok-prepared.ensures.ok in
    let seen = c.in_ok-try_clone.ensures ∙ c.snapshot.ensures in
    let state = c.args.desk.now.state in
    let entered = ready.entry ∙ ap (λ (command : Command). entry_of planner command (reply_to state command)) c.leave.ensures in
    let command = leave_command c.args.slot c.args.task in
    let history = c.args.desk.now.history in
    subst (λ (s : Seen). StandsForHistory (history ++ entry_of planner command (reply_to state command) ∷ []) s) (sym seen)
    (subst (λ (e : Entry). StandsForHistory (history ++ e ∷ []) c.in_ok-prepared.prepared.seen) entered ready.seen)
