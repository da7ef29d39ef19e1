use Rattle.std.proofs.Common.{refl, subst}
use Rattle.std.specs.Prelude.{IfOk}
use Rattle.pf_replies.specs.Carried.{CarriesOn, GoesOn, RepliesLeft}
use Rattle.pf_replies.proofs.Carrying.{command_carried, end_carried}
use Rattle.pf_replies.proofs.script_replies.ScriptReplies.carry_on.Goals as goal

pub returns-in_default : goal.returns-in_default
returns-in_default c =
    let was = c.self.inside in
    let before : RepliesLeft = record { commands = was.commands; desk = was.desk; format = was.format; begun = was.begun } in
    subst (λ a. IfOk c.answer_waiting.result (λ some. CarriesOn some a (record before { commands = c.next.new.self; desk = c.answer_waiting.new.self }))) c.self.view_is
    (end_carried c.answer_waiting.result before c.next.new.self c.answer_waiting.new.self (rw c.in_default.is at c.in_ok-command.ensures)
    c.answer_waiting.ensures.answered c.answer_waiting.ensures.some c.answer_waiting.ensures.none)

pub returns : goal.returns
returns c =
    let was = c.self.inside in
    let before : RepliesLeft = record { commands = was.commands; desk = was.desk; format = was.format; begun = was.begun } in
    let after = record before { commands = c.next.new.self; desk = c.take.new.self } in
    subst (λ a. GoesOn a after) c.self.view_is
    (command_carried before after c.in-Some.command (rw c.in-Some.is at c.in_ok-command.ensures) c.in_ok-take.ensures refl refl)
