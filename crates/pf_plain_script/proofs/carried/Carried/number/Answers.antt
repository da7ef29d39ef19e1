use Rattle.std.proofs.Common.{◌≡◌, [], ◌∷◌, sym, ap, ◌∙◌}
use Rattle.std.specs.List.{flat_map}
use Rattle.pf_desk.specs.declared.command.Command.TheVariants as command
use Rattle.pf_desk.specs.Machine.{reply_to}
use Rattle.pf_script_desk.specs.Asked.{commands_of}
use Rattle.pf_plain_script.specs.Carried.{number_given, number_in, state_behind, state_behind_line, state_to_be}
use Rattle.pf_plain_script.proofs.Behind.{answered_behind, answered_reply}
use Rattle.pf_plain_script.proofs.carried.Carried.number.Goals as goal

pub returns-clause-number : goal.returns-clause-number
returns-clause-number c =
    let edit = command.Edit c.in-Edit.change c.in-Edit.strict in
    let before : state_to_be c.take_lines.new.desk ≡ c.args.self.now =
    c.in_ok-take_lines.ensures
    ∙ ap (λ ls. state_behind (state_to_be c.self.inside.desk) (flat_map commands_of ls)) c.deref.ensures.value ∙ c.self.view_is in
    c.number_in.ensures
    ∙ ap number_in (answered_reply edit c.take_lines.new.desk c.answer.new.self c.in_ok-reply.reply c.in_ok-reply.ensures)
    ∙ ap (λ st. number_in (reply_to st edit)) before
    ∙ ap (number_given c.args.self.now) (sym c.in-Edit.is)

pub returns-clause-state : goal.returns-clause-state
returns-clause-state c =
    let edit = command.Edit c.in-Edit.change c.in-Edit.strict in
    let before : state_to_be c.take_lines.new.desk ≡ c.args.self.now =
    c.in_ok-take_lines.ensures
    ∙ ap (λ ls. state_behind (state_to_be c.self.inside.desk) (flat_map commands_of ls)) c.deref.ensures.value ∙ c.self.view_is in
    ap (λ ls. state_behind (state_to_be c.answer.new.self) (flat_map commands_of ls)) c.clear.ensures.items
    ∙ answered_behind edit c.take_lines.new.desk c.answer.new.self c.in_ok-reply.reply c.in_ok-reply.ensures
    ∙ ap (λ st. state_behind st (edit ∷ [])) before
    ∙ ap (state_behind_line c.args.self.now) (sym c.in-Edit.is)
