use Rattle.std.proofs.Common.{◌≡◌, ◌&&◌, not}
use Rattle.pf_arguments.specs.Asked.{desk_named}
use Rattle.pf_cli.proofs.Journals.{asked_there, holds_with, unasked_elsewhere}
use Rattle.pf_cli.proofs.desk.hold_desk.Goals as goal
use Rattle.pf_cli.proofs.desk.hold_desk.Goals.{then-is_terminal, else-is_terminal}

pub returns-in-Some : goal.returns-in-Some
returns-in-Some g c =
    let asked : c.if-is_terminal.prompts ≡ (c.args.is_terminal && not c.args.words.now.quiet) =
    elim c.if-is_terminal.branch [
      | then-is_terminal w ↦ asked_there _ _ _ w.if-is_terminal.true w.prompts-is
      | else-is_terminal w ↦ unasked_elsewhere _ _ _ w.if-is_terminal.false w.prompts-is
    ] in
    holds_with _ _ _ _ _ c.args.words.now.journal c.in-Some.path c.as_str.result.now (desk_named c.args.words.now) c.if-is_terminal.prompts
    (c.args.is_terminal && not c.args.words.now.quiet) _ c.hold_kept.result _ _ c.in-Some.is c.as_str.ensures.value asked c.hold_kept.ensures
