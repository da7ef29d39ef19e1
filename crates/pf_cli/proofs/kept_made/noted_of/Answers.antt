use Rattle.std.proofs.Common.{◌∙◌, sym}
use Rattle.pf_arguments.specs.Asked.{desk_named, name_of}
use Rattle.pf_cli.specs.Desks.{manner_of}
use Rattle.pf_cli.proofs.Journals.{script_refused, some_of}
use Rattle.pf_cli.proofs.kept_made.noted_of.Goals as goal

pub returns-in-Script : goal.returns-in-Script
returns-in-Script c =
    let begun = rw c.in-Script.is at c.requires.unopened in
    script_refused (manner_of (desk_named c.args.words.now)) (name_of c.args.words.now.script) c.args.script _ begun.0 c.args.path.now c.in-Script.fault
    c.fault_note-in-Script.result (c.requires.named ∙ sym (some_of _ c.args.words.now.script)) begun.1
    (rw (c.told_name.ensures, c.unwrap_or.ensures) at c.fault_note-in-Script.ensures)
