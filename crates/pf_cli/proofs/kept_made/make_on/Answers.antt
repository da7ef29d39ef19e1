use Rattle.std.proofs.Common.{ap, is_some, refl, Option}
use Rattle.std.specs.Prelude.{String}
use Rattle.std.specs.declared.alloc.Global.{Global}
use Rattle.pf_arguments.specs.Asked.{desk_named, name_of}
use Rattle.pf_cli.specs.Desks.{manner_of}
use Rattle.pf_cli.proofs.Journals.{unread_script}
use Rattle.pf_cli.proofs.kept_made.make_on.Goals as goal

pub returns-in-Err-clause-unmade : goal.returns-in-Err-clause-unmade
returns-in-Err-clause-unmade g c =
    unread_script (manner_of (desk_named c.args.words.now)) (name_of c.args.words.now.script) c.args.path.now c.in-Err.reading c.from-fault.result _
    (ap (λ (file : Option (String Global)). is_some (name_of file)) c.in-Some.is) c.from-fault.ensures refl c.unread_note-notes.ensures
