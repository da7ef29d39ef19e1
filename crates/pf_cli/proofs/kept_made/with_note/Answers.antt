use Rattle.pf_arguments.specs.Asked.{desk_named}
use Rattle.pf_cli.specs.Desks.{manner_of}
use Rattle.pf_cli.proofs.Journals.{untold_sizes}
use Rattle.pf_cli.proofs.kept_made.with_note.Goals as goal

pub returns-in-Err-clause-unmade : goal.returns-in-Err-clause-unmade
returns-in-Err-clause-unmade g c =
    untold_sizes (manner_of (desk_named c.args.words.now)) _ c.args.path.now c.refused.result c.refused.ensures.outcome c.refused.ensures.notes
