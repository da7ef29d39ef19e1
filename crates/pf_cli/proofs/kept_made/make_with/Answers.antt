use Rattle.std.proofs.Common.{string_bytes, subst}
use Rattle.std.specs.Option.{option_map}
use Rattle.pf_journal_session.specs.Journaled.{Begins, DoesNotBegin}
use Rattle.pf_journal.specs.Kept.{found_bytes, found_disk}
use Rattle.pf_arguments.specs.Asked.{desk_named}
use Rattle.pf_cli.specs.Desks.{manner_of}
use Rattle.pf_cli.proofs.Journals.{begins_noted}
use Rattle.pf_cli.proofs.kept_made.make_with.Goals as goal

pub returns-in-Ok-clause-made : goal.returns-in-Ok-clause-made
returns-in-Ok-clause-made g c =
    begins_noted _ _ _ _ (manner_of (desk_named c.args.words.now)) c.args.words.now.script string_bytes c.args.script (λ s. s.now) c.args.path.now c.args.found
    c.in-Ok.opened.recorder c.in-Ok.opened.sizes (λ m. m.recorder) (λ m. m.note.items) c.with_note.result c.requires.found c.requires.named
    (subst (λ manner. Begins g.D.Disk.seen g.D.Disk.may_leave g.D.Disk.is_clean manner (option_map (λ s. s.now) c.args.script) (found_disk c.args.found) (found_bytes c.args.found)
    c.in-Ok.opened.recorder c.in-Ok.opened.sizes) c.manner_of-manner.ensures c.in-Ok.ensures.begins)
    c.with_note.ensures.made

pub noted_of-requires-clause-unopened : goal.noted_of-requires-clause-unopened
noted_of-requires-clause-unopened g c = (
  found_bytes c.args.found,
  subst (λ manner. DoesNotBegin manner (option_map (λ s. s.now) c.args.script) (found_bytes c.args.found) c.in-Err.unopened) c.manner_of-manner.ensures
      c.in-Err.ensures.unopened,
)
