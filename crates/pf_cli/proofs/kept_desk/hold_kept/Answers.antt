use Rattle.std.proofs.Common.{inl, refl}
use Rattle.pf_arguments.specs.Asked.{desk_named}
use Rattle.pf_cli.proofs.Journals.{kept_not_held}
use Rattle.pf_cli.proofs.kept_desk.hold_kept.Goals as goal

pub returns-in-Err : goal.returns-in-Err
returns-in-Err g c =
    kept_not_held _ _ _ _ _ (desk_named c.args.words.now) _ _ _ c.is_closed-closed.result c.end.result _ _ c.in-Err.noted c.in-Err.ensures.unmade
    c.is_closed-closed.ensures c.end.ensures.status c.end.ensures.told refl refl refl refl

pub returns-in-Ok : goal.returns-in-Ok
returns-in-Ok g c = inl (c.in-Ok.made.recorder, c.in-Ok.made.note.items, c.in-Ok.ensures.made, c.sit_noted-status.ensures)
