use Rattle.std.proofs.Common.{refl}
use Rattle.pf_arguments.specs.Asked.{desk_named}
use Rattle.pf_cli.proofs.Sittings.{desk_not_held}
use Rattle.pf_cli.proofs.desk.hold_alone.Goals as goal

pub returns-in-Err : goal.returns-in-Err
returns-in-Err g c =
    desk_not_held (desk_named c.args.words.now) _ _ c.is_closed-closed.result c.end.result _ _ c.in-Err.field-0.fault c.in-Err.field-0.notes
    c.in-Err.ensures.unbegun c.is_closed-closed.ensures c.end.ensures.status c.end.ensures.told refl refl refl refl
