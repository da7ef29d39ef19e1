use Rattle.pf_shared_desk.proofs.Founding.{new_are_of}
use Rattle.pf_shared_desk.proofs.opened.Opened.over.Goals as goal

pub make_callers-requires : goal.make_callers-requires
make_callers-requires c =
    rw (c.in_ok-made.ensures.passes, c.in_ok-common.ensures.ok) (new_are_of c.in_ok-made.made.id c.args.settings c.args.callers)
