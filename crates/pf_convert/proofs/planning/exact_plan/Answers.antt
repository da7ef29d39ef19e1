use Rattle.std.proofs.Common.{refl}
use Rattle.pf_convert.proofs.Planned.{exact_is}
use Rattle.pf_convert.proofs.planning.exact_plan.Goals as goal

pub returns : goal.returns
returns c = exact_is c.args.tasks.now _ refl c.in-Some.ensures c.exact_load.ensures c.in_ok-from_slice.ensures.items c.requires.slotted
