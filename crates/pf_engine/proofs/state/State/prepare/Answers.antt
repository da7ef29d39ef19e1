use Rattle.std.proofs.Common.{length, ap, arith}
use Rattle.pf_engine.specs.Keeping.{Keeping}
use Rattle.pf_engine.proofs.Bounding.{at_taking, few_at}
use Rattle.pf_engine.proofs.Advancing.{all_join_below}
use Rattle.pf_engine.proofs.state.State.prepare.Goals as goal

pub reserve_joins-requires : goal.reserve_joins-requires
reserve_joins-requires c = all_join_below c.args.self.now.kept c.args.events.now (at_taking _ _ c.requires)

pub reserve_room-requires : goal.reserve_room-requires
reserve_room-requires c = omega (
  arith,
  few_at c.args.self.now.kept c.args.events.now (at_taking _ _ c.requires),
  ap (λ (s : Keeping). length s.kept.tasks) c.self.view_is,
  c.self.invariant.agenda.count,
)

pub reserve_joins-requires-2 : goal.reserve_joins-requires-2
reserve_joins-requires-2 c = all_join_below c.args.self.now.kept c.args.events.now (at_taking _ _ c.requires)
