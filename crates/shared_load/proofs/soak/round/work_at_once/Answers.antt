use denote.Param.Send.{sendable, param_sync}
use Rattle.std.proofs.Crossing.{crosses}
use Rattle.pf_share.proofs.Crossing.{shared_sync}
use Rattle.shared_load.proofs.soak.round.work_at_once.Goals as goal

pub for_each_mut-requires-sync-F : goal.for_each_mut-requires-sync-F
for_each_mut-requires-sync-F g c κs within = search (param_sync, sendable, crosses, shared_sync) depth 20
