use denote.Param.Send.{sendable, param_sync}
use Rattle.std.proofs.Crossing.{crosses}
use Rattle.pf_share.proofs.Crossing.{shared_sync}
use Rattle.shared_load.proofs.rates.shared.use_shared.Goals as goal

pub work_at_once-requires-sync-D : goal.work_at_once-requires-sync-D
work_at_once-requires-sync-D g c κs within = search (param_sync, sendable, crosses, shared_sync) depth 20
