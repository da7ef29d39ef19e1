use denote.Param.Send.{sendable, param_sync}
use Rattle.std.proofs.Crossing.{crosses}
use Rattle.shared_load.proofs.RatesLemmas.Crossing.{plain_desk_send}
use Rattle.shared_load.proofs.rates.plain.use_plain.Goals as goal

pub work_at_once-requires-sync-D : goal.work_at_once-requires-sync-D
work_at_once-requires-sync-D g c κs within = search (param_sync, sendable, crosses, plain_desk_send) depth 20
