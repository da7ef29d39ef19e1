use denote.Param.Send.{sendable}
use Rattle.std.proofs.Crossing.{crosses}
use Rattle.pf_board.proofs.pass.Pass.TheSendSync as pass
use Rattle.pf_share.proofs.Crossing.{shared_sync}
use Rattle.shared_first.proofs.team.work_at_once.Goals as goal

pub join-planners-requires-send-F : goal.join-planners-requires-send-F
join-planners-requires-send-F g c = search (sendable, crosses, shared_sync, pass.the_send) depth 20
