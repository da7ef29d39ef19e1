use denote.Param.Send.{sendable}
use Rattle.std.proofs.Crossing.{crosses}
use Rattle.pf_board.proofs.pass.Pass.TheSendSync as pass
use Rattle.pf_share.proofs.Crossing.{shared_sync}
use Rattle.thread_tests.proofs.takers.dispatch_both.Goals as goal

pub join-first-requires-send-F : goal.join-first-requires-send-F
join-first-requires-send-F g c = search (sendable, crosses, shared_sync, pass.the_send) depth 20
