use denote.Param.Send.{sendable}
use Rattle.pf_shared_c_api.proofs.handle.handle_crosses.Goals as goal
use Rattle.pf_shared_c_api.proofs.handle.Handle.TheSendSync.{the_send}

pub crosses-requires-send-T : goal.crosses-requires-send-T
crosses-requires-send-T c κs = search (sendable, the_send) depth 20
