-- A shared desk may be lent to any thread. What crosses threads the check sees by itself of most types, from their fields, but not of a timeline, which
-- keeps a `Snapshot` for clauses: so the types from there to the shared desk are shown here, each by the one before.
use denote.RattleType.{RattleType}
use denote.Param.Send.{IsSend, IsSync, sendable}
use Rattle.std.proofs.Crossing.{crosses}
use Rattle.std.proofs.marker.PhantomData.TheSendSync as phantom
use Rattle.pf_order.proofs.meter.Meter.TheSendSync as meter
use Rattle.pf_scenario.proofs.scenario.Scenario.TheSendSync as scenario
use Rattle.pf_collections.proofs.list.shared_vec.SharedVec.TheSendSync as shared_vec
use Rattle.pf_place.proofs.rows.Rows.TheSendSync as rows
use Rattle.pf_run.proofs.denied.Denied.TheSendSync as denied
use Rattle.pf_engine.proofs.engine.Engine.TheSendSync as engine
use Rattle.pf_timeline.proofs.checkpoints.Checkpoints.TheSendSync as checkpoints
use Rattle.pf_timeline.proofs.near_checkpoints.NearCheckpoints.TheSendSync as near_checkpoints
use Rattle.pf_timeline.specs.contracts.timeline.Timeline as Timeline
use Rattle.pf_desk.proofs.history.History.TheSendSync as history
use Rattle.pf_desk.specs.contracts.desk.Desk as Desk
use Rattle.pf_board.proofs.board.Board.TheSendSync as board
use Rattle.pf_board.proofs.keeper.Keeper.TheSendSync as keeper
use Rattle.pf_share.specs.declared.naming.Naming.{Ghosts}
use Rattle.pf_share.proofs.press.Press.TheSendSync as press
use Rattle.pf_share.proofs.stamp.Stamp.TheSendSync as stamp
use Rattle.pf_share.proofs.publisher.Publisher.TheSendSync as publisher
use Rattle.pf_share.specs.contracts.shown_desk.ShownDesk as ShownDesk
use Rattle.pf_share.specs.contracts.locked.Locked as Locked
use Rattle.pf_share.specs.contracts.shared.Shared as Shared

timeline_send : IsSend Timeline.the_row
timeline_send = search (sendable, crosses, rows.the_send, denied.the_send, denied.the_sync, shared_vec.the_send, engine.the_send, checkpoints.the_send, near_checkpoints.the_send) depth 20

desk_send : IsSend Desk.the_row
desk_send = search (sendable, crosses, scenario.the_send, timeline_send, history.the_send) depth 20

module _ (N H : RattleType) (g : Ghosts N.Denot) where
  shown_desk_send : IsSend H → IsSend (ShownDesk.the_row N H g)
  shown_desk_send h = search (sendable, crosses, desk_send, meter.the_send, keeper.the_send, press.the_send, stamp.the_send, publisher.the_send, phantom.the_send) depth 20

  locked_send : IsSend H → IsSend (Locked.the_row N H g)
  locked_send h = search (sendable, shown_desk_send) depth 20

  pub shared_sync : IsSend H → IsSync (Shared.the_row N (Locked.the_row N H g) g)
  shared_sync h = search (sendable, crosses, board.the_sync, locked_send) depth 20
