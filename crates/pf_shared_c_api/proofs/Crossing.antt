-- What a handle has may go to another thread: a caller, a reader and a snapshot, over a desk that threads share. What crosses threads the check sees by itself of
-- most types, from their fields, but not of a timeline, which keeps a `Snapshot` for clauses.
use denote.Param.Send.{IsSend, IsSync, sendable}
use Rattle.std.proofs.Crossing.{crosses}
use Rattle.pf_order.proofs.meter.Meter.TheSendSync as meter
use Rattle.pf_scenario.proofs.scenario.Scenario.TheSendSync as scenario
use Rattle.pf_collections.proofs.list.shared_vec.SharedVec.TheSendSync as shared_vec
use Rattle.pf_place.proofs.rows.Rows.TheSendSync as rows
use Rattle.pf_run.proofs.denied.Denied.TheSendSync as denied
use Rattle.pf_engine.proofs.engine.Engine.TheSendSync as engine
use Rattle.pf_timeline.proofs.checkpoints.Checkpoints.TheSendSync as checkpoints
use Rattle.pf_timeline.proofs.near_checkpoints.NearCheckpoints.TheSendSync as near_checkpoints
use Rattle.pf_timeline.specs.contracts.timeline.Timeline as Timeline
use Rattle.pf_desk.proofs.history.History.TheSendSync as history
use Rattle.pf_desk.proofs.snapshot.Snapshot.TheSendSync as snapshot
use Rattle.pf_desk.specs.contracts.desk.Desk as Desk
use Rattle.pf_board.proofs.board.Board.TheSendSync as board
use Rattle.pf_board.proofs.keeper.Keeper.TheSendSync as keeper
use Rattle.pf_board.proofs.pass.Pass.TheSendSync as pass
use Rattle.pf_shelf.proofs.room.Room.TheSendSync as room
use Rattle.pf_shelf.proofs.shelf.Shelf.TheSendSync as shelf
use Rattle.pf_shared_desk.specs.contracts.shown.Shown as Shown
use Rattle.pf_shared_desk.specs.contracts.desk_core.DeskCore as DeskCore
use Rattle.pf_shared_desk.specs.contracts.common.Common as Common
use Rattle.pf_shared_desk.specs.contracts.caller.Caller as Caller
use Rattle.pf_shared_desk.specs.contracts.reader.Reader as Reader
use Rattle.pf_shared_c_api.specs.contracts.content.Content as Content

timeline_send : IsSend Timeline.the_row
timeline_send = search (sendable, crosses, rows.the_send, denied.the_send, denied.the_sync, shared_vec.the_send, engine.the_send, checkpoints.the_send, near_checkpoints.the_send) depth 20

desk_send : IsSend Desk.the_row
desk_send = search (sendable, crosses, scenario.the_send, timeline_send, history.the_send) depth 20

core_send : IsSend DeskCore.the_row
core_send = search (sendable, crosses, desk_send, meter.the_send, keeper.the_send) depth 20

shown_send : IsSend Shown.the_row
shown_send = search (sendable, crosses, snapshot.the_send, snapshot.the_sync) depth 20

shown_sync : IsSync Shown.the_row
shown_sync = search (sendable, crosses, snapshot.the_send, snapshot.the_sync) depth 20

common_send : IsSend Common.the_row
common_send = search (sendable, crosses, core_send, shown_send, room.the_send, shelf.the_send, board.the_send) depth 20

common_sync : IsSync Common.the_row
common_sync = search (sendable, crosses, core_send, shown_send, shown_sync, room.the_sync, shelf.the_sync, board.the_sync) depth 20

caller_send : IsSend Caller.the_row
caller_send = search (sendable, crosses, common_send, common_sync, pass.the_send) depth 20

reader_send : IsSend Reader.the_row
reader_send = search (sendable, crosses, common_send, common_sync) depth 20

pub content_send : IsSend Content.the_row
content_send = search (sendable, crosses, caller_send, reader_send, snapshot.the_send, snapshot.the_sync) depth 20
