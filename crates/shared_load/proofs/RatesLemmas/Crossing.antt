-- A plain desk crosses threads. The check sees that by itself of most types, but not of a timeline, which keeps a `Snapshot` for clauses.
use denote.Param.Send.{IsSend, sendable}
use Rattle.std.proofs.Crossing.{crosses}
use Rattle.pf_order.proofs.meter.Meter.TheSendSync as meter
use Rattle.pf_scenario.proofs.scenario.Scenario.TheSendSync as scenario
use Rattle.pf_collections.proofs.list.shared_vec.SharedVec.TheSendSync as shared_vec
use Rattle.pf_place.proofs.rows.Rows.TheSendSync as rows
use Rattle.pf_run.proofs.denied.Denied.TheSendSync as denied
use Rattle.pf_engine.proofs.engine.Engine.TheSendSync as engine
use Rattle.pf_timeline.proofs.checkpoints.Checkpoints.TheSendSync as checkpoints
use Rattle.pf_timeline.proofs.near_checkpoints.NearCheckpoints.TheSendSync as near_checkpoints
use Rattle.pf_timeline.specs.contracts.timeline.Timeline as Timeline
use Rattle.pf_desk.proofs.history.History.TheSendSync as history
use Rattle.pf_desk.specs.contracts.desk.Desk as Desk
use Rattle.shared_load.specs.contracts.rates.plain.PlainDesk as PlainDesk

timeline_send : IsSend Timeline.the_row
timeline_send = search (sendable, crosses, rows.the_send, denied.the_send, denied.the_sync, shared_vec.the_send, engine.the_send, checkpoints.the_send, near_checkpoints.the_send) depth 20

desk_send : IsSend Desk.the_row
desk_send = search (sendable, crosses, scenario.the_send, timeline_send, history.the_send) depth 20

pub plain_desk_send : IsSend PlainDesk.the_row
plain_desk_send = search (sendable, crosses, desk_send, meter.the_send) depth 20
