-- A desk may go to another thread, with its titles. What crosses threads the check sees by itself of most types, from their fields, but not of a timeline, which
-- keeps a `Snapshot` for clauses.
use denote.Param.Send.{IsSend, sendable, recorded_send, struct_send}
use denote.Struct.Declared.{shape}
use Rattle.std.proofs.Crossing.{crosses}
use Rattle.pf_scenario.proofs.scenario.Scenario.TheSendSync as scenario
use Rattle.pf_collections.proofs.list.shared_vec.SharedVec.TheSendSync as shared_vec
use Rattle.pf_place.proofs.rows.Rows.TheSendSync as rows
use Rattle.pf_run.proofs.denied.Denied.TheSendSync as denied
use Rattle.pf_engine.proofs.engine.Engine.TheSendSync as engine
use Rattle.pf_timeline.proofs.checkpoints.Checkpoints.TheSendSync as checkpoints
use Rattle.pf_timeline.proofs.near_checkpoints.NearCheckpoints.TheSendSync as near_checkpoints
use Rattle.pf_timeline.specs.contracts.timeline.Timeline as Timeline
use Rattle.pf_desk.proofs.history.History.TheSendSync as history
use Rattle.pf_desk.specs.contracts.desk.Desk as Desk
use Rattle.pf_vocabulary.proofs.names.titles.Titles.TheSendSync as titles
use Rattle.pf_c_api.specs.contracts.held.Held as Held

timeline_send : IsSend Timeline.the_row
timeline_send = search (sendable, crosses, rows.the_send, denied.the_send, denied.the_sync, shared_vec.the_send, engine.the_send, checkpoints.the_send, near_checkpoints.the_send) depth 20

desk_send : IsSend Desk.the_row
desk_send = search (sendable, crosses, scenario.the_send, timeline_send, history.the_send) depth 20

pub held_send : IsSend Held.the_row
held_send =
    recorded_send Held.the_field.row _ _ Held.the_type.to_one (struct_send (shape Held.the_type) (desk_send, (titles.the_field_send, tt)))
