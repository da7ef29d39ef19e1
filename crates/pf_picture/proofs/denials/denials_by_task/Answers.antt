use Rattle.std.proofs.Common.{arith}
use Rattle.pf_picture.proofs.Owners.{no_denials, denial_none, denial_some, all_denials}
use Rattle.pf_picture.proofs.denials.denials_by_task.Goals as goal
use Rattle.pf_picture.proofs.denials.denials_by_task.Goals.{in-Some+in_ok-note, in_default}

pub loop-denied-init : goal.loop-denied-init
loop-denied-init c = no_denials c.args.events.now c.args.denials.now _ c.new-table.ensures

pub loop-denied-preserved : goal.loop-denied-preserved
loop-denied-preserved c = elim c.match-owner_of.branch [
  | in-Some+in_ok-note w ↦
      rw w.table-is (denial_some c.args.events.now c.args.denials.now _ _ c.loop-denied.denied-index _ _ c.requires (omega arith) w.in-Some.ensures w.in_ok-note.ensures c.loop-denied.invariant)
  | in_default w ↦ rw w.table-is (denial_none c.args.events.now c.args.denials.now _ c.loop-denied.denied-index _ c.requires (omega arith) w.in_default.ensures c.loop-denied.invariant)
]

pub returns : goal.returns
returns c = all_denials c.args.events.now c.args.denials.now _ c.loop-denied.denied-index (omega arith) c.loop-denied.invariant
