use Rattle.std.proofs.Common.{arith}
use Rattle.pf_tally.proofs.Own.{no_diaries, diary_none, diary_some, all_diaries}
use Rattle.pf_tally.proofs.diary.diaries_by_task.Goals as goal
use Rattle.pf_tally.proofs.diary.diaries_by_task.Goals.{in-Some+in_ok-note, in_default}

pub loop-numbered-init : goal.loop-numbered-init
loop-numbered-init c = no_diaries c.args.events.now _ c.new-table.ensures

pub loop-numbered-preserved : goal.loop-numbered-preserved
loop-numbered-preserved c = elim c.match-task.branch [
  | in-Some+in_ok-note w ↦ rw w.table-is (diary_some c.args.events.now _ _ c.loop-numbered.numbered-index _ _ (omega arith) w.in-Some.ensures w.in_ok-note.ensures c.loop-numbered.invariant)
  | in_default w ↦ rw w.table-is (diary_none c.args.events.now _ c.loop-numbered.numbered-index _ (omega arith) w.in_default.ensures c.loop-numbered.invariant)
]

pub returns : goal.returns
returns c = all_diaries c.args.events.now _ c.loop-numbered.numbered-index (omega arith) c.loop-numbered.invariant
