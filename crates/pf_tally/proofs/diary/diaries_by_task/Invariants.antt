use Rattle.std.proofs.Common.{take}
use Rattle.pf_tally.specs.Own.{AreDiaries}
use Rattle.pf_tally.proofs.diary.diaries_by_task.Given as goal

abbrev pub invariant-loop-numbered : goal.invariant-loop-numbered
invariant-loop-numbered l = AreDiaries (take l.numbered-index l.events) l.table
