use Rattle.std.proofs.Common.{take}
use Rattle.pf_picture.specs.Denials.{AreDenialsByTask}
use Rattle.pf_picture.proofs.denials.denials_by_task.Given as goal

abbrev pub invariant-loop-denied : goal.invariant-loop-denied
invariant-loop-denied l = AreDenialsByTask l.events (take l.denied-index l.denials) l.table
