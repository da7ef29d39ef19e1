use Rattle.std.proofs.Common.{◌≡◌, drop}
use Rattle.pf_convert.specs.Fit.Lateness.{latest_from}
use Rattle.pf_convert.specs.Fit.Shown.{IsShownTask}
use Rattle.pf_convert.proofs.fit.lateness.latest_from.Given as goal

abbrev pub invariant-loop-next : goal.invariant-loop-next
invariant-loop-next l = IsShownTask l.latest × (latest_from l.shown l.latest (drop l.next-index l.others) ≡ latest_from l.shown l.fn.task l.others)
