use Rattle.std.proofs.Common.{◌-◌, ◌<◌, ◌≤◌}
use Rattle.pf_convert.specs.Margins.Switches.{HasRoomForSwitch}
use Rattle.pf_convert.proofs.MarginsLemmas.Switches.{IsBetween}
use Rattle.pf_convert.proofs.margins.switches.most_switch.Given as goal

abbrev pub invariant-loop-above : goal.invariant-loop-above
invariant-loop-above l = IsBetween l.processors l.quantum l.times l.plan l.least l.above

abbrev pub decreases-loop-above : goal.decreases-loop-above
decreases-loop-above l = l.above - l.least
