use Rattle.std.proofs.Common.{◌≡◌, ◌≤◌, ◌-◌, ◌++◌, drop, length, take}
use Rattle.pf_script.specs.Messages.Forms.{before_mark}
use Rattle.pf_script.proofs.messages.form.before_mark.Given as goal

-- the bytes so far are before it
abbrev pub invariant-loop-end : goal.invariant-loop-end
invariant-loop-end l = record {
  before : take l.end l.form ++ before_mark (drop l.end l.form) ≡ before_mark l.form;
  within : l.end ≤ length l.form;
}

abbrev pub decreases-loop-end : goal.decreases-loop-end
decreases-loop-end l = length l.form - l.end
