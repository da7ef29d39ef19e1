use Rattle.std.proofs.Common.{◌≡◌, ◌≤◌, ◌-◌, drop, length}
use Rattle.pf_script.specs.Messages.Forms.{after_commas}
use Rattle.pf_script.proofs.messages.form.after_commas.Given as goal

-- what is left is after the commas that are left
abbrev pub invariant-loop-at : goal.invariant-loop-at
invariant-loop-at l = record {
  left : after_commas l.left (drop l.at l.form) ≡ after_commas l.commas l.form;
  within : l.at ≤ length l.form;
}

abbrev pub decreases-loop-at : goal.decreases-loop-at
decreases-loop-at l = length l.form - l.at
