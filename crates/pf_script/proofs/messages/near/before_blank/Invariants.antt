use Rattle.std.proofs.Common.{◌≡◌, ◌≤◌, ◌-◌, ◌++◌, drop, length, take}
use Rattle.pf_script.specs.Messages.WordHints.{before_blank}
use Rattle.pf_script.proofs.messages.near.before_blank.Given as goal

-- the bytes so far are before it
abbrev pub invariant-loop-end : goal.invariant-loop-end
invariant-loop-end l = record {
  before : take l.end l.word ++ before_blank (drop l.end l.word) ≡ before_blank l.word;
  within : l.end ≤ length l.word;
}

abbrev pub decreases-loop-end : goal.decreases-loop-end
decreases-loop-end l = length l.word - l.end
