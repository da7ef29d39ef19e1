use Rattle.std.proofs.Common.{◌≡◌, ◌≤◌, ◌-◌, ◌++◌, drop, length, take}
use Rattle.pf_arguments.specs.Hints.Words.{before_equals}
use Rattle.pf_arguments.proofs.hints.words.before_equals.Given as goal

-- the bytes so far are before it
abbrev pub invariant-loop-end : goal.invariant-loop-end
invariant-loop-end l = record {
  before : take l.end l.word ++ before_equals (drop l.end l.word) ≡ before_equals l.word;
  within : l.end ≤ length l.word;
}

abbrev pub decreases-loop-end : goal.decreases-loop-end
decreases-loop-end l = length l.word - l.end
