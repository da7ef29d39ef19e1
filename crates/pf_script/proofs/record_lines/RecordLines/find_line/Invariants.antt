use Rattle.std.proofs.Common.{◌≡◌, ◌-◌, false, length}
use Rattle.pf_script.specs.Left.{lines_ahead}
use Rattle.pf_script.proofs.record_lines.RecordLines.find_line.Given as goal

-- no record began
abbrev pub invariant-loop-self : goal.invariant-loop-self
invariant-loop-self l = record {
  lines : lines_ahead l.self ≡ lines_ahead l.fn.self;
  going : l.self.ended ≡ false;
  passed : l.self.passed ≡ l.fn.self.passed;
}

abbrev pub decreases-loop-self : goal.decreases-loop-self
decreases-loop-self l = length l.self.bytes.now - l.self.at
