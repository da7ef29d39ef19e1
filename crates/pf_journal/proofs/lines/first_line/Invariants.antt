use Rattle.std.proofs.Common.{◌≡◌, drop, take, true}
use Rattle.pf_journal.specs.Lines.{is_text}
use Rattle.pf_journal.specs.Texts.{whole_behind, whole_lines}
use Rattle.pf_journal.proofs.lines.first_line.Given as goal

abbrev pub invariant-loop-end : goal.invariant-loop-end
invariant-loop-end l = record {
  same : whole_behind (take l.end l.text) (drop l.end l.text) ≡ whole_lines l.text;
  line : is_text (take l.end l.text) ≡ true;
}
