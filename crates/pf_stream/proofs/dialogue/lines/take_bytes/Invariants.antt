use Rattle.std.proofs.Common.{◌≤◌, drop, length}
use Rattle.pf_stream.specs.Dialogue.Lines.{IsFront}
use Rattle.pf_stream.specs.declared.dialogue.lines.TheConstants.{TEXT_HELD}
use Rattle.pf_stream.proofs.DialogueLemmas.Answering.{Midway}
use Rattle.pf_stream.proofs.dialogue.lines.take_bytes.Given as goal

-- the lines of the bytes gone through were answered
abbrev pub invariant-loop-at : goal.invariant-loop-at
invariant-loop-at g l = record {
  midway : Midway g.A.Answers.answers l.fn.answers l.fn.line.items l.fn.bytes l.text.items l.line.items l.answers (drop l.at l.bytes);
  front : IsFront l.line.items;
  short : length l.text.items ≤ TEXT_HELD;
}
