use Rattle.std.proofs.Common.{◌∙◌, arith}
use Rattle.pf_text.proofs.ColumnsLemmas.Blanks.{blank_more, padded_end}
use Rattle.pf_text.proofs.columns.columns.push_padded.Goals as goal

pub loop-preserved : goal.loop-preserved
loop-preserved c =
    c.in_ok-push.ensures.items ∙ blank_more c.extend_from_slice.new.self.items c.loop.line.items c.loop.counter c.loop.invariant

pub returns : goal.returns
returns c =
    padded_end c.args.line.now.items c.args.cell.now c.extend_from_slice.new.self.items c.loop.line.items c.extend_from_slice-2.new.self.items
    c.args.width c.loop.counter (omega (arith, c.saturating_sub-end.ensures, c.loop.auto.counter-end, c.loop-test.false))
    c.in_ok-extend_from_slice.ensures.items c.loop.invariant c.in_ok-extend_from_slice-2.ensures.items
