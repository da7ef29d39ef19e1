use Rattle.std.proofs.Common.{arith}
use Rattle.pf_trace.proofs.Chapters.{place_added}
use Rattle.pf_trace.proofs.book.fill.Goals as goal

pub loop-at-preserved : goal.loop-at-preserved
loop-at-preserved g c = record {
  text = place_added _ _ c.loop-at.at c.loop-at.text.items _ _ (omega arith) c.in_ok-push_place.ensures c.loop-at.invariant.text;
  within = omega arith;
}
