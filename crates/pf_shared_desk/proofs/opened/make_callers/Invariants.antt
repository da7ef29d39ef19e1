use Rattle.std.proofs.Common.{◌≡◌, All, map}
use Rattle.std.specs.Arc.{arc_value}
use Rattle.std.specs.Vec.Iter.{into_iter_items}
use Rattle.pf_shared_desk.specs.Opening.{caller_at}
use Rattle.pf_shared_desk.proofs.opened.make_callers.Given as goal

-- a caller was made of each pass so far, and the passes left are of the board
abbrev pub invariant-loop-pass : goal.invariant-loop-pass
invariant-loop-pass l = record {
  made : l.callers.items ≡ map (caller_at (arc_value l.common)) l.yielded;
  left : All (λ p. p.board ≡ (arc_value l.common).id) (into_iter_items l.pass-iterator);
}
