-- The engine is new, and there are no rows and no denials.
use Rattle.std.proofs.Common.{sym, ap, ◌∙◌, arith}
use Rattle.pf_timeline.proofs.Grown.{keeps_at_start, keeps_now, kept_now}
use Rattle.pf_timeline.proofs.Points.{few_none, no_points}
use Rattle.pf_timeline.proofs.Past.{stands_kept, no_past}
use Rattle.pf_timeline.proofs.timeline.Timeline.at_start.Goals as goal

pub invariant_of-result : goal.invariant_of-result
invariant_of-result c =
    let same = ap (λ s. s.settings) (c.of.ensures ∙ c.new-opening.ensures.value) in
    let keeps = keeps_at_start c.of.result.value _ _ _ (rw c.of.ensures c.new-opening.ensures.scenario) (c.in_ok-engine.ensures.fits c.of.result.value same)
    c.new-2.ensures c.new-3.ensures in
    record {
      run = keeps_now _ _ _ _ _ keeps;
      points = rw (kept_now _ _ _ _ _ keeps, c.new-4.ensures) (no_points _ 0 _ c.requires);
      near = rw (kept_now _ _ _ _ _ keeps, c.new-5.ensures) (no_points _ 0 32 (omega arith));
      few = rw (kept_now _ _ _ _ _ keeps, c.new-5.ensures) (few_none 0 0 32);
      from_start = ap (λ p. p.start) c.new-4.ensures;
    }

pub returns-clause-stands : goal.returns-clause-stands
returns-clause-stands c = λ s same scenario.
    let of_settings = ap (λ s. s.settings) (c.of.ensures ∙ c.new-opening.ensures.value) in
    stands_kept s c.of.result.value 0 _ _ _ _ _
    (keeps_at_start s _ _ _ scenario (c.in_ok-engine.ensures.fits s same) c.new-2.ensures c.new-3.ensures)
    (no_past s c.of.result.value (of_settings ∙ sym same))
