use Rattle.std.proofs.Common.{◌∙◌, ◌++◌, ◌∷◌, [], ap₂, sym, arith}
use Rattle.std.proofs.lemmas.List.FromFn.{map-range_with_len_more}
use Rattle.pf_courses.specs.Built.{count_by_denials}
use Rattle.pf_courses.proofs.InUse.{count_first, count_more}
use Rattle.pf_courses.proofs.counts.counts_in_use.Goals as goal

pub loop-t-init : goal.loop-t-init
loop-t-init c = record {
  count = c.planned-count.ensures ∙ count_first c.args.scenario.now.settings.processors c.args.scenario.now c.args.denials.now;
  counts = c.new-counts.ensures.items;
}

pub loop-t-preserved : goal.loop-t-preserved
loop-t-preserved c =
    let s = c.args.scenario.now in
    let denials = c.args.denials.now in
    let t = c.loop-t.t in
    let next = count_more s.settings.processors s denials _ _ t _ _ _ c.in_ok-denied.ensures c.deref-in-loop-t.ensures.value (c.deref.ensures.value ∙ c.in_ok-events.ensures.value)
    c.count_behind-count.ensures c.loop-t.invariant.count in
    record {
      count = next;
      counts = c.in_ok-push.ensures.items ∙ ap₂ (λ xs x. xs ++ x ∷ []) c.loop-t.invariant.counts next
          ∙ sym (map-range_with_len_more (count_by_denials s denials) 0 t t (omega arith));
    }
