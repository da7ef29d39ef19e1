use Rattle.std.proofs.Common.{◌≡◌, ◌+◌, ◌*◌, ◌<◌, [], ◌∷◌, ◌++◌, length, take, refl, sym, ap, ◌∙◌, arith, append_assoc}
use Rattle.std.specs.FinSet as set
use Rattle.std.specs.Prelude.{sum_by}
use Rattle.std.proofs.lemmas.List.{append-nil}
use Rattle.pf_order.proofs.Comparing.{compares_none, compares_within, compares_both}
use Rattle.pf_heap.specs.Keys.{list_of}
use Rattle.pf_heap.specs.Digits.{digits}
use Rattle.pf_heap.proofs.Digits.{digits-mono}
use Rattle.pf_calendar.specs.Invariant.{names_of}
use Rattle.pf_calendar.proofs.Merging.{CanMergeAll, merges_none, merges_step, shrinks_step, names_more}
use Rattle.pf_calendar.proofs.merge.merge_all.Goals as goal

pub loop-entry-init : goal.loop-entry-init
loop-entry-init c = record {
  merges = merges_none c.args.heaps.now;
  aside = sym (append-nil c.args.aside.now.items);
  long = omega arith;
  capacity = refl;
  shrinks = omega arith;
  counted = compares_within (omega arith) (compares_none _);
}

pub loop-entry-preserved : goal.loop-entry-preserved
loop-entry-preserved c =
    let old = c.args.heaps.now in
    let es = c.args.entries.now in
    let i = c.loop-entry.invariant in
    let k = c.loop-entry.entry-index in
    let e = c.entry-item.result in
    let lt : k < length es = omega (arith, c.loop-entry-test.true) in
    let can : CanMergeAll old es = (c.requires.heaps, c.requires.once) in
    let total = set.len old.main + sum_by (λ d. set.len (list_of old d.heap)) es in
    let s = shrinks_step old c.loop-entry.heaps c.meld_main.new.self es k e total can i.merges lt c.entry-item.is c.meld_main.ensures.melded i.shrinks in
    let more : (k + 1) * digits total ≡ k * digits total + digits total = omega arith in
    record {
      merges = merges_step old c.loop-entry.heaps c.meld_main.new.self es k e can i.merges lt c.entry-item.is c.meld_main.ensures.melded;
      aside = c.push_reserved.ensures.items ∙ ap (λ l. l ++ e.heap ∷ []) i.aside ∙ append_assoc c.args.aside.now.items (names_of (take k es)) (e.heap ∷ [])
          ∙ ap (λ l. c.args.aside.now.items ++ l) (sym (names_more es k e lt c.entry-item.is));
      long = omega (arith, i.long, c.push_reserved.ensures.len);
      capacity = c.push_reserved.ensures.capacity ∙ i.capacity;
      shrinks = s.1;
      counted = compares_within (omega (arith, digits-mono _ total s.0, more)) (compares_both i.counted c.meld_main.ensures.comparisons);
    }
