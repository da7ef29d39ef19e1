use Rattle.std.proofs.Common.{◌∙◌, ◌<◌, ◌++◌, length, ap, arith}
use Rattle.std.proofs.lemmas.List.FromFn.{length-map-range_with_len}
use Rattle.pf_place.specs.Lent.{lent_row}
use Rattle.pf_courses.specs.Listing.{count_in}
use Rattle.pf_picture.specs.Processors.{processor_name, slot_text}
use Rattle.pf_picture.specs.Scale.{processor_top}
use Rattle.pf_picture.proofs.Parts.{slot_is}
use Rattle.pf_picture.proofs.Steps.{steps_next}
use Rattle.pf_picture.proofs.processors.processor_text.Goals as goal

pub count_at-count-requires : goal.count_at-count-requires
count_at-count-requires c =
    let seen = c.args.snapshot.now in
    omega (arith, ap length c.requires.counts, length-map-range_with_len (count_in seen.state.plan seen.state.now) 0 (length seen.rows), c.requires.within, c.to-t-end.ensures.value, c.loop-t-test.true)

pub loop-t-preserved : goal.loop-t-preserved
loop-t-preserved c =
    let seen = c.args.snapshot.now in
    let s = c.args.scale in
    let drawings = c.args.drawings.now in
    let p = c.args.p in
    let t = c.loop-t.t in
    let within : t < length seen.rows = omega (arith, c.requires.within, c.to-t-end.ensures.value, c.loop-t-test.true) in
    let is = slot_is seen s drawings c.args.counts.now p t c.count_at-count.result 0 (lent_row c.row_at-row.result) within c.requires.counts c.count_at-count.ensures c.row_at-row.ensures.row in
    record {
      text = steps_next (slot_text seen s drawings p) s.from t (processor_name (processor_top p) p) c.loop-t.text.items _ c.loop-t.invariant.from
          (c.in_ok-push_cell.ensures ∙ ap (λ x. c.loop-t.text.items ++ x) is) c.loop-t.invariant.text;
      from = omega (arith, c.loop-t.invariant.from);
      short = omega (arith, c.to-t-end.ensures.value, c.loop-t-test.true);
    }
