use Rattle.std.proofs.Common.{◌∙◌, ◌<◌, ap₂, sym, [], get_or, length, min, arith}
use Rattle.std.proofs.lemmas.Option.{slice_get-get_or}
use Rattle.std.proofs.Math.Nat.{min-le_left, min-le_right}
use Rattle.pf_diff.proofs.Counted.{slot_all, slot_counted}
use Rattle.pf_diff.proofs.cells_changed.cells_changed.Goals as goal

pub loop-t-preserved : goal.loop-t-preserved
loop-t-preserved c =
    let xs = c.args.before.now.rows in
    let ys = c.args.after.now.rows in
    let t = c.loop-t.t in
    let count = c.min-count.ensures ∙ ap₂ min c.row_count.ensures c.row_count-2.ensures in
    let first : t < length xs = omega (arith, count, min-le_left (length xs) (length ys)) in
    let second : t < length ys = omega (arith, count, min-le_right (length xs) (length ys)) in
    record {
      whole = slot_counted t c.loop-t.cells c.from-cells.result xs ys (get_or xs t []) (get_or ys t []) first second
          (sym (slice_get-get_or xs t [] first)) (sym (slice_get-get_or ys t [] second))
          (c.from-cells.ensures ∙ c.cells_at.ensures.value) c.loop-t.invariant.whole;
      few = omega (arith, c.loop-t.invariant.few, c.from-cells.ensures, c.cells_at.ensures.bound);
    }

pub returns : goal.returns
returns c =
    let xs = c.args.before.now.rows in
    let ys = c.args.after.now.rows in
    slot_all c.loop-t.t c.loop-t.cells xs ys
    (omega (arith, c.min-count.ensures ∙ ap₂ min c.row_count.ensures c.row_count-2.ensures))
    c.loop-t.invariant.whole
