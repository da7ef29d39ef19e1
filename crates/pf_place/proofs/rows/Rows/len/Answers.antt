use Rattle.std.proofs.Common.{length, length-append, ap, arith}
use Rattle.pf_place.specs.Blocks.{all_rows_of}
use Rattle.pf_place.proofs.Filed.{length-full}
use Rattle.pf_place.proofs.rows.Rows.len.Goals as goal

pub overflow_mul-result : goal.overflow_mul-result
overflow_mul-result c = omega (arith, c.self.invariant.few)

pub overflow_add-result : goal.overflow_add-result
overflow_add-result c = omega (arith, c.self.invariant.few, c.self.invariant.part)

pub returns : goal.returns
returns c =
    let inside = c.self.inside in
    omega (arith, ap length c.self.view_is, length-append (all_rows_of inside.full) inside.last.rows, length-full inside.full c.self.invariant.whole)
