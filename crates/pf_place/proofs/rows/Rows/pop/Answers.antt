use Rattle.std.proofs.Common.{◌++◌, ap, sym, ◌∙◌, arith}
use Rattle.pf_place.specs.Blocks.{all_rows_of}
use Rattle.pf_place.specs.RunRows.{but_last}
use Rattle.pf_place.proofs.Filed.{but_last_behind_full}
use Rattle.pf_place.proofs.rows.Rows.pop.Goals as goal

pub returns-else-len-eq0-2 : goal.returns-else-len-eq0-2
returns-else-len-eq0-2 c =
    let inside = c.self.inside in
    let full = inside.full in
    ap (λ rows. all_rows_of full ++ rows) c.pop.ensures.rows
    ∙ sym (but_last_behind_full (all_rows_of full) inside.last.rows (omega (arith, c.len.ensures)))
    ∙ ap but_last c.self.view_is
