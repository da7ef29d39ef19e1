use Rattle.std.proofs.Common.{◌≡◌, ◌-◌, Some, [], length, ap, sym, ◌∙◌, arith}
use Rattle.pf_lemmas.proofs.Lists.{none_long}
use Rattle.pf_place.specs.Blocks.{all_rows_of}
use Rattle.pf_place.specs.Lent.{lent_row}
use Rattle.pf_place.specs.RunRows.{last_row}
use Rattle.pf_place.proofs.Filed.{last_of_full, none_within, some_within}
use Rattle.pf_place.proofs.rows.last_row.Goals as goal

pub returns-in-None : goal.returns-in-None
returns-in-None c =
    let full = c.args.full.now in
    let none = none_within full (length full - 1) c.in-None.ensures in
    c.of.ensures ∙ sym (ap (λ blocks. last_row [] (all_rows_of blocks)) (none_long full (omega arith)))

pub returns-in-Some-row : goal.returns-in-Some-row
returns-in-Some-row c =
    let full = c.args.full.now in
    let rows = c.in-Some.block.now in
    let last = last_of_full full rows c.requires (omega (arith, some_within full (length full - 1) rows c.in-Some.ensures)) c.in-Some.ensures in
    let found : Some (lent_row c.in-Some-row.row) ≡ Some (last_row [] (all_rows_of full)) = c.in-Some-row.ensures ∙ last in
    cc
