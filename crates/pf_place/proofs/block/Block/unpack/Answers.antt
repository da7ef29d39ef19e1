use Rattle.std.proofs.Common.{◌++◌, ap, ◌∙◌}
use Rattle.pf_place.specs.Blocks.{AreCutAt, all_rows_of, ends_of}
use Rattle.pf_place.proofs.Blocks.{cut_from_cut, rows_from_cut}
use Rattle.pf_place.proofs.block.Block.unpack.Goals as goal

pub invariant_of-self : goal.invariant_of-self
invariant_of-self c =
    let rows = c.args.rows.now in
    let cut : AreCutAt rows c.put_ends.new.ends.items c.put_places.new.places.items = record {
      ends_are = c.put_ends.ensures.items ∙ ap (λ ends. ends ++ ends_of 0 rows) c.clear-2.ensures.items;
      places_are = c.put_places.ensures.items ∙ ap (λ places. places ++ all_rows_of rows) c.clear.ensures.items;
    } in
    cut_from_cut rows _ _ cut

pub returns-clause-rows : goal.returns-clause-rows
returns-clause-rows c =
    let rows = c.args.rows.now in
    let cut : AreCutAt rows c.put_ends.new.ends.items c.put_places.new.places.items = record {
      ends_are = c.put_ends.ensures.items ∙ ap (λ ends. ends ++ ends_of 0 rows) c.clear-2.ensures.items;
      places_are = c.put_places.ensures.items ∙ ap (λ places. places ++ all_rows_of rows) c.clear.ensures.items;
    } in
    rows_from_cut rows _ _ cut
