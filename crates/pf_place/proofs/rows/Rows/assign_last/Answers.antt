use Rattle.std.proofs.Common.{◌++◌, [], ◌∷◌, length, ap, sym, ◌∙◌, arith, append_assoc}
use Rattle.pf_place.specs.Blocks.{all_rows_of}
use Rattle.pf_place.specs.Lent.{lent_row}
use Rattle.pf_place.specs.RunRows.{but_last}
use Rattle.pf_place.proofs.Filed.{some_in_last, last_is, front_is}
use Rattle.pf_place.proofs.rows.Rows.assign_last.Goals as goal

pub assign_last-requires-clause-long : goal.assign_last-requires-clause-long
assign_last-requires-clause-long c =
    let inside = c.self.inside in
    let front = all_rows_of inside.full in
    let some = some_in_last inside.full inside.last c.self.invariant (omega (arith, ap length c.self.view_is, c.requires.some)) in
    c.requires.long ∙ ap length (sym (last_is front inside.last.rows c.args.self.now some c.self.view_is))

pub returns : goal.returns
returns c =
    let inside = c.self.inside in
    let front = all_rows_of inside.full in
    let some = some_in_last inside.full inside.last c.self.invariant (omega (arith, ap length c.self.view_is, c.requires.some)) in
    ap (λ rows. front ++ rows) c.assign_last.ensures.rows
    ∙ sym (append_assoc front (but_last inside.last.rows) (lent_row c.args.row ∷ []))
    ∙ ap (λ rows. rows ++ lent_row c.args.row ∷ []) (front_is front inside.last.rows c.args.self.now some c.self.view_is)
