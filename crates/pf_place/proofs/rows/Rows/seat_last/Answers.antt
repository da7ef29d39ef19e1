use Rattle.std.proofs.Common.{◌++◌, [], ◌∷◌, length, ap, ◌∙◌, arith}
use Rattle.pf_place.specs.Blocks.{all_rows_of}
use Rattle.pf_place.specs.Occupancy.{row_of}
use Rattle.pf_place.specs.RunRows.{last_row, but_last, row_before}
use Rattle.pf_place.proofs.Blocks.{last_behind}
use Rattle.pf_place.proofs.Seated.{row_seats_picks, row_is_row}
use Rattle.pf_place.proofs.Filed.{some_in_last, last_is, row_seated}
use Rattle.pf_place.proofs.rows.Rows.seat_last.Goals as goal

pub seat_last-requires-clause-in_use : goal.seat_last-requires-clause-in_use
seat_last-requires-clause-in_use c =
    let inside = c.self.inside in
    let front = all_rows_of inside.full in
    let some = some_in_last inside.full inside.last c.self.invariant (omega (arith, ap length c.self.view_is, c.requires.some)) in
    omega (arith, c.requires.turn.in_use, ap length (last_is front inside.last.rows c.args.self.now some c.self.view_is))

pub returns-clause-rows : goal.returns-clause-rows
returns-clause-rows c =
    let inside = c.self.inside in
    let front = all_rows_of inside.full in
    let some = some_in_last inside.full inside.last c.self.invariant (omega (arith, ap length c.self.view_is, c.requires.some)) in
    let above = c.last_row-above.ensures in
    ap (λ rows. front ++ rows)
    (c.seat_last.ensures.rows ∙ ap (λ above. but_last inside.last.rows ++ row_of (length (last_row [] inside.last.rows)) c.args.count (last_row above (but_last inside.last.rows)) c.args.picks.now ∷ []) above)
    ∙ row_seated front inside.last.rows c.args.self.now some c.self.view_is c.args.count c.args.picks.now c.requires.turn.in_use

pub returns-clause-seated : goal.returns-clause-seated
returns-clause-seated c =
    let row = row_of (length (last_row [] c.args.self.now)) c.args.count (row_before c.args.self.now) c.args.picks.now in
    let rows = returns-clause-rows c in
    let last = ap (last_row []) rows ∙ last_behind [] (but_last c.args.self.now) row in
    let turn = c.requires.turn in
    let before = c.requires.before in
    rw last (row_seats_picks (length (last_row [] c.args.self.now)) c.args.count (row_before c.args.self.now) c.args.picks.now turn.in_use before.places turn.few turn.once before.once)

pub returns-clause-row : goal.returns-clause-row
returns-clause-row c =
    let row = row_of (length (last_row [] c.args.self.now)) c.args.count (row_before c.args.self.now) c.args.picks.now in
    let rows = returns-clause-rows c in
    let last = ap (last_row []) rows ∙ last_behind [] (but_last c.args.self.now) row in
    rw last (row_is_row (length (last_row [] c.args.self.now)) c.args.count (row_before c.args.self.now) c.args.picks.now c.requires.turn c.requires.before)
