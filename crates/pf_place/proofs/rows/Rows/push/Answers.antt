use Rattle.std.proofs.Common.{◌++◌, Option, None, [], ◌∷◌, length, length-append, ap, ◌∙◌, arith}
use Rattle.std.proofs.lemmas.List.{length-replicate}
use Rattle.pf_order.specs.declared.pick.Pick.{Pick}
use Rattle.pf_place.specs.Blocks.{all_rows_of}
use Rattle.pf_place.specs.Lent.{lent_row}
use Rattle.pf_place.specs.Occupancy.{idle_row}
use Rattle.pf_place.proofs.Filed.{some_in_last, idle_is_last, row_pushed}
use Rattle.pf_place.proofs.rows.Rows.push.Goals as goal

pub assign_last-requires-clause-long : goal.assign_last-requires-clause-long
assign_last-requires-clause-long c =
    let inside = c.self.inside in
    let full = inside.full in
    let idle = idle_row c.processors.result in
    let is = c.self.view_is ∙ c.in_ok-append_idle.ensures.ok in
    let some = some_in_last full inside.last c.self.invariant (omega (arith, ap length is, length-append c.args.self.now (idle ∷ []))) in
    omega (
      arith,
      ap length c.view.ensures,
      c.processors.ensures,
      ap length (idle_is_last (all_rows_of full) inside.last.rows c.args.self.now idle some is),
      length-replicate c.processors.result (let none : Option Pick = None in none),
    )

pub returns-clause-ok : goal.returns-clause-ok
returns-clause-ok c =
    let inside = c.self.inside in
    let full = inside.full in
    let idle = idle_row c.processors.result in
    let is = c.self.view_is ∙ c.in_ok-append_idle.ensures.ok in
    let some = some_in_last full inside.last c.self.invariant (omega (arith, ap length is, length-append c.args.self.now (idle ∷ []))) in
    ap (λ rows. all_rows_of full ++ rows) c.assign_last.ensures.rows
    ∙ row_pushed (all_rows_of full) inside.last.rows c.args.self.now idle (lent_row c.view.result) some is
    ∙ ap (λ row. c.args.self.now ++ row ∷ []) c.view.ensures
