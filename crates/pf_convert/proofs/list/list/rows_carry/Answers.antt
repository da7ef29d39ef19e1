use Rattle.std.proofs.Common.{◌≡◌, ◌∙◌, sym, subst, arith}
use Rattle.pf_weight.specs.declared.task.TheConstants.{LARGEST_TASK}
use Rattle.csv.specs.Records.{fields_of}
use Rattle.pf_text.specs.Rows.Rows.{Row, TakesRow}
use Rattle.pf_convert.proofs.ListLemmas.Carrying.{row_found, row_passed, none_left, no_more_looked_at}
use Rattle.pf_convert.proofs.list.list.rows_carry.Goals as goal

pub returns-in-Found : goal.returns-in-Found
returns-in-Found c =
    let found = subst (λ n. TakesRow n (fields_of c.next.new.row) c.loop-number.rows c.next.new.self) c.in-Found.is c.in_ok-next.ensures in
    let row : Row = record { line = c.in-Found.field-0; fields = fields_of c.next.new.row } in
    sym (row_found c.args.heading.now c.loop-number.number c.loop-number.rows c.next.new.self row c.loop-number-test.true found
    (sym c.row_carries.ensures ∙ c.if-row_carries.true))
    ∙ c.loop-number.invariant

pub returns-in-End : goal.returns-in-End
returns-in-End c =
    let ended = subst (λ n. TakesRow n (fields_of c.next.new.row) c.loop-number.rows c.next.new.self) c.in-End.is c.in_ok-next.ensures in
    sym (none_left c.args.heading.now c.loop-number.number c.loop-number.rows c.in-End.field-0 ended) ∙ c.loop-number.invariant

pub loop-number-preserved : goal.loop-number-preserved
loop-number-preserved c =
    let found = subst (λ n. TakesRow n (fields_of c.next.new.row) c.loop-number.rows c.next.new.self) c.in-Found.is c.in_ok-next.ensures in
    let row : Row = record { line = c.in-Found.field-0; fields = fields_of c.next.new.row } in
    sym (row_passed c.args.heading.now c.loop-number.number c.loop-number.rows c.next.new.self row c.loop-number-test.true found
    (sym c.row_carries.ensures ∙ c.if-row_carries.false))
    ∙ c.loop-number.invariant

pub returns : goal.returns
returns c =
    let full : c.loop-number.number ≡ LARGEST_TASK = omega (arith, c.loop-number-test.false, c.loop-number.auto.number-end) in
    sym (no_more_looked_at c.args.heading.now c.loop-number.number c.loop-number.rows full) ∙ c.loop-number.invariant
