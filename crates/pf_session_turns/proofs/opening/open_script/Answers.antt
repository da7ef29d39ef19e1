use Rattle.std.proofs.Common.{◌≡◌, ◌∙◌, ◌∷◌, sym, ap, subst}
use Rattle.csv.specs.Records.{fields_of}
use Rattle.pf_session.specs.Session.{at_start}
use Rattle.pf_text.specs.Rows.Rows.{Row, TakesRow}
use Rattle.pf_session_turns.specs.Opening.{IsOpened, opened_rows}
use Rattle.pf_session_turns.proofs.Rows.{rows_apart}
use Rattle.pf_session_turns.proofs.opening.open_script.Goals as goal

pub returns-in-Found : goal.returns-in-Found
returns-in-Found c =
    let took = subst (λ next. TakesRow next (fields_of c.next.new.row) c.new-rows.result c.next.new.self) c.in-Found.is c.in_ok-next.ensures in
    let first : Row = record { line = c.in-Found.field-0; fields = fields_of c.next.new.row } in
    subst (λ found. IsOpened (opened_rows (at_start c.args.manner) c.args.script.now found) c.open_rows.result)
    (ap (λ t. t.rows) (sym took ∙ c.new-rows.ensures.rows))
    (subst (λ o. IsOpened o c.open_rows.result) (rows_apart (at_start c.args.manner) c.args.script.now first 0 c.next.new.self.rows)
    (subst (λ s. IsOpened (opened_rows s c.args.script.now (record { line = 0; fields = fields_of c.next.new.row } ∷ c.next.new.self.rows)) c.open_rows.result) c.in_ok-session.ensures
    c.open_rows.ensures))
