use Rattle.std.proofs.lemmas.Result.{err_from_is_err_and}
use Rattle.pf_script_results.proofs.Walking.{first_stands, last_stands, next_stands, own_stands}
use Rattle.pf_script_results.proofs.recounting.take_lines.Goals as goal

pub records-preserved : goal.records-preserved
records-preserved c = λ origins script bound st at rises.
    next_stands c.args.telling.now.file.now c.args.telling.now.hints c.args.telling.now.names.now c.args.telling.now.whole origins script c.in-Some.told
    c.records.course c.take_line.new.course c.records.recount c.take_line.new.recount c.records.lines.lines c.next_line.new.lines.lines _ _
    c.in_ok-take_line.field-0 (rw c.in-Some.is at c.in_ok-told.ensures.taken) (c.records.invariant origins script bound st at rises) c.in_ok-take_line.ensures

pub returns-in_err-take_line-clause-own : goal.returns-in_err-take_line-clause-own
returns-in_err-take_line-clause-own c = λ origins script bound st at rises had.
    let p = err_from_is_err_and c.from_residual-in_err-take_line.result c.from_residual-in_err-take_line.ensures.1 in
    rw (p.1, p.2)
    (own_stands c.args.telling.now.file.now c.args.telling.now.hints c.args.telling.now.names.now c.args.telling.now.whole origins script c.in-Some.told
    c.records.course c.take_line.new.course c.records.recount c.take_line.new.recount c.records.lines.lines c.next_line.new.lines.lines _ _ _
    (rw c.in-Some.is at c.in_ok-told.ensures.taken) (c.records.invariant origins script bound st at rises) c.in_err-take_line.ensures had)

pub returns-clause-value : goal.returns-clause-value
returns-clause-value c = λ origins script bound st at rises.
    last_stands c.args.telling.now.file.now c.args.telling.now.hints c.args.telling.now.names.now c.args.telling.now.whole origins script c.records.course c.records.recount
    c.records.lines.lines _ _ (rw c.in_default.is at c.in_ok-told.ensures.taken) (c.records.invariant origins script bound st at rises)
