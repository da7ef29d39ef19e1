use Rattle.std.proofs.Common.{ap, ◌∙◌, sym}
use Rattle.std.proofs.lemmas.Result.{err_from_is_err_and}
use Rattle.pf_script.specs.Told.{LinesTold}
use Rattle.pf_drill.specs.Rounds.{commands_given}
use Rattle.pf_drill.proofs.Scripts.{commands_on, line_stops, stopped}
use Rattle.pf_drill.proofs.lines.take_lines.Goals as goal

pub returns-in_err-line-clause-stopped : goal.returns-in_err-line-clause-stopped
returns-in_err-line-clause-stopped g c =
    let p = err_from_is_err_and c.from_residual.result c.from_residual.ensures.1 in
    rw (p.1, p.2) (line_stops ⊥ g.N.Naming.board.terms c.args.lines c.records.lines _ _ _ c.records.invariant.fault c.in_err-line.ensures)

pub returns-in-Err-clause-stopped : goal.returns-in-Err-clause-stopped
returns-in-Err-clause-stopped g c = stopped ⊥ _ c.in-Err.fault c.in-Err.ensures.halt

pub records-preserved : goal.records-preserved
records-preserved g c =
    let read = rw c.in-Some.is at c.in_ok-line.ensures in
    record {
      step = c.in-Ok.ensures.step;
      commands = commands_on (commands_given c.records.planner) (commands_given c.take_line.new.planner) _ c.records.lines c.next.new.self c.in-Some.line read c.in-Ok.ensures.commands
          c.records.invariant.commands;
      fault = sym (ap (λ (rest : LinesTold). rest.fault) read) ∙ c.records.invariant.fault;
    }
