use Rattle.pf_desk.specs.declared.command.Command.TheVariants.{Step}
use Rattle.pf_session.proofs.Few.{few_places}
use Rattle.pf_session.proofs.session_desk.SessionDesk.step.Goals as goal

pub returns-clause-places : goal.returns-clause-places
returns-clause-places c =
    few_places c.self.inside.desk.state c.apply.new.self.state Step c.in_ok-apply.field-0 c.in_ok-apply.ensures.ok.answer c.in_ok-apply.ensures.ok.state
    c.in_ok-apply.ensures.desk.of_run.scenario
