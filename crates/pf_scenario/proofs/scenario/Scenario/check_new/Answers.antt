use Rattle.std.proofs.Common.{◌≡◌, List, ap, sym, subst}
use Rattle.std.specs.Result.{result_err}
use Rattle.pf_scenario.specs.Scenario.{Plan, events_without}
use Rattle.pf_scenario.specs.Edit.{event_fault}
use Rattle.pf_scenario.specs.declared.event.Numbered.{Numbered}
use Rattle.pf_scenario.proofs.Keeping.{without_nothing}
use Rattle.pf_scenario.proofs.scenario.Scenario.check_new.Goals as goal

pub returns-clause-value : goal.returns-clause-value
returns-clause-value c =
    let events = c.self.inside.events in
    let same = without_nothing events c.self.inside.next c.self.invariant.given in
    let E : List Numbered → Type 0 = λ others. result_err c.check_event.result ≡ event_fault c.args.self.now.settings others c.args.event.now in
    let held = ap (λ (s : Plan). s.events) c.self.view_is in
    subst E held (subst E same (subst E (ap (events_without 0) (sym held)) c.check_event.ensures))
