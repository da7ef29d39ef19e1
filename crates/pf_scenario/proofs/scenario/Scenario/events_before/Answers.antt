use Rattle.std.proofs.Common.{◌≡◌, List, subst}
use Rattle.std.specs.Prelude.{IfOk}
use Rattle.pf_scenario.specs.declared.event.Numbered.{Numbered}
use Rattle.pf_scenario.proofs.Timeline.{past_in_time}
use Rattle.pf_scenario.proofs.scenario.Scenario.events_before.Goals as goal

pub returns-clause-value : goal.returns-clause-value
returns-clause-value c =
    let P : List Numbered → Type 0 = λ xs. IfOk c.below.result (λ v. v.items ≡ xs) in
    subst P (past_in_time c.args.self.now c.args.t) (rw (← c.self.view_is) c.below.ensures)
