use Rattle.std.proofs.Common.{◌≡◌, Some, sym, ap, ◌∙◌, refl}
use Rattle.std.specs.Option.{option_map}
use Rattle.pf_scenario.specs.Index.{event_at}
use Rattle.pf_scenario.specs.declared.found.Found.{Found}
use Rattle.pf_scenario.proofs.Numbering.{not_held}
use Rattle.pf_scenario.proofs.Keeping.{held_some}
use Rattle.pf_scenario.proofs.scenario.Scenario.find_held.Goals as goal
use Rattle.pf_scenario.proofs.scenario.Scenario.find_held.Goals.{In-Some, In-None}

found : (c : In-Some) → event_at c.self.inside.events c.args.id ≡ Some c.in-Some.found.event
found c = sym c.find.ensures ∙ ap (option_map (λ (f : Found). f.event)) c.in-Some.is

pub returns-in-Some-clause-value : goal.returns-in-Some-clause-value
returns-in-Some-clause-value c =
    rw (← c.self.view_is, held_some c.self.inside.events c.args.id c.in-Some.found.event (found c)) refl

pub returns-in-Some-clause-found : goal.returns-in-Some-clause-found
returns-in-Some-clause-found c = rw (← c.self.view_is) (found c)

pub returns-in-None-clause-value : goal.returns-in-None-clause-value
returns-in-None-clause-value c =
    rw (← c.self.view_is, not_held c.self.inside.events c.args.id (sym c.find.ensures ∙ ap (option_map (λ (f : Found). f.event)) c.in-None.is)) refl
