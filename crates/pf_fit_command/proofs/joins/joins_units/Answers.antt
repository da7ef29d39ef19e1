use Rattle.std.proofs.Common.{rules, ◌≡◌, [], ◌∷◌, arith, refl, sym, subst}
use Rattle.pf_scenario.specs.Edit.{IsEvent, IsScenario}
use Rattle.pf_scenario.specs.System.{System}
use Rattle.pf_fit_command.specs.Joins.{join_units}
use Rattle.pf_fit_command.proofs.Asked.{asked_all, asked_few, asked_next, joins_few, limited_first, limited_rest}
use Rattle.pf_fit_command.proofs.joins.joins_units.Goals as goal

pub join_units-units-requires : goal.join_units-units-requires
join_units-units-requires c =
    let split : c.loop-numbered.numbered-iterator ≡ c.in-Some.numbered ∷ c.next.new.self = search rules in
    let settings : c.settings-settings.result ≡ c.args.scenario.now.settings = search rules in
    subst (λ (s : System). IsEvent s c.in-Some.numbered.event) (sym settings)
    (limited_first c.args.scenario.now _ c.next.new.self c.in-Some.numbered split c.loop-numbered.invariant.limits)

pub overflow_add-units : goal.overflow_add-units
overflow_add-units c =
    let split : c.loop-numbered.numbered-iterator ≡ c.in-Some.numbered ∷ c.next.new.self = search rules in
    let is : c.join_units-units.result ≡ join_units c.args.scenario.now.settings.base c.in-Some.numbered.event = search rules in
    let scenario : IsScenario c.args.scenario.now = search rules in
    omega (arith, asked_few c.args.scenario.now _ c.next.new.self c.in-Some.numbered split _ _ is c.loop-numbered.invariant.sum scenario)

pub loop-numbered-preserved : goal.loop-numbered-preserved
loop-numbered-preserved c =
    let split : c.loop-numbered.numbered-iterator ≡ c.in-Some.numbered ∷ c.next.new.self = search rules in
    let is : c.join_units-units.result ≡ join_units c.args.scenario.now.settings.base c.in-Some.numbered.event = search rules in
    record {
      sum = asked_next c.args.scenario.now _ c.next.new.self c.in-Some.numbered split _ _ _ is refl c.loop-numbered.invariant.sum;
      limits = limited_rest c.args.scenario.now _ c.next.new.self c.in-Some.numbered split c.loop-numbered.invariant.limits;
    }

pub returns-clause-value : goal.returns-clause-value
returns-clause-value c =
    let done : c.loop-numbered.numbered-iterator ≡ [] = search rules in
    asked_all c.args.scenario.now c.loop-numbered.numbered-iterator c.loop-numbered.units done c.loop-numbered.invariant.sum

pub returns-clause-few : goal.returns-clause-few
returns-clause-few c =
    let scenario : IsScenario c.args.scenario.now = search rules in
    omega (arith, returns-clause-value c, joins_few c.args.scenario.now scenario)
