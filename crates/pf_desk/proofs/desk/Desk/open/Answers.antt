use Rattle.std.proofs.Common.{refl}
use Rattle.pf_scenario.specs.Scenario.{opening_plan}
use Rattle.pf_desk.proofs.Entering.{opening_kept, opening_shown, is_desk}
use Rattle.pf_desk.proofs.desk.Desk.open.Goals as goal

pub invariant_of-result : goal.invariant_of-result
invariant_of-result c =
    rw (c.new-scenario.ensures.value, c.new-2.ensures) (record {
      keeps = opening_kept c.args.settings c.in-Ok.timeline
          (c.in-Ok.ensures.stands (opening_plan c.args.settings) refl (rw c.new-scenario.ensures.value at c.new-scenario.ensures.scenario)) c.in-Ok.ensures.near;
      processors = c.processors.ensures.value;
    })

pub returns-clause-value : goal.returns-clause-value
returns-clause-value c =
    rw (c.new-scenario.ensures.value, c.new-2.ensures)
    (opening_shown c.args.settings c.in-Ok.timeline _ _ c.in-Ok.ensures.every (c.in-Ok.ensures.stands (opening_plan c.args.settings) refl (rw c.new-scenario.ensures.value at c.new-scenario.ensures.scenario)))

pub returns-clause-desk : goal.returns-clause-desk
returns-clause-desk c = is_desk _ _ _ _ (invariant_of-result c).keeps
