use Rattle.pf_drill.specs.Gates.{SomeArrived}
use Rattle.pf_cli.proofs.Drilling.{plan_drills, plan_stops}
use Rattle.pf_cli.proofs.drill.drill_bytes.Goals as goal

pub returns-in-Ok-Some-clause-drilled : goal.returns-in-Ok-Some-clause-drilled
returns-in-Ok-Some-clause-drilled g c =
    plan_drills (g.G.Gate.lets_in c.args.gate.now) c.args.bytes.now c.in-Ok-Some.plain c.drill_plan.result
    (rw c.in-Ok-Some.field-0-is at c.in-Ok-Some.ensures) c.drill_plan.ensures.drilled

pub returns-in-Ok-Some-clause-stopped : goal.returns-in-Ok-Some-clause-stopped
returns-in-Ok-Some-clause-stopped g c =
    plan_stops (SomeArrived (g.G.Gate.shuts_out c.args.gate.now)) c.args.bytes.now c.in-Ok-Some.plain c.drill_plan.result
    (rw c.in-Ok-Some.field-0-is at c.in-Ok-Some.ensures) c.drill_plan.ensures.stopped
