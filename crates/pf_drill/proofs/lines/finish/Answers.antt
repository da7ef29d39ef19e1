use Rattle.std.proofs.Common.{ap₂, ◌∙◌}
use Rattle.std.specs.Arc.{arc_value}
use Rattle.pf_drill.specs.Drilled.{drill_text}
use Rattle.pf_drill.proofs.Planned.{drilled}
use Rattle.pf_drill.proofs.lines.finish.Goals as goal

pub returns-in-Ok-drill_text-clause-drilled : goal.returns-in-Ok-drill_text-clause-drilled
returns-in-Ok-drill_text-clause-drilled g c =
    drilled g.N.Naming.board.id g.N.Naming.board.terms c.args.planner (arc_value c.in-Ok.snapshot) c.in-Ok-drill_text.text.items c.requires.step c.in-Ok.ensures.shown
    (c.in-Ok-drill_text.ensures ∙ ap₂ (λ s planner. drill_text s planner.issued.items) c.deref.ensures c.in-Ok.ensures.planner)
