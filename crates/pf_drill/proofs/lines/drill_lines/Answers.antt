use Rattle.pf_script_desk.specs.Asked.{lines_asked}
use Rattle.std.proofs.Common.{◌∙◌}
use Rattle.pf_drill.specs.Gates.{SomeArrived}
use Rattle.pf_drill.specs.Rounds.{commands_given}
use Rattle.pf_drill.proofs.Planned.{passes_apart}
use Rattle.pf_drill.proofs.Scripts.{finished, stopped_if, whole}
use Rattle.pf_drill.proofs.lines.drill_lines.Goals as goal

pub new-planner-requires : goal.new-planner-requires
new-planner-requires g c =
    (passes_apart g.N.Naming.board.id g.N.Naming.board.terms g.N.Naming.board.terms.processors _ _ c.pop-2.result _ (c.start-shared.ensures.0 ∙ c.requires.passes) c.pop-2.ensures.items c.in-Some-pop.is).1

pub drill_staffed-staffed-requires-clause-passes : goal.drill_staffed-staffed-requires-clause-passes
drill_staffed-staffed-requires-clause-passes g c κs within =
    (passes_apart g.N.Naming.board.id g.N.Naming.board.terms g.N.Naming.board.terms.processors _ _ c.pop-2.result _ (c.start-shared.ensures.0 ∙ c.requires.passes) c.pop-2.ensures.items c.in-Some-pop.is).0

pub returns-in-Ok-clause-drilled : goal.returns-in-Ok-clause-drilled
returns-in-Ok-clause-drilled g c =
    let given = c.in-Ok.ensures.given in
    finished (g.G.Gate.lets_in c.args.gate.now) (λ v. v.items) (lines_asked g.N.Naming.board.terms c.args.lines) g.N.Naming.board.terms (commands_given c.in-Ok.planner)
    c.in-Ok.planner.issued.items c.finish.result
    (whole g.N.Naming.board.terms c.args.lines (commands_given c.in-Ok.planner) given.whole given.commands) given.arrived c.finish.ensures.drilled

pub returns-in-Ok-clause-stopped : goal.returns-in-Ok-clause-stopped
returns-in-Ok-clause-stopped g c = stopped_if (SomeArrived (g.G.Gate.shuts_out c.args.gate.now)) _ c.finish.result c.finish.ensures.halt
