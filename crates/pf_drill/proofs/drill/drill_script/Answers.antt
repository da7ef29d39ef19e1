use Rattle.std.proofs.Common.{◌≡◌, ◌+◌, ap, ap₂, ◌∙◌, sym}
use Rattle.std.proofs.lemmas.Result.{err_from_is_err_and}
use Rattle.pf_scenario.specs.System.{System}
use Rattle.pf_board.specs.Passes.{new_passes}
use Rattle.pf_script_desk.specs.Asked.{lines_asked}
use Rattle.pf_drill.specs.Gates.{SomeArrived}
use Rattle.pf_drill.proofs.Scripts.{drills_same, opening_asks, opening_stops, stops_same}
use Rattle.pf_drill.proofs.drill.drill_script.Goals as goal

pub returns-in_err-script-clause-stopped : goal.returns-in_err-script-clause-stopped
returns-in_err-script-clause-stopped g c =
    let p = err_from_is_err_and c.from_residual.result c.from_residual.ensures.1 in
    rw (p.1, p.2) (opening_stops (SomeArrived (g.G.Gate.shuts_out c.args.gate.now)) _ _ _ c.in_err-script.ensures)

pub drill_lines-requires-clause-passes : goal.drill_lines-requires-clause-passes
drill_lines-requires-clause-passes g c κs within =
    let e = c.in-Ok.ensures in
    let count : c.from-passes.result + 1 ≡ c.in-Ok.blank.board.terms.processors + 1 =
    ap (λ n. n + 1) (c.from-passes.ensures ∙ (c.processors.ensures.value ∙ ap (λ (s : System). s.processors) (sym e.settings))) in
    e.passes ∙ ap₂ (λ (s : System) n. new_passes c.in-Ok.blank.board.id s n) (sym e.settings) count

pub returns-clause-drilled : goal.returns-clause-drilled
returns-clause-drilled g c =
    let script = c.in_ok-script.script in
    let asked = ap (λ (s : System). lines_asked s script.lines) c.in-Ok.ensures.settings ∙ opening_asks _ script c.in_ok-script.ensures.1 in
    drills_same (g.G.Gate.lets_in c.args.gate.now) (λ v. v.items) _ _ c.drill_lines.result asked c.drill_lines.ensures.drilled

pub returns-clause-stopped : goal.returns-clause-stopped
returns-clause-stopped g c =
    let script = c.in_ok-script.script in
    let asked = ap (λ (s : System). lines_asked s script.lines) c.in-Ok.ensures.settings ∙ opening_asks _ script c.in_ok-script.ensures.1 in
    stops_same (SomeArrived (g.G.Gate.shuts_out c.args.gate.now)) _ _ c.drill_lines.result asked c.drill_lines.ensures.stopped
