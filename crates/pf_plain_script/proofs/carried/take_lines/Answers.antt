use Rattle.std.proofs.Common.{sym, ◌∙◌, arith}
use Rattle.std.specs.List.{flat_map}
use Rattle.std.proofs.lemmas.List.{at_drop_all}
use Rattle.pf_script_desk.specs.Asked.{commands_of}
use Rattle.pf_plain_script.specs.Carried.{state_behind, state_to_be}
use Rattle.pf_plain_script.proofs.Behind.{next_line, taken_behind}
use Rattle.pf_plain_script.proofs.carried.take_lines.Goals as goal

pub loop-line-preserved : goal.loop-line-preserved
loop-line-preserved c =
    next_line (state_to_be c.loop-line.desk) (state_to_be c.take.new.self) c.args.lines.now c.loop-line.line-index _ (omega arith)
    (taken_behind _ c.loop-line.desk c.take.new.self c.in_ok-take.ensures)
    ∙ c.loop-line.invariant

pub returns : goal.returns
returns c =
    sym (at_drop_all (λ xs. state_behind (state_to_be c.loop-line.desk) (flat_map commands_of xs)) c.args.lines.now c.loop-line.line-index (omega arith))
    ∙ c.loop-line.invariant
