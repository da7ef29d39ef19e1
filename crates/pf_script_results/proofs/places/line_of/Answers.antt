use Rattle.std.proofs.Common.{◌∙◌, ◌+◌, ◌-◌, refl, arith}
use Rattle.pf_script.specs.Left.{lines_left}
use Rattle.pf_script_results.proofs.Standing.{line_behind, more_behind}
use Rattle.pf_script_results.proofs.places.line_of.Goals as goal

pub loop-turn-preserved : goal.loop-turn-preserved
loop-turn-preserved c =
    more_behind (lines_left c.args.lines.now) (lines_left c.loop-turn.lines) (lines_left c.next_line.new.self) c.loop-turn._turn (c.loop-turn._turn + 1)
    c.loop-turn.invariant c.next_line.ensures.rest refl

pub returns-clause-line : goal.returns-clause-line
returns-clause-line c =
    c.next_line-2.ensures.line
    ∙ line_behind (lines_left c.args.lines.now) (lines_left c.loop-turn.lines) c.loop-turn._turn (c.args.number - c.args.behind - 1) c.loop-turn.invariant (omega arith)

pub returns-clause-left : goal.returns-clause-left
returns-clause-left c =
    more_behind (lines_left c.args.lines.now) (lines_left c.loop-turn.lines) (lines_left c.next_line-2.new.self) c.loop-turn._turn
    (c.args.number - c.args.behind) c.loop-turn.invariant c.next_line-2.ensures.rest (omega arith)
