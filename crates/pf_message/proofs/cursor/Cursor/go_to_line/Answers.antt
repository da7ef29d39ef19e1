use Rattle.std.proofs.Common.{rules, ◌∙◌, sym}
use Rattle.pf_message.proofs.Readings.{line_stops}
use Rattle.pf_message.proofs.cursor.Cursor.go_to_line.Goals as goal

pub returns-then-not-is_line_rest : goal.returns-then-not-is_line_rest
returns-then-not-is_line_rest c =
    let r = c.loop-byte.self in
    sym (line_stops c.args.line r.position r.before c.in-Some.byte r.left (search rules) (search rules)) ∙ c.loop-byte.invariant
