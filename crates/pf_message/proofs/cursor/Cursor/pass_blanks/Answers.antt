use Rattle.std.proofs.Common.{rules, ◌∙◌, sym}
use Rattle.pf_message.proofs.Readings.{shown_stops}
use Rattle.pf_message.proofs.cursor.Cursor.pass_blanks.Goals as goal

pub returns-then-byte-ne9 : goal.returns-then-byte-ne9
returns-then-byte-ne9 c =
    let r = c.loop-byte.self in
    sym (shown_stops r.position r.before c.in-Some.byte r.left (search rules) (search rules)) ∙ c.loop-byte.invariant
