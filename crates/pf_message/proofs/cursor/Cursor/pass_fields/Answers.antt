use Rattle.std.proofs.Common.{rules, ◌∙◌, sym}
use Rattle.pf_message.proofs.Readings.{field_goes_on, field_stops}
use Rattle.pf_message.proofs.cursor.Cursor.pass_fields.Goals as goal

pub returns-then-left-eq0 : goal.returns-then-left-eq0
returns-then-left-eq0 c =
    let r = c.loop-byte.self in
    sym (field_stops c.loop-byte.left c.loop-byte.part r.position r.before c.in-Some.byte r.left (search rules) (search rules)) ∙ c.loop-byte.invariant

pub returns-in_default-after : goal.returns-in_default-after
returns-in_default-after c =
    let r = c.loop-byte.self in
    sym (field_stops c.loop-byte.left c.loop-byte.part r.position r.before c.in-Some.byte r.left (search rules) (search rules)) ∙ c.loop-byte.invariant

pub loop-byte-preserved : goal.loop-byte-preserved
loop-byte-preserved c =
    let r = c.loop-byte.self in
    let on = field_goes_on c.loop-byte.left c.loop-byte.part c.in-Some-after.next r.position r.before c.in-Some.byte r.left (search rules) (search rules) (search rules) in
    search rules
