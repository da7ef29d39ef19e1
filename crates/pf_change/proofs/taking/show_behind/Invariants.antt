use Rattle.std.proofs.Common.{◌≡◌, drop}
use Rattle.pf_replies.specs.Course.{course_behind}
use Rattle.pf_script_desk.specs.Asked.{commands_in}
use Rattle.pf_change.specs.Change.{course_to_be}
use Rattle.pf_change.proofs.taking.show_behind.Given as goal

-- the course once the lines left are carried out
abbrev pub invariant-loop-line : goal.invariant-loop-line
invariant-loop-line l =
    course_behind (course_to_be l.desk) (commands_in (drop l.line-index l.lines)) ≡ course_behind (course_to_be l.fn.desk) (commands_in l.lines)
