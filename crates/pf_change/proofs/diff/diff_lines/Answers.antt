use Rattle.std.proofs.Common.{ap}
use Rattle.pf_replies.specs.Course.{opening_course}
use Rattle.pf_change.specs.Change.{course_to_be}
use Rattle.pf_change.specs.Difference.{told_by}
use Rattle.pf_change.proofs.Courses.{both_shown, made_at}
use Rattle.pf_change.proofs.diff.diff_lines.Goals as goal

pub returns-clause-told : goal.returns-clause-told
returns-clause-told c =
    made_at told_by c.compare.result _ _
    (both_shown c.args.options c.args.since c.count_before.result (opening_course c.args.opening.every c.args.opening.settings) c.args.lines.now _ _ (course_to_be c.in_ok-desk.desk) (course_to_be c.show_behind.new.desk)
    c.in_ok-before.before c.in_ok-after.after (ap course_to_be c.in_ok-desk.ensures) c.split_at.ensures.front c.split_at.ensures.back c.count_before.ensures.lines
    c.in_ok-before.ensures.shown c.in_ok-before.ensures.desk c.in_ok-after.ensures.shown)
    c.compare.ensures.told
