use Rattle.pf_courses.proofs.Activity.{behind_between}
use Rattle.pf_courses.proofs.course.Course.is_behind.Goals as goal

pub returns : goal.returns
returns c = behind_between c.args.self.now c.args.t c.due.result c.done.result c.due.ensures c.done.ensures
