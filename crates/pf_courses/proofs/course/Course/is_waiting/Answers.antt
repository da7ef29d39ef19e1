use Rattle.std.proofs.Common.{◌∙◌, ◌<◌, ◌≤◌, nat_lt, ap, sym, arith}
use Rattle.std.proofs.lemmas.Bool.{le-ltb}
use Rattle.pf_courses.proofs.Activity.{waiting_between, waiting_over}
use Rattle.pf_courses.proofs.course.Course.is_waiting.Goals as goal

pub returns-then-t-self : goal.returns-then-t-self
returns-then-t-self c =
    let track = c.args.self.now in
    let t = c.args.t in
    let inside : t < track.end = omega (arith, c.if-t-self.true, ap (λ track. track.end) c.self.view_is) in
    ap (λ n. nat_lt n c.released.result) c.max.ensures
    ∙ waiting_between track t c.released.result c.done.result c.due.result inside c.released.ensures c.done.ensures c.due.ensures

pub returns-else-t-self : goal.returns-else-t-self
returns-else-t-self c =
    let track = c.args.self.now in
    let t = c.args.t in
    let over : track.end ≤ t = omega (arith, c.if-t-self.false, ap (λ track. track.end) c.self.view_is) in
    le-ltb t c.self.inside.end c.if-t-self.false ∙ sym (waiting_over track t over)
