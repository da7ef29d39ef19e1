use Rattle.std.proofs.Common.{◌∙◌, ◌+◌, ◌<◌, ◌≤◌, List, length, get_or, ap, sym, subst}
use Rattle.std.specs.List.Sorted.{IsPartitionedBy}
use Rattle.std.specs.Prelude.{is_some}
use Rattle.pf_courses.specs.Course.{Track}
use Rattle.pf_courses.specs.Windows.{ran_below}
use Rattle.pf_courses.specs.declared.window.Window.{Window}
use Rattle.pf_courses.proofs.Activity.{runs_none, runs_next, runs_not}
use Rattle.pf_courses.proofs.course.Course.running.Goals as goal

pub returns-in-None : goal.returns-in-None
returns-in-None c =
    let P : Track → Type 0 = λ track. IsPartitionedBy (ran_below (c.args.t + 1)) track.windows in
    let same = c.deref.ensures.value ∙ ap (λ track. track.windows) c.self.view_is in
    let Q : List Window → Type 0 = λ ws. length ws ≤ c.done.result in
    runs_none c.args.self.now c.args.t c.done.result (subst P c.self.view_is (c.self.invariant.quanta (c.args.t + 1))) c.done.ensures (subst Q same c.in-None.ensures.lookup.3)

pub returns-then-is_some : goal.returns-then-is_some
returns-then-is_some c =
    let P : Track → Type 0 = λ track. IsPartitionedBy (ran_below (c.args.t + 1)) track.windows in
    let same = c.deref.ensures.value ∙ ap (λ track. track.windows) c.self.view_is in
    let w = c.in-Some.next.now in
    let Q : List Window → Type 0 = λ ws. c.done.result < length ws in
    runs_next c.args.self.now c.args.t c.done.result (subst P c.self.view_is (c.self.invariant.quanta (c.args.t + 1))) c.done.ensures w
    (subst Q same c.in-Some.ensures.lookup.3.0) (c.in-Some.ensures.lookup.1 ∙ ap (λ ws. get_or ws c.done.result w) same)
    (ap is_some (sym c.processor_in.ensures) ∙ sym c.is_some.ensures ∙ c.if-is_some.true)

pub returns-else-is_some : goal.returns-else-is_some
returns-else-is_some c =
    let P : Track → Type 0 = λ track. IsPartitionedBy (ran_below (c.args.t + 1)) track.windows in
    let same = c.deref.ensures.value ∙ ap (λ track. track.windows) c.self.view_is in
    let w = c.in-Some.next.now in
    let Q : List Window → Type 0 = λ ws. c.done.result < length ws in
    runs_not c.args.self.now c.args.t c.done.result (subst P c.self.view_is (c.self.invariant.quanta (c.args.t + 1))) c.done.ensures w
    (subst Q same c.in-Some.ensures.lookup.3.0) (c.in-Some.ensures.lookup.1 ∙ ap (λ ws. get_or ws c.done.result w) same)
    (ap is_some (sym c.processor_in.ensures) ∙ sym c.is_some.ensures ∙ c.if-is_some.false)
