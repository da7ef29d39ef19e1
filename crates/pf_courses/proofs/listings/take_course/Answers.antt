use Rattle.std.proofs.Common.{◌==◌, ◌∙◌, find, ap}
use Rattle.std.specs.List.{position}
use Rattle.pf_courses.specs.Course.{Track}
use Rattle.pf_courses.proofs.Ranked.{course_taken, no_course, others_stay}
use Rattle.pf_courses.proofs.listings.take_course.Goals as goal

pub returns-in_err-place-clause-found : goal.returns-in_err-place-clause-found
returns-in_err-place-clause-found c =
    c.from_residual.ensures ∙ no_course c.args.courses.now.items c.args.task (c.in_err-place.ensures ∙ ap (position (λ (track : Track). track.task == c.args.task)) c.deref.ensures.value)

pub returns-clause-found : goal.returns-clause-found
returns-clause-found c =
    course_taken c.args.courses.now.items c.args.task c.in_ok-place.place c.remove.result
    (c.in_ok-place.ensures ∙ ap (position (λ (track : Track). track.task == c.args.task)) c.deref.ensures.value) c.remove.ensures.value

pub returns-clause-others : goal.returns-clause-others
returns-clause-others c = λ other differ.
    ap (find (λ (track : Track). track.task == other)) c.remove.ensures.items
    ∙ others_stay c.args.courses.now.items c.args.task c.in_ok-place.place
    (c.in_ok-place.ensures ∙ ap (position (λ (track : Track). track.task == c.args.task)) c.deref.ensures.value) other differ
