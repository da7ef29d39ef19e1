-- What a session's desk answered.
use Rattle.std.proofs.Common.{◌∙◌, ◌+◌, ℕ, [], ◌∷◌, replicate, sym, ap}
use Rattle.std.proofs.lemmas.List.{replicate_more}
use Rattle.pf_desk.specs.Desk.{Shown}
use Rattle.pf_desk.specs.declared.command.Command.TheVariants.{Step}
use Rattle.pf_replies.proofs.Courses.{course_behind-append}
use Rattle.pf_replies.specs.Course.{ScriptCourse, course_at, course_behind}
use Rattle.pf_session.proofs.Steps.{state_more}
use Rattle.pf_session.specs.Held.{HasAnswered}

-- Use: a step more.
pub steps_answered : (turn : ℕ) (a b c : Shown) → HasAnswered (replicate turn Step) a b → HasAnswered (Step ∷ []) b c → HasAnswered (replicate (turn + 1) Step) a c
steps_answered turn a b c past h = record {
  course =
      h.course
      ∙ ap (λ (q : ScriptCourse). course_behind q (Step ∷ [])) past.course
      ∙ sym (course_behind-append (course_at a) (replicate turn Step) (Step ∷ []))
      ∙ ap (course_behind (course_at a)) (replicate_more turn Step);
  state = state_more a.state b.state c.state turn past.state h.state;
}
