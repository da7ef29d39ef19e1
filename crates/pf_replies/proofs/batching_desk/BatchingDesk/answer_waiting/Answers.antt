use Rattle.std.proofs.Common.{[], All, take, sym, subst}
use Rattle.std.proofs.lemmas.List.Elements.{All-nil, All-take}
use Rattle.pf_desk.specs.Desk.{AnswersAll}
use Rattle.pf_desk.specs.Plain.{IsPlain}
use Rattle.pf_replies.specs.Batched.{HasAnswered}
use Rattle.pf_replies.proofs.Batches.{all_answered, all_places, batched}
use Rattle.pf_replies.proofs.Courses.{within_then}
use Rattle.pf_replies.proofs.batching_desk.BatchingDesk.answer_waiting.Goals as goal

-- where memory is refused, a front of them was answered
pub invariant_of-self : goal.invariant_of-self
invariant_of-self c =
    let front = c.in_err-apply_all.ensures.err in
    let was = c.self.invariant in
    let some = take front.0 c.deref.result.now in
    record {
      plain = was.plain;
      within = within_then 0 some c.self.inside.desk c.apply_all.new.self front.2 c.self.inside.shown was.within;
      places =
          all_places 0 some c.self.inside.desk c.apply_all.new.self front.2 c.self.inside.shown was.within
          (All-take IsPlain front.0 c.deref.result.now (subst (All IsPlain) (sym c.deref.ensures.value) was.plain)) was.places;
    }

pub invariant_of-self-2 : goal.invariant_of-self-2
invariant_of-self-2 c =
    let was = c.self.invariant in
    let all = c.deref.result.now in
    record {
      plain = subst (All IsPlain) (sym c.clear.ensures.items) (All-nil IsPlain);
      within = within_then 0 all c.self.inside.desk c.apply_all.new.self c.in_ok-apply_all.ensures.ok c.self.inside.shown was.within;
      places =
          all_places 0 all c.self.inside.desk c.apply_all.new.self c.in_ok-apply_all.ensures.ok c.self.inside.shown was.within
          (subst (All IsPlain) (sym c.deref.ensures.value) was.plain) was.places;
    }

pub returns-clause-answered : goal.returns-clause-answered
returns-clause-answered c =
    subst (λ b. HasAnswered b (batched c.apply_all.new.self c.clear.new.self.items c.self.inside.shown)) c.self.view_is
    (all_answered 0 c.self.inside.waiting.items c.self.inside.desk c.apply_all.new.self
    (subst (λ w. AnswersAll 0 w c.self.inside.desk c.apply_all.new.self) c.deref.ensures.value c.in_ok-apply_all.ensures.ok)
    c.self.inside.shown c.self.invariant.within c.clear.new.self.items c.clear.ensures.items)
