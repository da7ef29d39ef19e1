use Rattle.std.proofs.Common.{[], ◌∷◌, ap, subst, ◌∙◌}
use Rattle.pf_desk.specs.declared.command.Command.TheVariants.{Step}
use Rattle.pf_desk.specs.Machine.{reply_to}
use Rattle.pf_replies.specs.Batched.{HasTaken}
use Rattle.pf_replies.proofs.Batches.{batched, one_place, one_taken}
use Rattle.pf_replies.proofs.Courses.{one_answered, within_then}
use Rattle.pf_replies.proofs.batching_desk.BatchingDesk.answer.Goals as goal

pub invariant_of-self-in-Step : goal.invariant_of-self-in-Step
invariant_of-self-in-Step c =
    let e = c.in_ok-step-in-Step.ensures in
    let was = c.self.invariant in
    let desk = c.self.inside.desk in
    let reply = reply_to desk.state Step in
    record {
      plain = was.plain;
      within = within_then 0 (Step ∷ []) desk c.step.new.self (one_answered 0 Step desk c.step.new.self reply e.ok) c.self.inside.shown was.within;
      places = one_place 0 Step desk c.step.new.self reply e.ok c.self.inside.shown was.within e.desk was.places;
    }

pub invariant_of-self-in-Edit : goal.invariant_of-self-in-Edit
invariant_of-self-in-Edit c =
    let e = c.in_ok-apply-in-Edit.ensures in
    let was = c.self.invariant in
    let desk = c.self.inside.desk in
    let reply = c.in_ok-apply-in-Edit.field-0 in
    record {
      plain = was.plain;
      within = within_then 0 (c.args.command ∷ []) desk c.apply.new.self (one_answered 0 c.args.command desk c.apply.new.self reply e.ok) c.self.inside.shown was.within;
      places = one_place 0 c.args.command desk c.apply.new.self reply e.ok c.self.inside.shown was.within e.desk was.places;
    }

pub returns-in_ok-step-in-Step : goal.returns-in_ok-step-in-Step
returns-in_ok-step-in-Step c =
    let desk = c.self.inside.desk in
    rw c.in-Step.is
    (subst (λ b. HasTaken Step b (batched c.step.new.self c.self.inside.waiting.items c.self.inside.shown)) c.self.view_is
    (one_taken 0 Step desk c.step.new.self (reply_to desk.state Step) c.in_ok-step-in-Step.ensures.ok c.self.inside.shown c.self.invariant.within
    c.self.inside.waiting.items (ap (λ b. b.waiting) c.self.view_is ∙ c.requires)))

pub returns-in_ok-apply-in-Edit : goal.returns-in_ok-apply-in-Edit
returns-in_ok-apply-in-Edit c =
    subst (λ b. HasTaken c.args.command b (batched c.apply.new.self c.self.inside.waiting.items c.self.inside.shown)) c.self.view_is
    (one_taken 0 c.args.command c.self.inside.desk c.apply.new.self c.in_ok-apply-in-Edit.field-0 c.in_ok-apply-in-Edit.ensures.ok c.self.inside.shown
    c.self.invariant.within c.self.inside.waiting.items (ap (λ b. b.waiting) c.self.view_is ∙ c.requires))
