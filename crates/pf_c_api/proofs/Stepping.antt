-- A caller's steps, one after another.
use Rattle.std.proofs.Common.{◌≡◌, ◌<◌, ◌+◌, ◌==◌, ℕ, inl, inr, if◌then◌else◌, Bool, true, false, List, [], ◌∷◌, replicate, refl, sym, ap, ◌∙◌, subst, arith}
use Rattle.std.proofs.lemmas.List.{replicate_more}
use Rattle.std.proofs.lemmas.List.Elements.{All-nil, All-cons}
use Rattle.pf_desk.specs.declared.command.Command.{Command}
use Rattle.pf_desk.specs.declared.command.Command.TheVariants.{Step}
use Rattle.pf_desk.specs.declared.reply.Reply.{Reply}
use Rattle.pf_desk.specs.declared.reply.Reply.TheVariants.{Stepped, Refused}
use Rattle.pf_desk.specs.declared.reply.Fault.TheVariants.{AtHorizon}
use Rattle.pf_desk.specs.Machine.{State, row_at, step_reply, state_after}
use Rattle.pf_desk.specs.Desk.{Shown, IsAsBefore, AnswersCaller, AnswersAll, entry_of}
use Rattle.pf_desk.proofs.Gathering.{answers_append}
use Rattle.pf_c_forms.specs.declared.status.TheConstants.{OK, AT_HORIZON, NO_MEMORY}
use Rattle.pf_c_forms.specs.Replied.{status_of}
use Rattle.pf_c_api.specs.Commanded.{AnswersStep, AnswersSteps, answered}

-- one command
answered_alone : (caller : ℕ) (command : Command) (reply : Reply) (before after : Shown) → AnswersCaller caller command before reply after
    → AnswersAll caller (command ∷ []) before after
answered_alone caller command reply before after one =
    let e = entry_of caller command reply in
    record {
      entries = e ∷ [];
      commands_in_order = refl;
      callers = All-cons (λ e. e.caller ≡ caller) e [] refl (All-nil (λ e. e.caller ≡ caller));
      answers = (one.answer, tt);
      entered = one.entered;
      state = one.state;
      every = one.every;
    }

-- Use: one step more.
pub one_more : (caller taken : ℕ) (reply : Reply) (first before after : Shown) → AnswersAll caller (replicate taken Step) first before
    → AnswersCaller caller Step before reply after → AnswersAll caller (replicate (taken + 1) Step) first after
one_more caller taken reply first before after all one =
    subst (λ cs. AnswersAll caller cs first after) (replicate_more taken Step)
    (answers_append caller (replicate taken Step) (Step ∷ []) first before after all (answered_alone caller Step reply before after one))

-- Use: room for entries is none of what was answered.
pub same_answers : (caller : ℕ) (commands : List Command) (first before after : Shown) → IsAsBefore before after
    → AnswersAll caller commands first before → AnswersAll caller commands first after
same_answers caller commands first before after same all =
    subst (λ d. AnswersAll caller commands first d) (sym same.rest)
    (record {
      entries = all.entries;
      commands_in_order = all.commands_in_order;
      callers = all.callers;
      answers = all.answers;
      entered = all.entered;
      state = all.state;
      every = all.every;
    })

-- the reply to a step that took none
took_none : (st : State) (reply : Reply) → reply ≡ step_reply st → (status_of reply ≡ OK → ⊥) → reply ≡ Refused AtHorizon
took_none st reply is none = by (st.now == st.plan.settings.horizon) is
  where
    by : (b : Bool) → reply ≡ (if b then Refused AtHorizon else Stepped st.now (row_at st.plan st.now)) → reply ≡ Refused AtHorizon
    by true e = e
    by false e = absurd (none (ap status_of e))

-- the slot that a step took
took_one : (st : State) (reply : Reply) → reply ≡ step_reply st → status_of reply ≡ OK → (state_after st Step reply).now ≡ st.now + 1
took_one st reply is ok = by (st.now == st.plan.settings.horizon) is
  where
    by : (b : Bool) → reply ≡ (if b then Refused AtHorizon else Stepped st.now (row_at st.plan st.now)) → (state_after st Step reply).now ≡ st.now + 1
    by true e = absurd (differ (sym (ap status_of e) ∙ ok))
      where
        differ : AT_HORIZON ≡ OK → ⊥
        differ e = cc
    by false e = ap (λ r. (state_after st Step r).now) e

-- Use: a step took a slot.
pub step_taken : (caller taken status : ℕ) (first before after : Shown) → status ≡ OK → AnswersStep caller status before after
    → AnswersAll caller (replicate taken Step) first before → before.state.now ≡ first.state.now + taken
    → (after.state.now ≡ first.state.now + (taken + 1)) × AnswersAll caller (replicate (taken + 1) Step) first after
step_taken caller taken status first before after ok (inl (refused, same)) all now = absurd (differ (sym refused ∙ ok))
  where
    differ : NO_MEMORY ≡ OK → ⊥
    differ e = cc
step_taken caller taken status first before after ok (inr (reply, one, is)) all now =
    let more = took_one before.state reply one.answer (sym is ∙ ok) in
    let there = ap (λ (st : State). st.now) one.state in
    (omega (arith, more, there, now), one_more caller taken reply first before after all one)

-- Use: a step took none.
pub steps_end : (caller count taken status : ℕ) (first before after : Shown) → taken < count → (status ≡ OK → ⊥) → AnswersStep caller status before after
    → AnswersAll caller (replicate taken Step) first before → before.state.now ≡ first.state.now + taken
    → AnswersSteps caller count status taken first after
steps_end caller count taken status first before after few not_ok (inl (refused, same)) all now = record {
  within = omega (arith, few);
  ends = inr (inr refused, few);
  now = ap (λ (d : Shown). d.state.now) same.rest ∙ now;
  answers = subst (λ s. AnswersAll caller (replicate (answered s taken) Step) first after) (sym refused)
      (same_answers caller (replicate taken Step) first before after same all);
}
steps_end caller count taken status first before after few not_ok (inr (reply, one, is)) all now =
    let none : reply ≡ Refused AtHorizon = took_none before.state reply one.answer (λ ok. not_ok (is ∙ ok)) in
    let horizon : status ≡ AT_HORIZON = is ∙ ap status_of none in
    let there : after.state ≡ before.state = one.state ∙ ap (state_after before.state Step) none in
    record {
      within = omega (arith, few);
      ends = inr (inl horizon, few);
      now = ap (λ (st : State). st.now) there ∙ now;
      answers = subst (λ s. AnswersAll caller (replicate (answered s taken) Step) first after) (sym horizon)
          (one_more caller taken reply first before after all one);
    }
