use Rattle.std.proofs.Common.{◌≡◌, ℕ, ◌<◌, ◌≤◌, max, Option, List, None, Some, IfSome, inl, inr, length, get_or, [], ◌∷◌, All, refl, sym, subst, arith}
use Rattle.std.proofs.lemmas.Bool.Decides.{nat_tests}
use Rattle.std.proofs.lemmas.List.Elements.{All-nil, All-cons, All-get_or}
use Rattle.std.proofs.lemmas.Result.{IfOk-from_err, MatchResult-from_err}
use Rattle.pf_order.specs.Counts.{Counts}
use Rattle.pf_order.specs.Counted.{CountsAtMost}
use Rattle.pf_scenario.specs.Scenario.{slot_touched}
use Rattle.pf_desk.specs.declared.command.Command.{Command}
use Rattle.pf_desk.specs.declared.command.Command.TheVariants.{Edit, Step}
use Rattle.pf_desk.specs.declared.reply.Reply.{Reply}
use Rattle.pf_desk.specs.Machine.{State}
use Rattle.pf_desk.specs.Plain.{IsPlainFrom, ArePlainFrom}
use Rattle.pf_desk.specs.Gathered.{AnswersFirst}
use Rattle.pf_desk.specs.Desk.{Shown, AnswersCaller, IsUncounted, most_replayed, most_slots, entry_of}
use Rattle.pf_desk.proofs.Gathering.{plain_each, plain_whole, replayed_later, steps_not_plain}
use Rattle.pf_desk.proofs.desk.Desk.apply_front.Goals as goal

pub returns-in_err-edit_all-clause-ok : goal.returns-in_err-edit_all-clause-ok
returns-in_err-edit_all-clause-ok c = IfOk-from_err _ _ c.from_residual.ensures.0

pub returns-in_err-edit_all-clause-err : goal.returns-in_err-edit_all-clause-err
returns-in_err-edit_all-clause-err c = MatchResult-from_err _ _ _ c.from_residual.ensures.0 (λ _. c.in_err-edit_all.ensures.err)

pub returns-in_err-edit_all-clause-desk : goal.returns-in_err-edit_all-clause-desk
returns-in_err-edit_all-clause-desk c = c.edit_all.ensures.desk

counts_within : (n : ℕ) (c d : Counts) → CountsAtMost n c d → CountsAtMost (max 1 n) c d
counts_within n c d few = record { never_falls = few.never_falls; at_most = omega (arith, few.at_most) }

pub returns-in_err-edit_all-clause-at_most : goal.returns-in_err-edit_all-clause-at_most
returns-in_err-edit_all-clause-at_most c = counts_within _ _ _ c.edit_all.ensures.within

pub returns-in_err-edit_all-clause-steps : goal.returns-in_err-edit_all-clause-steps
returns-in_err-edit_all-clause-steps c = λ steps.
    absurd (steps_not_plain c.args.commands.now _ (omega arith) c.plain_edits-plain.ensures.within c.plain_edits-plain.ensures.plain steps)

pub returns-in_err-edit_all-clause-plain : goal.returns-in_err-edit_all-clause-plain
returns-in_err-edit_all-clause-plain c = λ s plain.
    let whole = c.plain_edits-plain.ensures.whole (plain_each s c.args.self.now.state c.args.commands.now plain) in
    c.edit_all.ensures.from s (plain_whole s c.args.self.now.state c.args.commands.now _ (omega (arith, whole)) plain)

pub returns-in_err-edit_all-clause-whole : goal.returns-in_err-edit_all-clause-whole
returns-in_err-edit_all-clause-whole c = λ _. IfOk-from_err _ _ c.from_residual.ensures.0

pub returns-in_err-edit_all-clause-compared : goal.returns-in_err-edit_all-clause-compared
returns-in_err-edit_all-clause-compared c = c.edit_all.ensures.compared

pub returns-then-plain-gt1-clause-ok : goal.returns-then-plain-gt1-clause-ok
returns-then-plain-gt1-clause-ok c = record { some = omega arith; within = c.plain_edits-plain.ensures.within; answers = c.in_ok-edit_all.ensures.ok }

pub returns-then-plain-gt1-clause-err : goal.returns-then-plain-gt1-clause-err
returns-then-plain-gt1-clause-err c = tt

pub returns-then-plain-gt1-clause-desk : goal.returns-then-plain-gt1-clause-desk
returns-then-plain-gt1-clause-desk c = c.edit_all.ensures.desk

pub returns-then-plain-gt1-clause-at_most : goal.returns-then-plain-gt1-clause-at_most
returns-then-plain-gt1-clause-at_most c = counts_within _ _ _ c.edit_all.ensures.within

pub returns-then-plain-gt1-clause-steps : goal.returns-then-plain-gt1-clause-steps
returns-then-plain-gt1-clause-steps c = λ steps.
    absurd (steps_not_plain c.args.commands.now _ (omega arith) c.plain_edits-plain.ensures.within c.plain_edits-plain.ensures.plain steps)

pub returns-then-plain-gt1-clause-plain : goal.returns-then-plain-gt1-clause-plain
returns-then-plain-gt1-clause-plain c = λ s plain.
    let whole = c.plain_edits-plain.ensures.whole (plain_each s c.args.self.now.state c.args.commands.now plain) in
    c.edit_all.ensures.from s (plain_whole s c.args.self.now.state c.args.commands.now _ (omega (arith, whole)) plain)

pub returns-then-plain-gt1-clause-whole : goal.returns-then-plain-gt1-clause-whole
returns-then-plain-gt1-clause-whole c = c.plain_edits-plain.ensures.whole

pub returns-then-plain-gt1-clause-compared : goal.returns-then-plain-gt1-clause-compared
returns-then-plain-gt1-clause-compared c = c.edit_all.ensures.compared

pub returns-in_err-apply-clause-ok : goal.returns-in_err-apply-clause-ok
returns-in_err-apply-clause-ok c = IfOk-from_err _ _ c.from_residual-in_err-apply.ensures.0

pub returns-in_err-apply-clause-err : goal.returns-in_err-apply-clause-err
returns-in_err-apply-clause-err c = MatchResult-from_err _ _ _ c.from_residual-in_err-apply.ensures.0 (λ _. c.in_err-apply.ensures.err)

pub returns-in_err-apply-clause-desk : goal.returns-in_err-apply-clause-desk
returns-in_err-apply-clause-desk c = c.apply.ensures.desk

replayed_within : (now apart : ℕ) (touched : Option ℕ) → most_replayed now apart touched ≤ now
replayed_within now apart None = omega arith
replayed_within now apart (Some t) = grind (arith, nat_tests)

-- one command counts no more slots than were stepped, or one
counts_any : (d : Shown) (command : Command) (a b : Counts) → CountsAtMost (most_slots d command) a b → CountsAtMost (max 1 d.state.now) a b
counts_any d Step a b few = record { never_falls = few.never_falls; at_most = omega (arith, few.at_most) }
counts_any d (Edit change strict) a b few = record {
  never_falls = few.never_falls;
  at_most = omega (arith, few.at_most, replayed_within d.state.now d.every (slot_touched d.state.plan change));
}

counts_first : (d : Shown) (cs : List Command) (x : Command) (a b : Counts) → CountsAtMost (most_slots d (get_or cs 0 x)) a b →
    CountsAtMost (max 1 d.state.now) a b
counts_first d cs x a b few = counts_any d (get_or cs 0 x) a b few

pub returns-in_err-apply-clause-at_most : goal.returns-in_err-apply-clause-at_most
returns-in_err-apply-clause-at_most c = counts_first c.args.self.now c.args.commands.now _ _ _ c.apply.ensures.at_most

-- the first of some steps counts one
counts_step : (d : Shown) (cs : List Command) (x : Command) (a b : Counts) → 0 < length cs → CountsAtMost (most_slots d (get_or cs 0 x)) a b →
    All (λ c. c ≡ Step) cs → CountsAtMost 1 a b
counts_step d cs x a b some few steps =
    subst (λ (c : Command). CountsAtMost (most_slots d c) a b) (All-get_or (λ c. c ≡ Step) cs 0 x some steps) few

pub returns-in_err-apply-clause-steps : goal.returns-in_err-apply-clause-steps
returns-in_err-apply-clause-steps c = counts_step c.args.self.now c.args.commands.now _ _ _ c.requires c.apply.ensures.at_most

replayed_touched : (now apart s : ℕ) (touched : Option ℕ) → IfSome touched (λ t. s ≤ t) →
    most_replayed now apart touched ≤ most_replayed now apart (Some s)
replayed_touched now apart s None later = omega arith
replayed_touched now apart s (Some t) later = replayed_later now apart s t (omega (arith, later))

counts_plain : (d : Shown) (command : Command) (a b : Counts) (s : ℕ) → (IsUncounted d.state command → b ≡ a) →
    CountsAtMost (most_slots d command) a b → IsPlainFrom s d.state.plan command →
    CountsAtMost (most_replayed d.state.now d.every (Some s)) a b
counts_plain d Step a b s none few plain = absurd plain
counts_plain d (Edit change strict) a b s none few (_, inl fault) =
    subst (λ (x : Counts). CountsAtMost (most_replayed d.state.now d.every (Some s)) a x) (sym (none (inl fault)))
    (record { never_falls = omega arith; at_most = omega arith })
counts_plain d (Edit change strict) a b s none few (_, inr later) = record {
  never_falls = few.never_falls;
  at_most = omega (arith, few.at_most, replayed_touched d.state.now d.every s (slot_touched d.state.plan change) later);
}

first_plain : (s : ℕ) (st : State) (cs : List Command) (x : Command) → 0 < length cs → ArePlainFrom s st cs →
    IsPlainFrom s st.plan (get_or cs 0 x)
first_plain s st [] x some plain = absurd (omega arith)
first_plain s st (c ∷ cs) x some plain = plain.0

pub returns-in_err-apply-clause-plain : goal.returns-in_err-apply-clause-plain
returns-in_err-apply-clause-plain c = λ s plain.
    counts_plain c.args.self.now _ _ _ s c.apply.ensures.uncounted c.apply.ensures.at_most (first_plain s _ _ _ c.requires plain)

pub returns-in_err-apply-clause-whole : goal.returns-in_err-apply-clause-whole
returns-in_err-apply-clause-whole c = λ _. IfOk-from_err _ _ c.from_residual-in_err-apply.ensures.0

pub returns-in_err-apply-clause-compared : goal.returns-in_err-apply-clause-compared
returns-in_err-apply-clause-compared c = c.apply.ensures.compared

-- a command that is answered is the first of those that begin with it
first_answered : (caller : ℕ) (cs : List Command) (x : Command) (before after : Shown) (reply : Reply) → 0 < length cs →
    AnswersCaller caller (get_or cs 0 x) before reply after → AnswersFirst 1 caller cs before after
first_answered caller [] x before after reply some answered = absurd (omega arith)
first_answered caller (c ∷ cs) x before after reply some answered = record {
  some = omega arith;
  within = omega arith;
  answers = record {
    entries = entry_of caller c reply ∷ [];
    commands_in_order = refl;
    callers = All-cons (λ e. e.caller ≡ caller) (entry_of caller c reply) [] refl (All-nil (λ e. e.caller ≡ caller));
    answers = (answered.answer, tt);
    entered = answered.entered;
    state = answered.state;
    every = answered.every;
  };
}

pub returns-clause-ok : goal.returns-clause-ok
returns-clause-ok c = first_answered _ _ _ _ _ _ c.requires c.in_ok-apply.ensures.ok

pub returns-clause-err : goal.returns-clause-err
returns-clause-err c = tt

pub returns-clause-desk : goal.returns-clause-desk
returns-clause-desk c = c.apply.ensures.desk

pub returns-clause-at_most : goal.returns-clause-at_most
returns-clause-at_most c = counts_first c.args.self.now c.args.commands.now _ _ _ c.apply.ensures.at_most

pub returns-clause-steps : goal.returns-clause-steps
returns-clause-steps c = counts_step c.args.self.now c.args.commands.now _ _ _ c.requires c.apply.ensures.at_most

pub returns-clause-plain : goal.returns-clause-plain
returns-clause-plain c = λ s plain.
    counts_plain c.args.self.now _ _ _ s c.apply.ensures.uncounted c.apply.ensures.at_most (first_plain s _ _ _ c.requires plain)

pub returns-clause-whole : goal.returns-clause-whole
returns-clause-whole c = λ all. omega (arith, c.plain_edits-plain.ensures.whole all, c.requires, c.if-plain-gt1.false)

pub returns-clause-compared : goal.returns-clause-compared
returns-clause-compared c = c.apply.ensures.compared
