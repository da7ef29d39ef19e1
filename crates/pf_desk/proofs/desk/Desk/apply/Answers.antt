use Rattle.std.proofs.Common.{le_refl, refl}
use Rattle.std.proofs.lemmas.Result.{IfOk-from_err, MatchResult-from_err}
use Rattle.pf_desk.specs.Desk.{entry_of}
use Rattle.pf_desk.proofs.Entering.{Commits, as_before, is_desk, parts_roomier, applied_commits, commit_answers, commit_rest, commit_parts, entries_then, run_stands}
use Rattle.pf_desk.proofs.Metered.{counts_alike}
use Rattle.pf_desk.proofs.Slots.{can_follow}
use Rattle.pf_desk.proofs.Uncounted.{at_most_more, counts_none}
use Rattle.pf_desk.proofs.desk.Desk.apply.Goals as goal
use Rattle.pf_desk.proofs.desk.Desk.apply.Goals.{In_ok-reply}

pub invariant_of-self : goal.invariant_of-self
invariant_of-self c = parts_roomier _ _ _ _ c.self.invariant c.reserve.ensures.same

pub returns-in_err-reserve-clause-ok : goal.returns-in_err-reserve-clause-ok
returns-in_err-reserve-clause-ok c = IfOk-from_err _ _ c.from_residual.ensures.0

pub returns-in_err-reserve-clause-err : goal.returns-in_err-reserve-clause-err
returns-in_err-reserve-clause-err c =
    MatchResult-from_err _ _ _ c.from_residual.ensures.0
    (λ _. rw (← c.self.view_is) (as_before c.self.inside.run.scenario c.self.inside.run.timeline _ _ c.reserve.ensures.same))

pub returns-in_err-reserve-clause-desk : goal.returns-in_err-reserve-clause-desk
returns-in_err-reserve-clause-desk c = is_desk _ _ _ _ (parts_roomier _ _ _ _ c.self.invariant c.reserve.ensures.same).keeps

pub returns-in_err-reserve-clause-refused : goal.returns-in_err-reserve-clause-refused
returns-in_err-reserve-clause-refused c = IfOk-from_err _ _ c.from_residual.ensures.0

pub returns-in_err-reserve-clause-counted : goal.returns-in_err-reserve-clause-counted
returns-in_err-reserve-clause-counted c = IfOk-from_err _ _ c.from_residual.ensures.0

pub returns-in_err-reserve-clause-at_most : goal.returns-in_err-reserve-clause-at_most
returns-in_err-reserve-clause-at_most c = counts_none _ _

pub returns-in_err-reserve-clause-uncounted : goal.returns-in_err-reserve-clause-uncounted
returns-in_err-reserve-clause-uncounted c = λ _. refl

pub returns-in_err-reserve-clause-wanting : goal.returns-in_err-reserve-clause-wanting
returns-in_err-reserve-clause-wanting c = MatchResult-from_err _ _ _ c.from_residual.ensures.0 (λ _ _. refl)

pub returns-in_err-reserve-clause-compared : goal.returns-in_err-reserve-clause-compared
returns-in_err-reserve-clause-compared c = le_refl _

pub returns-in_err-reserve-clause-comparisons : goal.returns-in_err-reserve-clause-comparisons
returns-in_err-reserve-clause-comparisons c = λ _. at_most_more _ _

pub apply-requires : goal.apply-requires
apply-requires c = run_stands c.self.inside.run _ c.self.invariant.keeps

pub invariant_of-self-in_err-reply : goal.invariant_of-self-in_err-reply
invariant_of-self-in_err-reply c =
    rw c.in_err-reply.ensures.err (parts_roomier _ _ _ _ c.self.invariant c.reserve.ensures.same)

pub returns-in_err-reply-clause-ok : goal.returns-in_err-reply-clause-ok
returns-in_err-reply-clause-ok c = IfOk-from_err _ _ c.from_residual-in_err-reply.ensures.0

pub returns-in_err-reply-clause-err : goal.returns-in_err-reply-clause-err
returns-in_err-reply-clause-err c =
    MatchResult-from_err _ _ _ c.from_residual-in_err-reply.ensures.0
    (λ _. rw (← c.self.view_is, c.in_err-reply.ensures.err) (as_before c.self.inside.run.scenario c.self.inside.run.timeline _ _ c.reserve.ensures.same))

pub returns-in_err-reply-clause-desk : goal.returns-in_err-reply-clause-desk
returns-in_err-reply-clause-desk c = is_desk _ _ _ _ (invariant_of-self-in_err-reply c).keeps

pub returns-in_err-reply-clause-refused : goal.returns-in_err-reply-clause-refused
returns-in_err-reply-clause-refused c = IfOk-from_err _ _ c.from_residual-in_err-reply.ensures.0

pub returns-in_err-reply-clause-counted : goal.returns-in_err-reply-clause-counted
returns-in_err-reply-clause-counted c = IfOk-from_err _ _ c.from_residual-in_err-reply.ensures.0

pub returns-in_err-reply-clause-at_most : goal.returns-in_err-reply-clause-at_most
returns-in_err-reply-clause-at_most c = rw (← c.self.view_is) (counts_alike c.self.inside.run c.self.inside.history.entries c.self.inside.history.spare c.args.command _ _ c.apply.ensures.at_most)

pub returns-in_err-reply-clause-uncounted : goal.returns-in_err-reply-clause-uncounted
returns-in_err-reply-clause-uncounted c = rw (← c.self.view_is) c.apply.ensures.uncounted

pub returns-in_err-reply-clause-wanting : goal.returns-in_err-reply-clause-wanting
returns-in_err-reply-clause-wanting c =
    MatchResult-from_err _ _ _ c.from_residual-in_err-reply.ensures.0 (λ _. c.in_err-reply.ensures.wanting)

pub returns-in_err-reply-clause-compared : goal.returns-in_err-reply-clause-compared
returns-in_err-reply-clause-compared c = c.apply.ensures.compared

pub returns-in_err-reply-clause-comparisons : goal.returns-in_err-reply-clause-comparisons
returns-in_err-reply-clause-comparisons c = rw (← c.self.view_is) c.apply.ensures.comparisons

pub enter-requires-clause-room : goal.enter-requires-clause-room
enter-requires-clause-room c = c.in_ok-reserve.ensures.ok

pub enter-requires-clause-next : goal.enter-requires-clause-next
enter-requires-clause-next c =
    can_follow _ _ _ _ _ (parts_roomier _ _ _ _ c.self.invariant c.in_ok-reserve.ensures.same) c.in_ok-reply.ensures.ok.answer

commits : (c : In_ok-reply) →
    Commits c.self.inside.run c.apply.new.self c.self.inside.history.entries (entry_of c.args.caller c.args.command c.in_ok-reply.reply)
commits c = applied_commits _ _ _ _ c.self.invariant.keeps c.in_ok-reply.ensures.ok

pub invariant_of-self-2 : goal.invariant_of-self-2
invariant_of-self-2 c =
    commit_parts _ _ _ _ _ _ (commits ((goal.at.invariant_of-self-2 c).In_ok-reply)) c.self.invariant.processors c.in_ok-reserve.ensures.same c.enter.ensures

pub returns-clause-ok : goal.returns-clause-ok
returns-clause-ok c =
    rw (← c.self.view_is, entries_then _ _ _ _ c.in_ok-reserve.ensures.same c.enter.ensures)
    (commit_answers _ _ _ _ (commits ((goal.at.returns-clause-ok c).In_ok-reply)) _ _)

pub returns-clause-err : goal.returns-clause-err
returns-clause-err c = tt

pub returns-clause-desk : goal.returns-clause-desk
returns-clause-desk c = is_desk _ _ _ _ (invariant_of-self-2 c).keeps

pub returns-clause-refused : goal.returns-clause-refused
returns-clause-refused c =
    rw (← c.self.view_is, entries_then _ _ _ _ c.in_ok-reserve.ensures.same c.enter.ensures)
    (commit_rest _ _ _ _ (commits ((goal.at.returns-clause-refused c).In_ok-reply)) _ _ c.in_ok-reply.reply refl)

pub returns-clause-counted : goal.returns-clause-counted
returns-clause-counted c = c.in_ok-reply.ensures.counted

pub returns-clause-at_most : goal.returns-clause-at_most
returns-clause-at_most c = rw (← c.self.view_is) (counts_alike c.self.inside.run c.self.inside.history.entries c.self.inside.history.spare c.args.command _ _ c.apply.ensures.at_most)

pub returns-clause-uncounted : goal.returns-clause-uncounted
returns-clause-uncounted c = rw (← c.self.view_is) c.apply.ensures.uncounted

pub returns-clause-wanting : goal.returns-clause-wanting
returns-clause-wanting c = tt

pub returns-clause-compared : goal.returns-clause-compared
returns-clause-compared c = c.apply.ensures.compared

pub returns-clause-comparisons : goal.returns-clause-comparisons
returns-clause-comparisons c = rw (← c.self.view_is) c.apply.ensures.comparisons
