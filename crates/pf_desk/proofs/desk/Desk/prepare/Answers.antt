use Rattle.std.proofs.Common.{le_refl, ◌≡◌, ◌++◌, ◌∷◌, [], refl, sym, ap, subst}
use Rattle.std.proofs.lemmas.Result.{IfOk-weaker, IfOk-from_err}
use Rattle.pf_desk.specs.Machine.{IsStepped}
use Rattle.pf_desk.specs.Desk.{Ready, MakesReady, entry_of, seen_of}
use Rattle.pf_desk.specs.Kept.{shown_by, IsKeptDesk, ready_by}
use Rattle.pf_desk.specs.Applied.{IsApplied}
use Rattle.pf_desk.proofs.Entering.{as_before, is_desk, parts_roomier, kept_entered, run_stands}
use Rattle.pf_desk.proofs.Metered.{counts_alike}
use Rattle.pf_desk.proofs.Readying.{makes_ready, ready_before}
use Rattle.pf_desk.proofs.Uncounted.{at_most_more, counts_none}
use Rattle.pf_desk.proofs.desk.Desk.prepare.Goals as goal
use Rattle.pf_desk.proofs.desk.Desk.prepare.Goals.{In_ok-reply}

pub invariant_of-self : goal.invariant_of-self
invariant_of-self c = parts_roomier _ _ _ _ c.self.invariant c.reserve.ensures.same

pub returns-in_err-reserve-clause-ok : goal.returns-in_err-reserve-clause-ok
returns-in_err-reserve-clause-ok c = IfOk-from_err _ _ c.from_residual.ensures.0

pub returns-in_err-reserve-clause-ready : goal.returns-in_err-reserve-clause-ready
returns-in_err-reserve-clause-ready c = IfOk-from_err _ _ c.from_residual.ensures.0

pub returns-in_err-reserve-clause-room : goal.returns-in_err-reserve-clause-room
returns-in_err-reserve-clause-room c = IfOk-from_err _ _ c.from_residual.ensures.0

pub returns-in_err-reserve-clause-before : goal.returns-in_err-reserve-clause-before
returns-in_err-reserve-clause-before c = rw (← c.self.view_is) (as_before c.self.inside.run.scenario c.self.inside.run.timeline _ _ c.reserve.ensures.same)

pub returns-in_err-reserve-clause-desk : goal.returns-in_err-reserve-clause-desk
returns-in_err-reserve-clause-desk c = is_desk _ _ _ _ (parts_roomier _ _ _ _ c.self.invariant c.reserve.ensures.same).keeps

pub returns-in_err-reserve-clause-counted : goal.returns-in_err-reserve-clause-counted
returns-in_err-reserve-clause-counted c = IfOk-from_err _ _ c.from_residual.ensures.0

pub returns-in_err-reserve-clause-at_most : goal.returns-in_err-reserve-clause-at_most
returns-in_err-reserve-clause-at_most c = counts_none _ _

pub returns-in_err-reserve-clause-uncounted : goal.returns-in_err-reserve-clause-uncounted
returns-in_err-reserve-clause-uncounted c = λ _. refl

pub returns-in_err-reserve-clause-compared : goal.returns-in_err-reserve-clause-compared
returns-in_err-reserve-clause-compared c = le_refl _

pub returns-in_err-reserve-clause-comparisons : goal.returns-in_err-reserve-clause-comparisons
returns-in_err-reserve-clause-comparisons c = λ _. at_most_more _ _

pub invariant_of-self-2 : goal.invariant_of-self-2
invariant_of-self-2 c = parts_roomier _ _ _ _ c.self.invariant c.reserve.ensures.same

pub returns-in_err-run-clause-ok : goal.returns-in_err-run-clause-ok
returns-in_err-run-clause-ok c = IfOk-from_err _ _ c.from_residual-in_err-run.ensures.0

pub returns-in_err-run-clause-ready : goal.returns-in_err-run-clause-ready
returns-in_err-run-clause-ready c = IfOk-from_err _ _ c.from_residual-in_err-run.ensures.0

pub returns-in_err-run-clause-room : goal.returns-in_err-run-clause-room
returns-in_err-run-clause-room c = IfOk-from_err _ _ c.from_residual-in_err-run.ensures.0

pub returns-in_err-run-clause-before : goal.returns-in_err-run-clause-before
returns-in_err-run-clause-before c = rw (← c.self.view_is) (as_before c.self.inside.run.scenario c.self.inside.run.timeline _ _ c.reserve.ensures.same)

pub returns-in_err-run-clause-desk : goal.returns-in_err-run-clause-desk
returns-in_err-run-clause-desk c = is_desk _ _ _ _ (parts_roomier _ _ _ _ c.self.invariant c.reserve.ensures.same).keeps

pub returns-in_err-run-clause-counted : goal.returns-in_err-run-clause-counted
returns-in_err-run-clause-counted c = IfOk-from_err _ _ c.from_residual-in_err-run.ensures.0

pub returns-in_err-run-clause-at_most : goal.returns-in_err-run-clause-at_most
returns-in_err-run-clause-at_most c = counts_none _ _

pub returns-in_err-run-clause-uncounted : goal.returns-in_err-run-clause-uncounted
returns-in_err-run-clause-uncounted c = λ _. refl

pub returns-in_err-run-clause-compared : goal.returns-in_err-run-clause-compared
returns-in_err-run-clause-compared c = le_refl _

pub returns-in_err-run-clause-comparisons : goal.returns-in_err-run-clause-comparisons
returns-in_err-run-clause-comparisons c = λ _. at_most_more _ _

pub returns-in_err-reply-clause-ok : goal.returns-in_err-reply-clause-ok
returns-in_err-reply-clause-ok c = IfOk-from_err _ _ c.from_residual-in_err-reply.ensures.0

pub returns-in_err-reply-clause-ready : goal.returns-in_err-reply-clause-ready
returns-in_err-reply-clause-ready c = IfOk-from_err _ _ c.from_residual-in_err-reply.ensures.0

pub returns-in_err-reply-clause-room : goal.returns-in_err-reply-clause-room
returns-in_err-reply-clause-room c = IfOk-from_err _ _ c.from_residual-in_err-reply.ensures.0

pub returns-in_err-reply-clause-before : goal.returns-in_err-reply-clause-before
returns-in_err-reply-clause-before c = rw (← c.self.view_is) (as_before c.self.inside.run.scenario c.self.inside.run.timeline _ _ c.reserve.ensures.same)

pub returns-in_err-reply-clause-desk : goal.returns-in_err-reply-clause-desk
returns-in_err-reply-clause-desk c = is_desk _ _ _ _ (parts_roomier _ _ _ _ c.self.invariant c.reserve.ensures.same).keeps

pub returns-in_err-reply-clause-counted : goal.returns-in_err-reply-clause-counted
returns-in_err-reply-clause-counted c = IfOk-from_err _ _ c.from_residual-in_err-reply.ensures.0

pub returns-in_err-reply-clause-at_most : goal.returns-in_err-reply-clause-at_most
returns-in_err-reply-clause-at_most c = rw (← c.self.view_is) (counts_alike c.self.inside.run c.self.inside.history.entries c.self.inside.history.spare c.args.command _ _ (rw c.in_ok-run.ensures at c.apply.ensures.at_most))

pub returns-in_err-reply-clause-uncounted : goal.returns-in_err-reply-clause-uncounted
returns-in_err-reply-clause-uncounted c = rw (← c.self.view_is) (rw c.in_ok-run.ensures at c.apply.ensures.uncounted)

pub returns-in_err-reply-clause-compared : goal.returns-in_err-reply-clause-compared
returns-in_err-reply-clause-compared c = c.apply.ensures.compared

pub returns-in_err-reply-clause-comparisons : goal.returns-in_err-reply-clause-comparisons
returns-in_err-reply-clause-comparisons c = rw (← c.self.view_is) (rw c.in_ok-run.ensures at c.apply.ensures.comparisons)

pub copy-requires : goal.copy-requires
copy-requires c = run_stands c.self.inside.run _ c.self.invariant.keeps

pub apply-requires : goal.apply-requires
apply-requires c = rw c.in_ok-run.ensures (run_stands c.self.inside.run _ c.self.invariant.keeps)

applied : (c : In_ok-reply) → IsApplied c.args.command c.self.inside.run c.in_ok-reply.reply c.apply.new.self
applied c = rw c.in_ok-run.ensures at c.in_ok-reply.ensures.ok

keeps : (c : In_ok-reply) → IsKeptDesk c.self.inside.run.scenario c.self.inside.run.timeline c.reserve.new.self.entries
keeps c = (parts_roomier _ _ _ _ c.self.invariant c.in_ok-reserve.ensures.same).keeps

pub of-requires : goal.of-requires
of-requires c =
    let at = (goal.at.of-requires c).In_ok-reply in
    kept_entered c.self.inside.run _ _ (entry_of c.args.caller c.args.command c.in_ok-reply.reply) (keeps at) (applied at)

made : (c : In_ok-reply) (p : Ready) →
    p ≡ ready_by c.apply.new.self.scenario c.apply.new.self.timeline c.reserve.new.self.entries
    (entry_of c.args.caller c.args.command c.in_ok-reply.reply)
    (seen_of (shown_by c.apply.new.self.scenario c.apply.new.self.timeline
    (c.reserve.new.self.entries ++ entry_of c.args.caller c.args.command c.in_ok-reply.reply ∷ []) 0)) →
    MakesReady c.args.caller c.args.command (shown_by c.self.inside.run.scenario c.self.inside.run.timeline c.reserve.new.self.entries c.reserve.new.self.spare) p
made c p same = subst (MakesReady _ _ _) (sym same) (makes_ready _ _ _ _ _ _ _ (keeps c) (applied c))

pub returns-clause-ok : goal.returns-clause-ok
returns-clause-ok c =
    IfOk-weaker c.of.result _ _
    (λ p same. ready_before c.args.caller c.args.command c.args.self.now _ p
    (rw (← c.self.view_is) (as_before c.self.inside.run.scenario c.self.inside.run.timeline _ _ c.in_ok-reserve.ensures.same))
    (made ((goal.at.returns-clause-ok c).In_ok-reply) p same))
    c.of.ensures

pub returns-clause-ready : goal.returns-clause-ready
returns-clause-ready c =
    IfOk-weaker c.of.result _ _ (λ p same. (made ((goal.at.returns-clause-ready c).In_ok-reply) p same).desk) c.of.ensures

pub returns-clause-room : goal.returns-clause-room
returns-clause-room c = IfOk-weaker c.of.result _ _ (λ _ _. c.in_ok-reserve.ensures.ok) c.of.ensures

pub returns-clause-before : goal.returns-clause-before
returns-clause-before c = rw (← c.self.view_is) (as_before c.self.inside.run.scenario c.self.inside.run.timeline _ _ c.reserve.ensures.same)

pub returns-clause-desk : goal.returns-clause-desk
returns-clause-desk c = is_desk _ _ _ _ (parts_roomier _ _ _ _ c.self.invariant c.reserve.ensures.same).keeps

pub returns-clause-counted : goal.returns-clause-counted
returns-clause-counted c =
    IfOk-weaker c.of.result _ _
    (λ p same stepped. c.in_ok-reply.ensures.counted (subst IsStepped (ap (λ (ready : Ready). ready.entry.reply) same) stepped)) c.of.ensures

pub returns-clause-at_most : goal.returns-clause-at_most
returns-clause-at_most c = rw (← c.self.view_is) (counts_alike c.self.inside.run c.self.inside.history.entries c.self.inside.history.spare c.args.command _ _ (rw c.in_ok-run.ensures at c.apply.ensures.at_most))

pub returns-clause-uncounted : goal.returns-clause-uncounted
returns-clause-uncounted c = rw (← c.self.view_is) (rw c.in_ok-run.ensures at c.apply.ensures.uncounted)

pub returns-clause-compared : goal.returns-clause-compared
returns-clause-compared c = c.apply.ensures.compared

pub returns-clause-comparisons : goal.returns-clause-comparisons
returns-clause-comparisons c = rw (← c.self.view_is) (rw c.in_ok-run.ensures at c.apply.ensures.comparisons)
