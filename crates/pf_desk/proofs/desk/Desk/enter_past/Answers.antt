use Rattle.std.proofs.Common.{refl, le_refl}
use Rattle.std.proofs.lemmas.Result.{IfOk-from_err, MatchResult-from_err}
use Rattle.pf_desk.specs.Kept.{shown_by}
use Rattle.pf_desk.specs.Gathered.{IsBatch}
use Rattle.pf_desk.proofs.Entering.{is_desk, parts_roomier, as_before}
use Rattle.pf_desk.proofs.Metered.{counts_replayed}
use Rattle.pf_desk.proofs.Applying.{reaches_rewritten}
use Rattle.pf_desk.proofs.Gathering.{batch_parts, batch_agrees, batch_took_none}
use Rattle.pf_desk.proofs.desk.Desk.enter_past.Goals as goal

pub rewritten-requires-clause-agrees : goal.rewritten-requires-clause-agrees
rewritten-requires-clause-agrees c =
    let d = shown_by c.self.inside.run.scenario c.self.inside.run.timeline c.self.inside.history.entries c.self.inside.history.spare in
    let batch : IsBatch d c.args.batch.now = rw (← c.self.view_is) at c.requires.batch in
    batch_agrees _ _ _ _ c.args.batch.now c.self.invariant.keeps batch

pub returns-in_err-timeline-clause-ok : goal.returns-in_err-timeline-clause-ok
returns-in_err-timeline-clause-ok c = IfOk-from_err _ _ c.from_residual.ensures.0

pub returns-in_err-timeline-clause-err : goal.returns-in_err-timeline-clause-err
returns-in_err-timeline-clause-err c = MatchResult-from_err _ _ _ c.from_residual.ensures.0 (λ _. record { rest = refl; room = le_refl _ })

pub returns-in_err-timeline-clause-desk : goal.returns-in_err-timeline-clause-desk
returns-in_err-timeline-clause-desk c = rw (← c.self.view_is) (is_desk _ _ _ _ c.self.invariant.keeps)

pub returns-in_err-timeline-clause-at_most : goal.returns-in_err-timeline-clause-at_most
returns-in_err-timeline-clause-at_most c =
    rw (← c.self.view_is)
    (counts_replayed _ _ _ _ _ _ (rw (← c.self.view_is) at c.requires.below) c.rewritten.ensures.at_most c.rewritten.ensures.close c.self.invariant.keeps.near c.rewritten.ensures.within)

pub returns-in_err-timeline-clause-compared : goal.returns-in_err-timeline-clause-compared
returns-in_err-timeline-clause-compared c = c.rewritten.ensures.compared

pub enter_all-requires : goal.enter_all-requires
enter_all-requires c = rw c.deref.ensures.value (batch_took_none c.args.self.now c.args.batch.now c.requires.batch)

pub invariant_of-self : goal.invariant_of-self
invariant_of-self c = parts_roomier _ _ _ _ c.self.invariant c.in_err-enter_all.ensures.err

pub returns-in_err-enter_all-clause-ok : goal.returns-in_err-enter_all-clause-ok
returns-in_err-enter_all-clause-ok c = IfOk-from_err _ _ c.from_residual-in_err-enter_all.ensures.0

pub returns-in_err-enter_all-clause-err : goal.returns-in_err-enter_all-clause-err
returns-in_err-enter_all-clause-err c =
    MatchResult-from_err _ _ _ c.from_residual-in_err-enter_all.ensures.0 (λ _. rw (← c.self.view_is) (as_before c.self.inside.run.scenario c.self.inside.run.timeline _ _ c.in_err-enter_all.ensures.err))

pub returns-in_err-enter_all-clause-desk : goal.returns-in_err-enter_all-clause-desk
returns-in_err-enter_all-clause-desk c = is_desk _ _ _ _ (invariant_of-self c).keeps

pub returns-in_err-enter_all-clause-at_most : goal.returns-in_err-enter_all-clause-at_most
returns-in_err-enter_all-clause-at_most c =
    rw (← c.self.view_is)
    (counts_replayed _ _ _ _ _ _ (rw (← c.self.view_is) at c.requires.below) c.rewritten.ensures.at_most c.rewritten.ensures.close c.self.invariant.keeps.near c.rewritten.ensures.within)

pub returns-in_err-enter_all-clause-compared : goal.returns-in_err-enter_all-clause-compared
returns-in_err-enter_all-clause-compared c = c.rewritten.ensures.compared

pub invariant_of-self-2 : goal.invariant_of-self-2
invariant_of-self-2 c =
    let d = shown_by c.self.inside.run.scenario c.self.inside.run.timeline c.self.inside.history.entries c.self.inside.history.spare in
    let batch : IsBatch d c.args.batch.now = rw (← c.self.view_is) at c.requires.batch in
    rw c.swap.ensures.x_after
    (batch_parts c.self.inside.run.scenario c.self.inside.run.timeline c.in_ok-timeline.timeline c.self.inside.history _ _ c.args.batch.now
    (record {
      is = c.self.invariant.keeps;
      batch = batch;
      stands = c.in_ok-timeline.ensures.stands;
      near = reaches_rewritten _ _ _ _ c.self.invariant.keeps.near c.in_ok-timeline.ensures.near c.in_ok-timeline.ensures.stands.slots;
      every = c.in_ok-timeline.ensures.every;
    })
    c.self.invariant.processors (rw c.deref.ensures.value at c.in_ok-enter_all.ensures.ok))

pub returns-clause-err : goal.returns-clause-err
returns-clause-err c = tt

pub returns-clause-desk : goal.returns-clause-desk
returns-clause-desk c = is_desk _ _ _ _ (invariant_of-self-2 c).keeps

pub returns-clause-at_most : goal.returns-clause-at_most
returns-clause-at_most c =
    rw (← c.self.view_is)
    (counts_replayed _ _ _ _ _ _ (rw (← c.self.view_is) at c.requires.below) c.rewritten.ensures.at_most c.rewritten.ensures.close c.self.invariant.keeps.near c.rewritten.ensures.within)

pub returns-clause-compared : goal.returns-clause-compared
returns-clause-compared c = c.rewritten.ensures.compared
