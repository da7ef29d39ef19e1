use Rattle.std.proofs.Common.{◌≡◌, ◌∙◌, ap, ap₂, sym, cond, None, Some, true, false}
use Rattle.std.specs.Option.{is_some}
use Rattle.std.proofs.lemmas.Bool.{le-leb}
use Rattle.pf_scenario.specs.Event.{is_leave_of}
use Rattle.pf_run.specs.Inside.{Joined, has_left}
use Rattle.pf_why.specs.Ranking.{may_run, next_by}
use Rattle.pf_why.proofs.Candidates.{found_any}
use Rattle.pf_why.proofs.ranking.candidate.Goals as goal

pub returns-then-is_some : goal.returns-then-is_some
returns-then-is_some c =
    let next = next_by c.args.task c.args.ran.now c.args.events.now c.args.t in
    let left : has_left c.args.events.now c.task.inside.task ≡ true =
    sym (found_any (λ x. is_leave_of c.task.inside.task x.event) c.args.events.now)
    ∙ ap is_some (sym c.leave_of.ensures) ∙ sym c.is_some.ensures ∙ c.if-is_some.true in
    let same = ap (λ (j : Joined). has_left c.args.events.now j.task) c.task.view_is in
    sym (ap (λ b. cond b None (cond (may_run c.args.t next) (Some next) None)) (sym same ∙ left))

pub returns-then-next-t : goal.returns-then-next-t
returns-then-next-t c =
    let next = next_by c.args.task c.args.ran.now c.args.events.now c.args.t in
    let left : has_left c.args.events.now c.task.inside.task ≡ false =
    sym (found_any (λ x. is_leave_of c.task.inside.task x.event) c.args.events.now)
    ∙ ap is_some (sym c.leave_of.ensures) ∙ sym c.is_some.ensures ∙ c.if-is_some.false in
    let same = ap (λ (j : Joined). has_left c.args.events.now j.task) c.task.view_is in
    ap Some c.in_ok-next.ensures
    ∙ sym (ap₂ (λ b m. cond b None (cond m (Some next) None)) (sym same ∙ left)
    (ap (may_run c.args.t) (sym c.in_ok-next.ensures) ∙ le-leb c.in_ok-next.next.first c.args.t c.if-next-t.true))
