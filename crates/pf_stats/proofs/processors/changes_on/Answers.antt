use Rattle.std.proofs.Common.{ℕ, ◌+◌, cond, map, drop, nat_eq, ap, arith}
use Rattle.std.specs.Option.{option_eq}
use Rattle.pf_stats.specs.Processors.{changes_behind, task_on}
use Rattle.pf_stats.proofs.Using.{changes_first, changes_left, changes_over}
use Rattle.pf_stats.proofs.processors.changes_on.Goals as goal

pub loop-t-init : goal.loop-t-init
loop-t-init c =
    let rows = c.args.snapshot.now.rows in
    let p = c.args.processor in
    let first = changes_first p rows _ (omega (arith, c.row_count-slots.ensures, c.if-slots-eq0.false)) c.row_at.ensures.row in
    record {
      all = omega (arith, first, ap (λ x. changes_behind x (map (task_on p) (drop 1 rows))) c.task_on-before.ensures);
      most = omega arith;
    }

pub loop-t-preserved : goal.loop-t-preserved
loop-t-preserved c =
    let rows = c.args.snapshot.now.rows in
    let p = c.args.processor in
    let t = c.loop-t.t in
    let step = changes_left p c.loop-t.before rows t _ (omega arith) c.row_at-in-loop-t.ensures.row in
    let is = c.task_on-task.ensures in
    record {
      all = omega (
        arith,
        step,
        c.loop-t.invariant.all,
        c.one_if_other-changes.ensures,
        ap (λ x. changes_behind x (map (task_on p) (drop (t + 1) rows))) is,
        ap {B = ℕ} (λ x. cond (option_eq nat_eq c.loop-t.before x) 0 1) is,
      );
      most = grind (arith, c.loop-t.invariant.most, c.one_if_other-changes.ensures);
    }

pub returns : goal.returns
returns c =
    omega (
      arith,
      c.loop-t.invariant.all,
      changes_over c.args.processor c.loop-t.before c.args.snapshot.now.rows c.loop-t.t (omega (arith, c.row_count-slots.ensures)),
    )
