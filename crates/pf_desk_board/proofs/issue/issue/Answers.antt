use Rattle.std.proofs.Common.{ap, sym, ◌∙◌, arith}
use Rattle.pf_desk_board.proofs.Issuing.{issuable, same_but, left_after, empty_after, from_idle}
use Rattle.pf_desk_board.proofs.issue.issue.Goals.{in-Some, in_default}
use Rattle.pf_desk_board.proofs.issue.issue.Goals as goal

pub issue-requires-clause-fits : goal.issue-requires-clause-fits
issue-requires-clause-fits c =
    let l = c.loop-processor in
    (issuable c.args.processors c.args.slot l.processor c.args.row.now c.in-Some.field-0 c.args.keeper.now l.keeper c.requires.awaits c.loop-processor-test.true c.in-Some.ensures l.invariant.left (ap (λ k. k.seen) l.invariant.keeper)).fits

pub issue-requires-clause-unissued : goal.issue-requires-clause-unissued
issue-requires-clause-unissued c =
    let l = c.loop-processor in
    (issuable c.args.processors c.args.slot l.processor c.args.row.now c.in-Some.field-0 c.args.keeper.now l.keeper c.requires.awaits c.loop-processor-test.true c.in-Some.ensures l.invariant.left (ap (λ k. k.seen) l.invariant.keeper)).unissued

pub loop-processor-preserved : goal.loop-processor-preserved
loop-processor-preserved c =
    let l = c.loop-processor in
    let inv = l.invariant in
    let k' = c.match-get.keeper in
    elim c.match-get.branch [
      | in-Some w ↦
          let after = w.keeper-is ∙ w.issue.ensures in record {
            left = left_after c.args.processors c.args.slot l.processor c.args.row.now w.in-Some.field-0 l.keeper k' c.requires.awaits.places c.loop-processor-test.true w.in-Some.ensures inv.left (ap (λ k. k.left) after);
            keeper = same_but c.args.keeper.now l.keeper k' _ _ inv.keeper after;
            empty = empty_after c.args.processors l.processor l.keeper k' inv.empty (ap (λ k. k.empty) after);
          }
      | in_default w ↦ record {
        left = ap (λ k. k.left) w.keeper-is ∙ (inv.left ∙ from_idle c.args.slot l.processor c.args.row.now (omega (arith, c.requires.awaits.places, c.loop-processor-test.true)) (sym c.get.ensures ∙ w.in_default.is));
        keeper = same_but c.args.keeper.now l.keeper k' _ _ inv.keeper w.keeper-is;
        empty = λ p le lt. rw w.keeper-is (inv.empty p (omega arith) lt);
      }
    ]
