use Rattle.std.proofs.Common.{List, ℕ, arith, get_or, inl, inr, length, subst, sym}
use Rattle.std.proofs.lemmas.List.{drop_all, drop_more}
use Rattle.pf_stream.specs.Dialogue.Answered.{AnswersFront, AnswersTo}
use Rattle.pf_stream.specs.declared.dialogue.answers.Going.TheVariants.{On, Ends}
use Rattle.pf_stream.proofs.DialogueLemmas.Answering.{front_byte, midway_front, midway_full, midway_step, midway_stop, midway_whole}
use Rattle.pf_stream.proofs.DialogueLemmas.Fronts.{front_lines}
use Rattle.pf_stream.proofs.dialogue.lines.take_bytes.Goals as goal

pub loop-at-preserved : goal.loop-at-preserved
loop-at-preserved g c =
    let took = rw c.in-Ok-On.field-0-is at c.in-Ok-On.ensures.ok in
    record {
      midway = midway_step _ _ _ _ _ _ _ _ _ _ _ _ _ c.loop-at.invariant.midway (drop_more c.args.bytes.now c.loop-at.at 0 c.loop-at-test.true) took;
      front = front_byte g.A.Answers.answers c.loop-at.answers c.loop-at.line.items (get_or c.args.bytes.now c.loop-at.at 0) c.loop-at.text.items On
          c.take_byte.new.answers c.take_byte.new.line.items c.take_byte.new.text.items took c.loop-at.invariant.front;
      short = omega (arith, c.len.ensures, c.if-len-gt-TEXT_HELD.false);
    }

pub returns-then-len-gt-TEXT_HELD-clause-ok : goal.returns-then-len-gt-TEXT_HELD-clause-ok
returns-then-len-gt-TEXT_HELD-clause-ok g c =
    inr (midway_full _ _ _ _ _ _ _ _ _ _ _ _ _ c.loop-at.invariant.midway (drop_more c.args.bytes.now c.loop-at.at 0 c.loop-at-test.true)
    (rw c.in-Ok-On.field-0-is at c.in-Ok-On.ensures.ok) c.loop-at.invariant.short (omega (arith, c.len.ensures, c.if-len-gt-TEXT_HELD.true)) c.requires.front)

pub returns-in-Ok-Ends-clause-ok : goal.returns-in-Ok-Ends-clause-ok
returns-in-Ok-Ends-clause-ok g c =
    subst (λ (ls : List (List ℕ)). AnswersTo g.A.Answers.answers c.args.answers.now ls c.take_byte.new.text.items Ends c.take_byte.new.answers)
    (sym (front_lines c.args.line.now.items c.args.bytes.now c.requires.front))
    (midway_stop _ _ _ _ _ _ _ _ _ _ _ _ _ c.loop-at.invariant.midway (drop_more c.args.bytes.now c.loop-at.at 0 c.loop-at-test.true)
    (rw c.in-Ok-Ends.field-0-is at c.in-Ok-Ends.ensures.ok) c.loop-at.invariant.short)

pub returns-in-Err-clause-err : goal.returns-in-Err-clause-err
returns-in-Err-clause-err g c =
    subst (λ (ls : List (List ℕ)). AnswersFront g.A.Answers.answers g.A.Answers.stops c.args.answers.now ls c.take_byte.new.text.items c.take_byte.new.answers)
    (sym (front_lines c.args.line.now.items c.args.bytes.now c.requires.front))
    (midway_front _ _ _ _ _ _ _ _ _ _ _ c.loop-at.invariant.midway c.in-Err.ensures.stop c.in-Err.ensures.err c.loop-at.invariant.short)

pub returns-clause-ok : goal.returns-clause-ok
returns-clause-ok g c =
    inl (midway_whole _ _ _ _ _ _ _ _ _ c.loop-at.invariant.midway (drop_all c.loop-at.at c.args.bytes.now c.loop-at-test.false)
    (drop_all (length c.args.bytes.now) c.args.bytes.now (omega arith)) c.loop-at.invariant.short
    c.requires.front c.loop-at.invariant.front)
