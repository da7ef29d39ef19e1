use Rattle.std.proofs.Common.{List, [], ℕ, Err, refl, subst}
use Rattle.pf_stream.specs.Dialogue.Ahead.{ahead_of}
use Rattle.pf_stream.specs.Dialogue.Lines.{last_line, lines_in}
use Rattle.pf_stream.specs.Dialogue.Sits.{IsTold, talk_of}
use Rattle.pf_stream.proofs.DialogueLemmas.Rounds.{ahead_some, at_end, at_more, cut_round, go_round, last_some}
use Rattle.pf_stream.proofs.dialogue.sitting.hold_round.Goals as goal

pub returns-in-Err-tell_answers-clause-round : goal.returns-in-Err-tell_answers-clause-round
returns-in-Err-tell_answers-clause-round g c =
    let more = c.in-Ok.ensures.ok in
    cut_round (talk_of g.A.Answers.answers g.A.Answers.stops g.A.Answers.keeps g.A.Answers.loses g.D.Dialogue.hears g.D.Dialogue.is_deaf g.D.Dialogue.tells g.D.Dialogue.is_mute)
    c.args.answers.now c.args.dialogue.now (ahead_of c.args.ahead.now) more.came c.hear.new.dialogue (last_line (ahead_of c.hear.new.self))
    c.take_last-going.new.text.items c.take_last-going.new.answers c.take_last-going.result c.in-Err-tell_answers.fault c.tell_answers.new.answers
    c.tell_answers.new.dialogue more.heard (at_end _ _ more.came more.ahead (more.end c.if-ends.true))
    (last_some g.A.Answers.answers g.A.Answers.stops c.args.answers.now (ahead_of c.hear.new.self) c.take_last-going.new.text.items
    c.take_last-going.new.answers c.take_last-going.result c.take_last-going.ensures.ok c.take_last-going.ensures.err)
    (subst (λ (t : List ℕ). IsTold
    (talk_of g.A.Answers.answers g.A.Answers.stops g.A.Answers.keeps g.A.Answers.loses g.D.Dialogue.hears g.D.Dialogue.is_deaf g.D.Dialogue.tells g.D.Dialogue.is_mute)
    c.take_last-going.result c.take_last-going.new.answers c.hear.new.dialogue t (Err c.in-Err-tell_answers.fault) c.tell_answers.new.answers c.tell_answers.new.dialogue)
    c.deref.ensures.value c.in-Err-tell_answers.ensures.told)

pub returns-in-Ok-On-clause-round : goal.returns-in-Ok-On-clause-round
returns-in-Ok-On-clause-round g c =
    let more = c.in-Ok.ensures.ok in
    let told = rw (c.in-Ok-On.field-0-is, c.deref-2.ensures.value) at c.in-Ok-On.ensures.told in (
      record { came = more.came; text = c.take-going.new.text.items; left = ahead_of c.take-going.new.self },
      go_round (talk_of g.A.Answers.answers g.A.Answers.stops g.A.Answers.keeps g.A.Answers.loses g.D.Dialogue.hears g.D.Dialogue.is_deaf g.D.Dialogue.tells g.D.Dialogue.is_mute)
          c.args.answers.now c.args.dialogue.now (ahead_of c.args.ahead.now) more.came c.hear.new.dialogue (ahead_of c.hear.new.self)
          c.take-going.new.text.items c.take-going.new.answers (ahead_of c.take-going.new.self) c.take-going.result c.tell_answers-2.new.answers
          c.tell_answers-2.new.dialogue more.heard more.ahead c.take-going.ensures.ok told,
      refl,
    )

pub returns-in-Err-tell_answers-2-clause-round : goal.returns-in-Err-tell_answers-2-clause-round
returns-in-Err-tell_answers-2-clause-round g c =
    let more = c.in-Ok.ensures.ok in
    cut_round (talk_of g.A.Answers.answers g.A.Answers.stops g.A.Answers.keeps g.A.Answers.loses g.D.Dialogue.hears g.D.Dialogue.is_deaf g.D.Dialogue.tells g.D.Dialogue.is_mute)
    c.args.answers.now c.args.dialogue.now (ahead_of c.args.ahead.now) more.came c.hear.new.dialogue (lines_in [] (ahead_of c.hear.new.self))
    c.take-going.new.text.items c.take-going.new.answers c.take-going.result c.in-Err-tell_answers-2.fault c.tell_answers-2.new.answers
    c.tell_answers-2.new.dialogue more.heard (at_more _ _ more.came more.ahead (more.more c.if-ends.false))
    (ahead_some g.A.Answers.answers g.A.Answers.stops c.args.answers.now (ahead_of c.hear.new.self) c.take-going.new.text.items
    c.take-going.new.answers (ahead_of c.take-going.new.self) c.take-going.result c.take-going.ensures.ok c.take-going.ensures.err)
    (subst (λ (t : List ℕ). IsTold
    (talk_of g.A.Answers.answers g.A.Answers.stops g.A.Answers.keeps g.A.Answers.loses g.D.Dialogue.hears g.D.Dialogue.is_deaf g.D.Dialogue.tells g.D.Dialogue.is_mute)
    c.take-going.result c.take-going.new.answers c.hear.new.dialogue t (Err c.in-Err-tell_answers-2.fault) c.tell_answers-2.new.answers c.tell_answers-2.new.dialogue)
    c.deref-2.ensures.value c.in-Err-tell_answers-2.ensures.told)
