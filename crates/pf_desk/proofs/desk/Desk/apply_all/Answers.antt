use Rattle.std.proofs.Common.{◌≡◌, length, drop, All, sym, ap, ◌∙◌, subst, arith}
use Rattle.std.proofs.lemmas.List.{length-drop, take_rest}
use Rattle.std.proofs.lemmas.List.Elements.{All-drop}
use Rattle.std.proofs.lemmas.Result.{IfOk-from_err}
use Rattle.pf_desk.specs.declared.command.Command.TheVariants.{Step}
use Rattle.pf_desk.specs.Plain.{IsPlain, ArePlainFrom}
use Rattle.pf_desk.specs.Gathered.{AnswersFirst}
use Rattle.pf_desk.proofs.Gathering.{answers_then, plain_turn}
use Rattle.pf_desk.proofs.Metered.{all_later, counts_front}
use Rattle.pf_desk.proofs.desk.Desk.apply_all.Goals as goal

pub returns-in_err-done-clause-ok : goal.returns-in_err-done-clause-ok
returns-in_err-done-clause-ok c = IfOk-from_err _ _ c.from_residual.ensures.0

pub returns-in_err-done-clause-desk : goal.returns-in_err-done-clause-desk
returns-in_err-done-clause-desk c = c.apply_front.ensures.desk

pub returns-in_err-done-clause-compared : goal.returns-in_err-done-clause-compared
returns-in_err-done-clause-compared c = omega (arith, c.loop-done.invariant.compared, c.apply_front.ensures.compared)

pub loop-done-preserved : goal.loop-done-preserved
loop-done-preserved c =
    let i = c.loop-done.done in
    let k = c.in_ok-done.field-0 in
    let commands = c.args.commands.now in
    let rest = take_rest commands i in
    let front : AnswersFirst k c.args.caller (drop i commands) c.loop-done.self c.apply_front.new.self =
    subst (λ cs. AnswersFirst k c.args.caller cs c.loop-done.self c.apply_front.new.self) rest c.in_ok-done.ensures.ok in
    let later = all_later _ _ _ _ front.answers in
    record {
      within = omega (arith, front.within, length-drop i commands, c.loop-done-test.true);
      answered = answers_then c.args.caller commands i k _ _ _ c.loop-done.invariant.answered front;
      desk = c.apply_front.ensures.desk;
      counted = counts_front c.loop-done.self c.apply_front.new.self i k _ _ _ front.some later c.loop-done.invariant.counted
          c.apply_front.ensures.at_most;
      compared = omega arith;
      stepped = λ steps.
          let before = c.loop-done.invariant.stepped steps in
          let more = c.apply_front.ensures.steps (subst (All (λ c. c ≡ Step)) (sym rest) (All-drop (λ c. c ≡ Step) i commands steps)) in
          record {
            never_falls = omega (arith, before.never_falls, more.never_falls);
            at_most = omega (arith, before.at_most, more.at_most, front.some);
          };
      plain = λ s plain.
          plain_turn s c.args.self.now c.loop-done.self c.apply_front.new.self commands i k c.args.meter.now c.loop-done.meter c.apply_front.new.meter
          c.loop-done-test.true plain (c.loop-done.invariant.plain s plain)
          (λ t from. c.apply_front.ensures.plain t (subst (ArePlainFrom t c.loop-done.self.state) (sym rest) from))
          (λ all. c.in_ok-done.ensures.whole (subst (All IsPlain) (sym rest) all) ∙ ap length rest);
    }

pub returns-clause-err : goal.returns-clause-err
returns-clause-err c = tt

pub returns-clause-desk : goal.returns-clause-desk
returns-clause-desk c = c.loop-done.invariant.desk

pub returns-clause-compared : goal.returns-clause-compared
returns-clause-compared c = c.loop-done.invariant.compared
