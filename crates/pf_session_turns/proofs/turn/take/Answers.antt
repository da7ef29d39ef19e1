use Rattle.std.proofs.Common.{refl, subst, sym}
use Rattle.pf_stream.specs.declared.dialogue.answers.Going.TheVariants.{On}
use Rattle.pf_session_turns.specs.Turns.{GoesOn, Saves, showing_answer}
use Rattle.pf_session_turns.proofs.turn.take.Goals as goal

pub returns-in_ok-tell_wanted-in-Shown-clause-ok : goal.returns-in_ok-tell_wanted-in-Shown-clause-ok
returns-in_ok-tell_wanted-in-Shown-clause-ok g c =
    let told = c.in_ok-tell_wanted-in-Shown.ensures.ok in
    let answer = showing_answer c.args.session.now.manner c.in-Shown.wanted told.0 in (
      answer,
      subst (λ h. GoesOn g.V.Shows.shows g.S.Saver.saves c.args.session.now c.args.saver.now h On answer c.tell_wanted.new.session c.args.saver.now) (sym c.in-Shown.is)
          (told.0, told.1, (refl, refl, told.2, refl)),
      told.3,
    )

pub returns-in_ok-save_script-in-Save-clause-ok : goal.returns-in_ok-save_script-in-Save-clause-ok
returns-in_ok-save_script-in-Save-clause-ok g c =
    let saved = c.in_ok-save_script-in-Save.ensures.ok in (
      saved.1,
      subst (λ h. GoesOn g.V.Shows.shows g.S.Saver.saves c.args.session.now c.args.saver.now h On saved.1 c.save_script.new.session c.save_script.new.saver) (sym c.in-Save.is) (
        saved.0,
        saved.2,
        subst (λ f. Saves g.S.Saver.saves c.args.session.now c.args.saver.now f saved.0 On saved.1 c.save_script.new.session c.save_script.new.saver)
            c.as_slice-in-Save.ensures saved.3,
      ),
      saved.4,
    )
