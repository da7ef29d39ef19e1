use Rattle.std.proofs.Common.{[], ◌++◌, ◌∙◌, ap, refl, subst}
use Rattle.std.proofs.lemmas.Result.{on_ok_weaker}
use Rattle.pf_answers.specs.Bad.{bad_text}
use Rattle.pf_vocabulary.specs.declared.options.format.Format.TheVariants.{Script}
use Rattle.pf_session.specs.Session.{behind_bad}
use Rattle.pf_session_lines.specs.declared.showing.Showing.TheVariants as showing
use Rattle.pf_session_lines.specs.declared.wanted.Wanted.TheVariants.{Report}
use Rattle.pf_session_turns.specs.Turns.{saved_text}
use Rattle.pf_session_turns.proofs.Both.{both_ok}
use Rattle.pf_session_turns.proofs.save.save_script.Goals as goal

pub returns-in-Text-clause-ok : goal.returns-in-Text-clause-ok
returns-in-Text-clause-ok g c =
    on_ok_weaker c.save_text.result (λ p. (
      showing.Text c.in-Text.script,
      saved_text c.args.session.now.manner.json c.args.file.now p.0,
      subst (λ y. g.V.Shows.shows (Report Script) c.args.session.now y) c.in-Text.is c.in_ok-script.ensures.shown,
      (
        p.0,
        subst (λ b. g.S.Saver.saves c.args.saver.now c.args.file.now b p.0 c.save_text.new.saver) c.deref.ensures.value p.1,
        refl,
        refl,
        c.show.ensures.same,
      ),
      p.2 ∙ ap (λ m. c.args.text.now.items ++ saved_text m.json c.args.file.now p.0) (c.manner-json.ensures ∙ ap (λ s. s.manner) c.show.ensures.same),
    ))
    c.save_text.ensures.ok

pub returns-in-Bad-clause-ok : goal.returns-in-Bad-clause-ok
returns-in-Bad-clause-ok g c =
    both_ok c.take_bad.result (λ session text. (
      showing.Bad c.in-Bad.words,
      bad_text c.args.session.now.manner 0 c.in-Bad.words.items [],
      subst (λ y. g.V.Shows.shows (Report Script) c.args.session.now y) c.in-Bad.is c.in_ok-script.ensures.shown,
      (refl, refl, session ∙ ap behind_bad c.show.ensures.same, refl),
      text ∙ ap (λ w. c.args.text.now.items ++ bad_text c.show.new.session.manner 0 w []) c.deref-in-Bad.ensures.value
          ∙ ap (λ s. c.args.text.now.items ++ bad_text s.manner 0 c.in-Bad.words.items []) c.show.ensures.same,
    ))
    c.take_bad.ensures.session c.take_bad.ensures.text
