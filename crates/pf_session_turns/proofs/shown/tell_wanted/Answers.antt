use Rattle.std.proofs.Common.{[], ◌++◌, ◌∙◌, ap, ap₂, refl, subst}
use Rattle.std.proofs.lemmas.Result.{on_ok_weaker}
use Rattle.pf_answers.specs.Bad.{bad_text}
use Rattle.pf_answers.specs.Shown.{shown_text}
use Rattle.pf_session.specs.Session.{behind_bad}
use Rattle.pf_session_lines.specs.Values.{is_value}
use Rattle.pf_session_lines.specs.declared.showing.Showing.TheVariants as showing
use Rattle.pf_session_turns.proofs.Both.{both_ok}
use Rattle.pf_session_turns.proofs.shown.tell_wanted.Goals as goal

pub returns-in-Text-clause-ok : goal.returns-in-Text-clause-ok
returns-in-Text-clause-ok g c =
    on_ok_weaker c.tell_shown.result (λ text. (
      showing.Text c.in-Text.shown,
      subst (λ y. g.V.Shows.shows c.args.wanted.now c.args.session.now y) c.in-Text.is c.in_ok-shown.ensures.shown,
      c.show.ensures.same,
      text ∙ ap₂ (λ v t. c.args.text.now.items ++ shown_text c.show.new.session.manner.json v t) c.is_value.ensures c.deref.ensures.value
          ∙ ap (λ s. c.args.text.now.items ++ shown_text s.manner.json (is_value c.args.wanted.now) c.in-Text.shown.items) c.show.ensures.same,
    ))
    c.tell_shown.ensures.text

pub returns-in-Bad-clause-ok : goal.returns-in-Bad-clause-ok
returns-in-Bad-clause-ok g c =
    both_ok c.take_bad.result (λ session text. (
      showing.Bad c.in-Bad.words,
      subst (λ y. g.V.Shows.shows c.args.wanted.now c.args.session.now y) c.in-Bad.is c.in_ok-shown.ensures.shown,
      session ∙ ap behind_bad c.show.ensures.same,
      text ∙ ap (λ w. c.args.text.now.items ++ bad_text c.show.new.session.manner 0 w []) c.deref-in-Bad.ensures.value
          ∙ ap (λ s. c.args.text.now.items ++ bad_text s.manner 0 c.in-Bad.words.items []) c.show.ensures.same,
    ))
    c.take_bad.ensures.session c.take_bad.ensures.text
