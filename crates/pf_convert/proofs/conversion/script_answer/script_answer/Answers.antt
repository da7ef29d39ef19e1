use Rattle.std.proofs.Common.{◌∙◌, Some, subst}
use Rattle.std.proofs.lemmas.Result.{IfOk-weaker}
use Rattle.pf_convert.specs.Conversion.Answers.{IsScriptAnswer, ScriptFor}
use Rattle.pf_convert.specs.Outcomes.{IsShownQuantum}
use Rattle.pf_convert.proofs.conversion.script_answer.script_answer.Goals as goal

pub returns-in-Some : goal.returns-in-Some
returns-in-Some c =
    let p = c.index-all-place.result in
    let f = c.args.file.now in
    let terms = c.args.terms in
    let tasks = c.args.tasks.now in
    IfOk-weaker c.quantum_answer.result (ScriptFor f terms c.tried_of-tried.result tasks p p.plan p.needed)
    (IsScriptAnswer f terms c.args.quanta.now tasks c.args.all.now)
    (λ a shows. record {
      place = Some c.in-Some.place;
      is_shown = subst (λ os. IsShownQuantum terms.processors os c.in-Some.place) (c.deref.ensures.value ∙ c.in_ok-outcomes.ensures) c.in-Some.ensures.shown;
      shows = (p, c.index-all-place.is, subst (λ tried. ScriptFor f terms tried tasks p p.plan p.needed a) c.tried_of-tried.ensures shows);
    })
    c.quantum_answer.ensures
