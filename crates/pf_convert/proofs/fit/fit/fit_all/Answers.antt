use Rattle.std.proofs.Common.{◌∙◌, Some, subst}
use Rattle.std.proofs.lemmas.Result.{IfOk-weaker}
use Rattle.pf_convert.specs.Fit.Answers.{FitFor, IsFitOf}
use Rattle.pf_convert.specs.Outcomes.{IsShownQuantum}
use Rattle.pf_convert.proofs.fit.fit.fit_all.Goals as goal

pub returns-in-Some : goal.returns-in-Some
returns-in-Some c =
    let p = c.index-all-place.result in
    let f = c.args.file.now in
    let asked = c.args.asked.now in
    let format = c.args.format in
    let listed = c.args.listed.now in
    let all = c.args.all.now in
    IfOk-weaker c.fit_planned.result (FitFor f asked format listed all p p.plan) (IsFitOf f asked format listed all)
    (λ a shows. record {
      place = Some c.in-Some.place;
      is_shown = subst (λ os. IsShownQuantum asked.processors os c.in-Some.place) (c.deref.ensures.value ∙ c.in_ok-outcomes.ensures) c.in-Some.ensures.shown;
      shows = (p, c.index-all-place.is, shows);
    })
    c.fit_planned.ensures
