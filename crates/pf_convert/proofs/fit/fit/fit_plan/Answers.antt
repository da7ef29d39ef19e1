use Rattle.std.proofs.Common.{◌≤◌, ◌∙◌, List, Result, length, refl, sym, ap, subst}
use Rattle.std.specs.Prelude.{All, IfOk}
use Rattle.std.proofs.lemmas.List.{length-map}
use Rattle.std.proofs.lemmas.Result.{IfOk-weaker}
use Rattle.pf_vocabulary.specs.declared.fault.answer.Answer.{Answer}
use Rattle.pf_vocabulary.specs.declared.options.fit_format.FitFormat.{FitFormat}
use Rattle.pf_convert.specs.declared.conversion.list_file.ListFile.{ListFile}
use Rattle.pf_convert.specs.declared.conversion.planned.Planned.{Planned}
use Rattle.pf_convert.specs.declared.fit.shown.Shown.{Shown}
use Rattle.pf_convert.specs.declared.list.listed.Listed.{Listed}
use Rattle.pf_convert.specs.declared.plan.Plan.{Plan}
use Rattle.pf_convert.specs.declared.words.conversion.Conversion.{Conversion}
use Rattle.pf_convert.specs.Conversion.Series.{outcome_of}
use Rattle.pf_convert.specs.Fit.Answers.{AreShownTasks, IsPlanFit, IsShownOf, IsWritten, fit_status, fit_text, is_given, processors_for}
use Rattle.pf_convert.specs.Fit.Exactness.{exactness_of}
use Rattle.pf_convert.specs.Fit.Shown.{IsShownTask, is_fit}
use Rattle.pf_convert.specs.Margins.Margins.{IsMarginsOf}
use Rattle.pf_convert.proofs.FitLemmas.Showing.{few_processors, needed_given, shown_tasks_are, times_timed}
use Rattle.pf_convert.proofs.fit.fit.fit_plan.Goals as goal

pub of-requires-clause-timed : goal.of-requires-clause-timed
of-requires-clause-timed c = times_timed c.args.listed.now c.deref.result.now (c.deref.ensures.value ∙ c.in_ok-times.ensures) c.requires.timed

pub shown_answer-requires-clause-shown : goal.shown_answer-requires-clause-shown
shown_answer-requires-clause-shown c = record {
  few = subst (λ n. n ≤ 64) (sym c.processors_for-processors.ensures) (few_processors c.args.asked.now.processors c.unwrap_or-needed.result c.requires.asked.few);
  quantum = c.requires.quantum;
  plan = c.requires.plan;
  needed = c.in_ok-margins.ensures.needed;
  tasks =
      subst (All IsShownTask) (sym c.deref-3.ensures.value)
      (shown_tasks_are c.args.listed.now c.args.plan.now c.in_ok-margins.margins.tasks.items c.in_ok-tasks.tasks.items c.requires.timed c.requires.plan
      c.requires.as_many c.in_ok-tasks.ensures);
}

-- what is shown and is written
plan_fit : {E : Type 0} (f : ListFile) (asked : Conversion) (format : FitFormat) (listed : List Listed) (all : List Planned) (p : Planned) (plan : Plan) (s : Shown)
    (r : Result Answer E) → IsShownOf f asked listed (length all) p plan s → IfOk r (IsWritten (fit_text format s all) (fit_status (is_fit s)))
    → IfOk r (IsPlanFit f asked format listed all p plan)
plan_fit f asked format listed all p plan s r is written =
    IfOk-weaker r (IsWritten (fit_text format s all) (fit_status (is_fit s))) (IsPlanFit f asked format listed all p plan)
    (λ a w. record { shown = s; is_shown = is; written = w }) written

pub returns : goal.returns
returns c =
    let asked = c.args.asked.now in
    let listed = c.args.listed.now in
    let plan = c.args.plan.now in
    let margins = c.in_ok-margins.margins in
    let quantum = c.args.planned.now.quantum in
    let processors = c.processors_for-processors.result in
    let same_times = c.deref.ensures.value ∙ c.in_ok-times.ensures in
    let same_tasks = sym c.deref-3.ensures.value in
    plan_fit c.args.file.now asked c.args.format listed c.args.all.now c.args.planned.now plan _ c.shown_answer.result
    (record {
      file = refl;
      unit = refl;
      terms = c.terms_of.ensures;
      given = c.is_given.ensures ∙ ap is_given c.all.ensures.all;
      counted = ap length c.requires.outcomes ∙ length-map c.args.all.now outcome_of;
      quantum = refl;
      processors =
          c.processors_for-processors.ensures
          ∙ ap (processors_for asked.processors) (c.unwrap_or-needed.ensures ∙ needed_given plan.base plan.load margins.processors c.args.planned.now.needed c.requires.needed c.in_ok-margins.ensures.needed);
      is_plan = refl;
      margins = subst (λ times. IsMarginsOf processors quantum times plan margins) same_times c.in_ok-margins.ensures;
      tasks_listed = refl;
      tasks = subst (AreShownTasks listed plan.tasks.items margins.tasks.items) same_tasks c.in_ok-tasks.ensures;
      exactness = c.of-2.ensures ∙ ap (exactness_of asked.arrivals quantum.length plan.exact) (c.deref-2.ensures.value ∙ same_tasks);
    })
    c.shown_answer.ensures
