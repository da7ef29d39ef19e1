use Rattle.std.proofs.Common.{◌∙◌, List, ap₂, subst}
use Rattle.std.proofs.lemmas.Result.{IfOk-weaker}
use Rattle.pf_weight.specs.declared.task.TheConstants.{LARGEST_TASK}
use Rattle.pf_scenario.specs.declared.event.Numbered.{Numbered}
use Rattle.pf_tally.specs.Own.{AreDiaries}
use Rattle.pf_courses.specs.Built.{listings_by}
use Rattle.pf_courses.proofs.Ranked.{listings_are}
use Rattle.pf_courses.proofs.listings.listings.Goals as goal

pub returns : goal.returns
returns c =
    let s = c.args.scenario.now in
    let n = c.len.result in
    let own = c.in_ok-own.own in
    let denied = c.in_ok-denied.denied.items in
    let P : List Numbered → Type 0 = λ xs. AreDiaries xs own in
    let diaries = subst P (c.deref.ensures.value ∙ c.in_ok-held.ensures) c.in_ok-own.ensures in
    IfOk-weaker c.listings_with.result _ _
    (λ v h. h ∙ ap₂ (λ ds n. listings_by c.in_ok-courses.courses.items own ds n LARGEST_TASK) c.deref-2.ensures.value c.len.ensures
    ∙ listings_are s _ c.args.rows.now c.args.denials.now c.in_ok-courses.courses.items own denied diaries c.in_ok-denied.ensures c.in_ok-courses.ensures)
    c.listings_with.ensures
