use Rattle.std.proofs.Common.{◌∙◌, List, subst, sym}
use Rattle.std.proofs.lemmas.Result.{IfOk-weaker}
use Rattle.pf_scenario.specs.declared.event.Numbered.{Numbered}
use Rattle.pf_tally.specs.Own.{AreDiaries}
use Rattle.pf_picture.specs.Denials.{HaveRisingNumbers}
use Rattle.pf_picture.proofs.Noted.{drawings_are, denials_are}
use Rattle.pf_picture.proofs.drawings.drawings.Goals as goal

pub denials_by_task-requires : goal.denials_by_task-requires
denials_by_task-requires c =
    let P : List Numbered → Type 0 = HaveRisingNumbers in
    subst P (sym (c.deref-2.ensures.value ∙ c.in_ok-held.ensures)) c.now-now.ensures.of_run.scenario.rising

pub returns : goal.returns
returns c =
    let seen = c.args.snapshot.now in
    let own = c.in_ok-own.own in
    let P : List Numbered → Type 0 = λ xs. AreDiaries xs own in
    let diaries = subst P (c.deref.ensures.value ∙ c.in_ok-held.ensures) c.in_ok-own.ensures in
    let denials = denials_are seen _ _ c.in_ok-denied.denied (c.deref-2.ensures.value ∙ c.in_ok-held.ensures) c.denials.ensures c.in_ok-denied.ensures in
    IfOk-weaker c.drawings_by.result _ _
    (λ v h. h ∙ drawings_are seen c.args.names.now c.in_ok-listed.listed.items own c.in_ok-denied.denied c.now-now.result diaries denials c.in_ok-listed.ensures c.now-now.ensures.value)
    c.drawings_by.ensures
