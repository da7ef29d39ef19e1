use Rattle.std.proofs.Common.{None, subst, sym}
use Rattle.pf_vocabulary.specs.declared.names.titles.Titles.{Titles}
use Rattle.pf_plain_script.specs.Plain.{plain}
use Rattle.pf_cli.specs.Ends.{IsTextBy}
use Rattle.pf_cli.proofs.RunNotes.{own_answered, own_text, plan_answered, plan_text}
use Rattle.pf_cli.proofs.versions.do_version.Goals as goal

pub end_with_notes-requires-clause-carried : goal.end_with_notes-requires-clause-carried
end_with_notes-requires-clause-carried g c =
    let made = rw c.in-Ok-Some.field-0-is at c.in-Ok-Some.ensures in
    rw (c.deref.ensures.value, c.as_slice-origins.ensures.value) (plan_text (plain c.args.script.now) c.in-Ok-Some.plain c.args.script.now made)

pub end_with_notes-requires-in-Ok-None-clause-carried : goal.end_with_notes-requires-in-Ok-None-clause-carried
end_with_notes-requires-in-Ok-None-clause-carried g c =
    let made = rw c.in-Ok-None.field-0-is at c.in-Ok-None.ensures in
    subst (λ (t : Titles). IsTextBy (plain c.args.script.now) c.args.script.now c.args.script.now None t.names) (sym c.none-titles.ensures)
    (own_text (plain c.args.script.now) c.args.script.now made)

pub returns-in-Ok-None-clause-answers : goal.returns-in-Ok-None-clause-answers
returns-in-Ok-None-clause-answers g c =
    own_answered c.args.noting.hints c.args.task c.args.file.now c.args.script.now c.none-titles.result _ _ _ _ (rw c.in-Ok-None.field-0-is at c.in-Ok-None.ensures)
    c.none-titles.ensures c.do_task-end.ensures.answers c.end_with_notes-in-Ok-None.ensures.outcome

pub returns-in-Ok-Some-clause-answers : goal.returns-in-Ok-Some-clause-answers
returns-in-Ok-Some-clause-answers g c =
    plan_answered c.args.noting.hints c.args.task c.args.file.now c.args.script.now c.in-Ok-Some.plain _ _ _ _ c.requires.carried
    (rw c.in-Ok-Some.field-0-is at c.in-Ok-Some.ensures) c.do_plain-end.ensures.answers c.end_with_notes.ensures.outcome
