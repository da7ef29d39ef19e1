use Rattle.std.proofs.Common.{ap, sym}
use Rattle.pf_cli.specs.declared.noting.Noting.{Noting}
use Rattle.pf_cli.proofs.RunNotes.{script_answered, text_answered}
use Rattle.pf_cli.proofs.versions.do_script.Goals as goal

pub returns-in-Some-clause-answers : goal.returns-in-Some-clause-answers
returns-in-Some-clause-answers g c =
    let hints = ap (λ (n : Noting). n.hints) c.of-noting.ensures in
    text_answered c.args.telling.notes c.args.task c.args.file.now c.args.script.now c.in-Some.made _ _ _ (rw hints at c.in-Some.ensures.made)
    (rw (sym c.with_notes.ensures.outcome) at c.write_answer-outcome.ensures.made)

pub returns-in-None-clause-answers : goal.returns-in-None-clause-answers
returns-in-None-clause-answers g c =
    let hints = ap (λ (n : Noting). n.hints) c.of-noting.ensures in
    script_answered c.args.telling.notes c.args.task c.args.file.now c.args.script.now _ _ _ (rw hints at c.in-None.ensures.made)
    (rw hints at c.do_version.ensures.answers)
