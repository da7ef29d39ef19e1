use Rattle.std.proofs.Common.{◌≡◌, ◌∙◌, ap}
use Rattle.pf_session.specs.Session.{SessionState}
use Rattle.pf_cli.proofs.Journals.{has_sat_on, still_prompts}
use Rattle.pf_cli.proofs.kept_desk.sit_noted.Goals as goal
use Rattle.pf_cli.proofs.kept_desk.sit_noted.Goals.{then-prompts, else-prompts}

pub returns : goal.returns
returns g c =
    let are : g.F.Sink.failed c.tell_text.new.faults ≡ c.failures-failed.result → c.if-prompts.prompted ≡ c.args.prompts =
    elim c.if-prompts.branch [
      | then-prompts w ↦ still_prompts _ _ _ w.failures.result _ w.if-prompts.true w.prompted-is w.failures.ensures
      | else-prompts w ↦ λ same. w.prompted-is
    ] in
    has_sat_on _ _ _ _ c.args.path.now c.as_bytes.result.now c.args.notes c.args.made.now.recorder c.hold-going.new.answers c.args.made.now.note.items
    c.deref.result.now c.args.prompts c.if-prompts.prompted c.hold-going.ensures.0 _ c.is_closed.result c.has_bad-has_bad.result c.fault.result c.failures-failed.result
    c.end_sat.result c.hold-going.result c.outcome_kept-outcome.result _ _ _ _ _ _ _ _ _ _ _ _ _ (g.F.Sink.failed c.tell_text.new.faults) _ _
    c.failures-failed.ensures c.deref.ensures.value c.tell_text.ensures.told are c.hold-going.ensures.1
    (c.has_bad-has_bad.ensures ∙ ap (λ (s : SessionState). s.has_bad) c.machine.ensures) c.fault.ensures c.as_bytes.ensures.value c.outcome_kept-outcome.ensures
    c.is_closed.ensures c.end_sat.ensures.status c.end_sat.ensures.told
