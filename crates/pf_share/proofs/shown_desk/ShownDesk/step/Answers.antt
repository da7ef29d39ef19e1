use Rattle.pf_share.proofs.shown_desk.ShownDesk.step.Goals as goal

pub enter-requires-clause-step : goal.enter-requires-clause-step
enter-requires-clause-step g c asks p lt = c.in_default.ensures.empty p lt
