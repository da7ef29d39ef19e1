use Rattle.pf_shared_desk.proofs.desk_core.DeskCore.step.Goals as goal

pub enter-requires-clause-step : goal.enter-requires-clause-step
enter-requires-clause-step c asks p lt = c.in_default.ensures.empty p lt
