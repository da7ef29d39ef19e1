-- No command changes the settings.
use Rattle.std.proofs.Common.{ap, ◌∙◌}
use Rattle.pf_desk.proofs.Histories.{settings_behind}
use Rattle.first_desk.proofs.plan.plan.Goals as goal

pub returns-clause-settings : goal.returns-clause-settings
returns-clause-settings c =
    let answered = c.in_ok-apply_all.ensures.ok in
    ap (λ st. st.plan.settings) answered.state
    ∙ settings_behind _ answered.entries
    ∙ ap (λ d. d.state.plan.settings) c.in_ok-desk.ensures.value
    ∙ c.in_ok-new.ensures.value
