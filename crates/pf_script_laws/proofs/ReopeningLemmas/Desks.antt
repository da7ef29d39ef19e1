-- A desk has a script, and its script opens it again.
use Rattle.std.proofs.Common.{◌≡◌, map, sym, ◌∙◌}
use Rattle.pf_desk.specs.Desk.{seen_of}
use Rattle.pf_script_desk.specs.Asked.{Whole}
use Rattle.pf_script_laws.specs.Reopening.Whole.{script_commands}
use Rattle.pf_script_laws.specs.Reopening.Asked.{DesksHaveScripts, ScriptsReopenDesks}
use Rattle.pf_script_laws.proofs.ReopeningLemmas.Asked.{asked_whole}
use Rattle.pf_script_laws.proofs.ReopeningLemmas.Lengths.{short_script}
use Rattle.pf_script_laws.proofs.ReopeningLemmas.Whole.{commands_reopen_desks}

pub desks_have_scripts : DesksHaveScripts
desks_have_scripts every seen can = record {
  short = short_script every seen can;
  asked = asked_whole every seen can;
}

pub scripts_reopen_desks : ScriptsReopenDesks
scripts_reopen_desks every d q of_d of_q can asked =
    let both : Whole d.state.plan.settings (script_commands d.state) ≡ Whole q.state.plan.settings (map (λ e. e.command) q.history) =
    sym (asked_whole every (seen_of d) can) ∙ asked in
    commands_reopen_desks d q of_d of_q (cc) (cc)
