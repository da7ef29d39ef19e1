-- The rows and the denials that a snapshot shows are those of its scenario's run.
use Rattle.std.proofs.Common.{◌≡◌, ◌∙◌, List, Option, length, ap, sym, subst}
use Rattle.pf_order.specs.declared.pick.Pick.{Pick}
use Rattle.pf_scenario.specs.Scenario.{Plan}
use Rattle.pf_run.specs.declared.denied.Denied.{Denied}
use Rattle.pf_run.specs.RunRows.{AreOfRun}
use Rattle.pf_tally.proofs.Turns.{rows_length}
use Rattle.pf_desk.specs.Desk.{Seen}

pub length-rows : (seen : Seen) → AreOfRun seen.state.plan seen.state.now seen.rows seen.denials → length seen.rows ≡ seen.state.now
length-rows seen are = ap length are.are_rows ∙ rows_length seen.state.plan seen.state.now are.scenario

-- as a call takes them, by its arguments
pub of_run : (seen : Seen) (s : Plan) (rows : List (List (Option Pick))) (denials : List Denied) →
    AreOfRun seen.state.plan seen.state.now seen.rows seen.denials → s ≡ seen.state.plan → rows ≡ seen.rows → denials ≡ seen.denials →
    AreOfRun s (length rows) rows denials
of_run seen s rows denials are same_plan same_rows same_denials =
    subst (λ x. AreOfRun x (length rows) rows denials) (sym same_plan)
    (subst (λ x. AreOfRun seen.state.plan (length x) x denials) (sym same_rows)
    (subst (λ x. AreOfRun seen.state.plan (length seen.rows) seen.rows x) (sym same_denials)
    (subst (λ x. AreOfRun seen.state.plan x seen.rows seen.denials) (sym (length-rows seen are)) are)))
