use Rattle.std.proofs.Common.{◌≡◌, ℕ, Option, List, length, ◌∙◌}
use Rattle.std.proofs.lemmas.Result.{IfOk-weaker}
use Rattle.pf_order.specs.declared.pick.Pick.{Pick}
use Rattle.pf_run.specs.declared.denied.Denied.{Denied}
use Rattle.pf_timeline.proofs.Grown.{row_each}
use Rattle.pf_desk.specs.declared.scenario_run.ScenarioRun.{ScenarioRun}
use Rattle.pf_desk.specs.Desk.{Seen}
use Rattle.pf_desk.specs.Applied.{Stands, state_in}
use Rattle.pf_desk.proofs.Pasts.{stood_of_run}
use Rattle.pf_desk.proofs.scenario_run.ScenarioRun.snapshot.Goals as goal

seen_of_run : (r : ScenarioRun) (version : ℕ) (rows : List (List (Option Pick))) (denials : List Denied) (seen : Seen) → Stands r →
    rows ≡ r.timeline.rows → denials ≡ r.timeline.denials →
    seen ≡ record { version = version; state = record { plan = r.scenario; now = length rows }; rows = rows; denials = denials } →
    seen ≡ record { version = version; state = state_in r; rows = r.timeline.rows; denials = r.timeline.denials }
seen_of_run r version rows denials seen stands of_rows of_denials shows =
    shows
    ∙ (λ i. record { version = version; state = record { plan = r.scenario; now = length (of_rows i) }; rows = of_rows i; denials = of_denials i })
    ∙ (λ i. record { version = version; state = record { plan = r.scenario; now = row_each r.scenario r.timeline.now r.timeline.rows r.timeline.denials stands.run.of_run i }; rows = r.timeline.rows; denials = r.timeline.denials })

pub of-requires : goal.of-requires
of-requires c = rw (c.rows.ensures, c.shared_denials.ensures) (stood_of_run _ _ c.requires.run)

pub returns : goal.returns
returns c =
    IfOk-weaker c.of.result _ _ (λ s shows. seen_of_run c.args.self.now _ _ _ s c.requires c.rows.ensures c.shared_denials.ensures shows) c.of.ensures
