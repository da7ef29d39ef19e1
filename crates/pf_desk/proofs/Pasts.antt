-- The rows of a scenario's run: as many as it has slots, and as long as its settings say.
use Rattle.std.proofs.Common.{◌≡◌, ℕ, ◌<◌, Option, List, length, get_or, sym, ap, ◌∙◌, subst, arith}
use Rattle.pf_order.specs.declared.pick.Pick.{Pick}
use Rattle.pf_scenario.specs.Scenario.{Plan}
use Rattle.pf_scenario.specs.Edit.{IsScenario}
use Rattle.pf_run.specs.RunRows.{AreOfRun, rows_in}
use Rattle.pf_tally.proofs.Turns.{rows_of_run, rows_length}
use Rattle.pf_timeline.specs.Timeline.{KeptRun, StandsFor}
use Rattle.pf_timeline.proofs.Grown.{row_each}

-- Use: each row of a run has a place for each processor.
pub places_in : (s : Plan) (n t : ℕ) (d : List (Option Pick)) → IsScenario s → t < n → length (get_or (rows_in s n) t d) ≡ s.settings.processors
places_in s n t d scenario within = (rows_of_run s n scenario t d (omega (arith, rows_length s n scenario))).places

-- Use: each row of what stands has a place for each processor.
pub places_taken : (s : Plan) (n : ℕ) (kept : KeptRun) (t : ℕ) (d : List (Option Pick)) → StandsFor s n kept → t < n →
    length (get_or kept.rows t d) ≡ s.settings.processors
places_taken s n kept t d stands within =
    ap (λ rows. length (get_or rows t d)) stands.of_run.are_rows ∙ places_in s n t d stands.of_run.scenario within

-- Use: the rows of what stands are as many as it has slots.
pub stood_of_run : (plan : Plan) (kept : KeptRun) → StandsFor plan kept.now kept → AreOfRun plan (length kept.rows) kept.rows kept.denials
stood_of_run plan kept stands =
    subst (λ n. AreOfRun plan n kept.rows kept.denials) (sym (row_each plan kept.now kept.rows kept.denials stands.of_run)) stands.of_run
