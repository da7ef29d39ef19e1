-- The rows of a run: one for each slot, with a place for each processor.
use Rattle.std.proofs.Common.{◌≡◌, ℕ, ◌<◌, ◌∙◌, List, Option, Some, length, All, ap, sym, subst, arith}
use Rattle.std.specs.List.{slice_get}
use Rattle.pf_order.specs.declared.pick.Pick.{Pick}
use Rattle.pf_scenario.specs.Scenario.{Plan}
use Rattle.pf_run.specs.declared.denied.Denied.{Denied}
use Rattle.pf_run.specs.RunRows.{AreOfRun}
use Rattle.pf_place.specs.Turns.{IsRow}
use Rattle.pf_tally.proofs.Noting.{got_at, row_at}
use Rattle.pf_tally.proofs.Turns.{rows_of_run, rows_length}

pub length-rows : (s : Plan) (n : ℕ) (rows : List (List (Option Pick))) (denials : List Denied) → AreOfRun s n rows denials → length rows ≡ n
length-rows s n rows denials are = ap length are.are_rows ∙ rows_length s n are.scenario

pub length-row : (s : Plan) (n : ℕ) (rows : List (List (Option Pick))) (denials : List Denied) (t : ℕ) (row : List (Option Pick)) → AreOfRun s n rows denials → t < n
    → Some row ≡ slice_get rows t → length row ≡ s.settings.processors
length-row s n rows denials t row are within is =
    let P : List (List (Option Pick)) → Type 0 = All (IsRow s.settings.processors) in
    let all = subst P (sym are.are_rows) (rows_of_run s n are.scenario) in
    (row_at s.settings.processors rows t row all (omega (arith, length-rows s n rows denials are)) (got_at rows t row is)).places
