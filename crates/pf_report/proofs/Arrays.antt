-- The elements of the array of rows.
use Rattle.std.proofs.Common.{◌≡◌, ℕ, ◌+◌, ◌<◌, ◌∙◌, false, List, ◌∷◌, Option, Some, Result, Ok, Err, length, drop, map, ap, sym}
use Rattle.std.specs.Prelude.{IfOk}
use Rattle.std.specs.List.{slice_get}
use Rattle.std.proofs.lemmas.List.{at_drop_more}
use Rattle.serde_json.specs.View.{view}
use Rattle.serde_json.specs.Written.{has_float}
use Rattle.serde_json.specs.declared.value.Value.{Value}
use Rattle.pf_order.specs.declared.pick.Pick.{Pick}
use Rattle.pf_tally.proofs.Noting.{got_at}
use Rattle.pf_report.specs.Json.{array_data, sitter_data}
use Rattle.pf_report.proofs.Floats.{row_plain}

-- the row of slot t is the first of those left
pub row_shown : {E : Type 0} (r : Result Value E) (rows : List (List (Option Pick))) (t : ℕ) (row : List (Option Pick)) → t < length rows → Some row ≡ slice_get rows t
    → IfOk r (λ v. view v ≡ array_data sitter_data row)
    → IfOk r (λ v. map (array_data sitter_data) (drop t rows) ≡ view v ∷ map (array_data sitter_data) (drop (t + 1) rows))
row_shown (Err e) rows t row within is h = tt
row_shown (Ok v) rows t row within is h =
    at_drop_more (map (array_data sitter_data)) rows t row within
    ∙ ap (λ r. array_data sitter_data r ∷ map (array_data sitter_data) (drop (t + 1) rows)) (got_at rows t row is)
    ∙ ap (λ d. d ∷ map (array_data sitter_data) (drop (t + 1) rows)) (sym h)

pub row_shown_plain : {E : Type 0} (r : Result Value E) (row : List (Option Pick)) → IfOk r (λ v. view v ≡ array_data sitter_data row)
    → IfOk r (λ v. has_float (view v) ≡ false)
row_shown_plain (Err e) row h = tt
row_shown_plain (Ok v) row h = ap has_float h ∙ row_plain row
