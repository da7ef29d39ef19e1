-- The rows of a schedule, one after another.
use Rattle.std.proofs.Common.{◌≡◌, ℕ, ◌+◌, ◌<◌, ◌∙◌, List, ◌∷◌, Option, Some, length, drop, map, ap}
use Rattle.std.specs.Fmt.{decimal}
use Rattle.std.specs.List.{slice_get}
use Rattle.std.proofs.lemmas.List.{at_drop_more}
use Rattle.pf_order.specs.declared.pick.Pick.{Pick}
use Rattle.pf_tally.proofs.Noting.{got_at}
use Rattle.pf_report.specs.Tables.{sitter_field, schedule_records}

-- the record of slot t is the first of those left
pub row_first : (rows : List (List (Option Pick))) (t : ℕ) (row : List (Option Pick)) → t < length rows → Some row ≡ slice_get rows t
    → schedule_records t (drop t rows) ≡ (decimal t ∷ map sitter_field row) ∷ schedule_records (t + 1) (drop (t + 1) rows)
row_first rows t row within is =
    at_drop_more (schedule_records t) rows t row within ∙ ap (λ r. schedule_records t (r ∷ drop (t + 1) rows)) (got_at rows t row is)
