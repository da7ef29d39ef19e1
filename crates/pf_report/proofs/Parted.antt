-- The rows of a part of a schedule.
use Rattle.std.proofs.Common.{◌≡◌, ◌∙◌, ℕ, ◌+◌, ◌-◌, ◌<◌, ◌≤◌, List, [], ◌∷◌, Option, Some, length, drop, take, map, ap, sym, arith}
use Rattle.std.specs.Fmt.{decimal}
use Rattle.std.specs.List.{slice_get}
use Rattle.std.proofs.Math.ListN.{drop_of_length-le}
use Rattle.std.proofs.lemmas.List.{get_or-take, length-take-le}
use Rattle.std.proofs.lemmas.Option.{slice_get-get_or}
use Rattle.pf_order.specs.declared.pick.Pick.{Pick}
use Rattle.pf_tally.proofs.Noting.{got_at}
use Rattle.pf_report.specs.Part.{Part, part_records}
use Rattle.pf_report.specs.Tables.{schedule_records, sitter_field}
use Rattle.pf_report.proofs.Recorded.{row_first}

-- after as many slots as the range has, none is left
pub none_behind : (p : Part) → p.from ≤ p.to → p.to ≤ length p.seen.rows → part_records p (p.to - p.from) ≡ []
none_behind p order within =
    let at : p.from + (p.to - p.from) ≡ p.to = omega arith in
    let long = length-take-le p.to p.seen.rows within in
    ap (λ k. schedule_records k (drop k (take p.to p.seen.rows))) at
    ∙ ap (schedule_records p.to) (drop_of_length-le (take p.to p.seen.rows) (omega (arith, long)))

-- a row below the end of the front of the rows is one of the front
pub front_row : (rows : List (List (Option Pick))) (to t : ℕ) (row : List (Option Pick)) → to ≤ length rows → t < to → Some row ≡ slice_get rows t
    → Some row ≡ slice_get (take to rows) t
front_row rows to t row within below is =
    let long = length-take-le to rows within in
    sym (slice_get-get_or (take to rows) t row (omega (arith, long)) ∙ ap Some (get_or-take to rows t row below ∙ got_at rows t row is))

-- the record of the k-th slot is the first of those left
pub part_first : (p : Part) (k : ℕ) (row : List (Option Pick)) → p.to ≤ length p.seen.rows → p.from + k < p.to
    → Some row ≡ slice_get p.seen.rows (p.from + k)
    → part_records p k ≡ (decimal (p.from + k) ∷ map sitter_field row) ∷ part_records p (k + 1)
part_first p k row within below is =
    let rows = take p.to p.seen.rows in
    let long = length-take-le p.to p.seen.rows within in
    let next : p.from + k + 1 ≡ p.from + (k + 1) = omega arith in
    row_first rows (p.from + k) row (omega (arith, long)) (front_row p.seen.rows p.to (p.from + k) row within below is)
    ∙ ap (λ n. (decimal (p.from + k) ∷ map sitter_field row) ∷ schedule_records n (drop n rows)) next
