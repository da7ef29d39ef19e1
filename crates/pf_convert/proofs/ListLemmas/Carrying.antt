-- Whether a time of a list carries a unit, row by row.
use Rattle.std.proofs.Common.{◌≡◌, ℕ, ◌+◌, ◌<◌, ◌∙◌, true, false, List, [], ◌∷◌, refl, ap, arith}
use Rattle.std.specs.Prelude.{if◌then◌else◌}
use Rattle.std.proofs.lemmas.Bool.{ne_eqb, eq-eqb}
use Rattle.pf_text.specs.Rows.Rows.{Row, Table}
use Rattle.pf_weight.specs.declared.task.TheConstants.{LARGEST_TASK}
use Rattle.pf_convert.specs.declared.list.heading.Heading.{Heading}
use Rattle.pf_convert.specs.List.Reading.{row_carries, rows_carry}

row_looked_at : (h : Heading) (count : ℕ) (was left : Table) (row : Row) → count < LARGEST_TASK → was ≡ record { rows = row ∷ left.rows; end = left.end }
    → rows_carry h count was.rows ≡ (if row_carries h row.fields then true else rows_carry h (count + 1) left.rows)
unfolding rows_carry
row_looked_at h count was left row lt e =
    ap (λ t. rows_carry h count t.rows) e
    ∙ ap (λ b. if b then false else if row_carries h row.fields then true else rows_carry h (count + 1) left.rows)
    (ne_eqb count LARGEST_TASK (λ same. omega (arith, lt, same)))

pub row_found : (h : Heading) (count : ℕ) (was left : Table) (row : Row) → count < LARGEST_TASK → was ≡ record { rows = row ∷ left.rows; end = left.end }
    → row_carries h row.fields ≡ true → rows_carry h count was.rows ≡ true
row_found h count was left row lt e is =
    row_looked_at h count was left row lt e ∙ ap (λ b. if b then true else rows_carry h (count + 1) left.rows) is

pub row_passed : (h : Heading) (count : ℕ) (was left : Table) (row : Row) → count < LARGEST_TASK → was ≡ record { rows = row ∷ left.rows; end = left.end }
    → row_carries h row.fields ≡ false → rows_carry h count was.rows ≡ rows_carry h (count + 1) left.rows
row_passed h count was left row lt e is =
    row_looked_at h count was left row lt e ∙ ap (λ b. if b then true else rows_carry h (count + 1) left.rows) is

pub none_left : (h : Heading) (count : ℕ) (was : Table) (end : ℕ) → was ≡ record { rows = []; end = end } → rows_carry h count was.rows ≡ false
unfolding rows_carry
none_left h count was end e = ap (λ t. rows_carry h count t.rows) e

after_all : (h : Heading) (count : ℕ) (rows : List Row) → count ≡ LARGEST_TASK → rows_carry h count rows ≡ false
unfolding rows_carry
after_all h count [] full = refl
after_all h count (row ∷ rows) full =
    ap (λ b. if b then false else if row_carries h row.fields then true else rows_carry h (count + 1) rows) (eq-eqb count LARGEST_TASK full)

pub no_more_looked_at : (h : Heading) (count : ℕ) (was : Table) → count ≡ LARGEST_TASK → rows_carry h count was.rows ≡ false
no_more_looked_at h count was full = after_all h count was.rows full
