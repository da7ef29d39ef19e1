-- What a list tells, row by row.
use Rattle.std.proofs.Common.{◌≡◌, ℕ, ◌+◌, ◌<◌, ◌∙◌, [], ◌∷◌, ap, arith}
use Rattle.std.specs.Prelude.{if◌then◌else◌}
use Rattle.std.proofs.lemmas.Bool.{ne_eqb, eq-eqb}
use Rattle.pf_text.specs.Rows.Rows.{Row, Table}
use Rattle.pf_weight.specs.declared.task.TheConstants.{LARGEST_TASK}
use Rattle.pf_convert.specs.List.Faults.{no_task_message, too_many_message}
use Rattle.pf_convert.specs.List.Heads.{Head}
use Rattle.pf_convert.specs.List.List.{ListTold, tasks_told, with_fault, with_row}

pub row_noted : (head : Head) (count : ℕ) (told : ListTold) (was left : Table) (row : Row) → count < LARGEST_TASK
    → was ≡ record { rows = row ∷ left.rows; end = left.end }
    → tasks_told head count told was.end was.rows ≡ tasks_told head (count + 1) (with_row head told row) left.end left.rows
unfolding tasks_told
row_noted head count told was left row lt e =
    ap (λ t. tasks_told head count told t.end t.rows) e
    ∙ ap (λ b. if b then with_fault told (too_many_message row.line) else tasks_told head (count + 1) (with_row head told row) left.end left.rows)
    (ne_eqb count LARGEST_TASK (λ same. omega (arith, lt, same)))

pub one_too_many : (head : Head) (count : ℕ) (told : ListTold) (was left : Table) (row : Row) → count ≡ LARGEST_TASK
    → was ≡ record { rows = row ∷ left.rows; end = left.end }
    → tasks_told head count told was.end was.rows ≡ with_fault told (too_many_message row.line)
unfolding tasks_told
one_too_many head count told was left row full e =
    ap (λ t. tasks_told head count told t.end t.rows) e
    ∙ ap (λ b. if b then with_fault told (too_many_message row.line) else tasks_told head (count + 1) (with_row head told row) left.end left.rows)
    (eq-eqb count LARGEST_TASK full)

pub no_more_rows : (head : Head) (count : ℕ) (told : ListTold) (was : Table) (end : ℕ) → 0 < count → was ≡ record { rows = []; end = end }
    → tasks_told head count told was.end was.rows ≡ told
unfolding tasks_told
no_more_rows head count told was end some e =
    ap (λ t. tasks_told head count told t.end t.rows) e
    ∙ ap (λ b. if b then with_fault told (no_task_message head end) else told) (ne_eqb count 0 (λ same. omega (arith, some, same)))

pub no_rows : (head : Head) (count : ℕ) (told : ListTold) (was : Table) (end : ℕ) → count ≡ 0 → was ≡ record { rows = []; end = end }
    → tasks_told head count told was.end was.rows ≡ with_fault told (no_task_message head end)
unfolding tasks_told
no_rows head count told was end none e =
    ap (λ t. tasks_told head count told t.end t.rows) e
    ∙ ap (λ b. if b then with_fault told (no_task_message head end) else told) (eq-eqb count 0 none)
