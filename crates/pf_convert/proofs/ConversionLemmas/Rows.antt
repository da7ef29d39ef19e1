-- The rows of tasks and their slots, one after another.
use Rattle.std.proofs.Common.{◌≡◌, ℕ, Bool, ◌+◌, ◌<◌, ◌≤◌, ◌∙◌, min, List, [], ◌∷◌, ◌++◌, drop, length, get_or, refl, sym, ap, arith, append_assoc, append-nil}
use Rattle.std.proofs.Common.{inl, inr}
use Rattle.std.proofs.lemmas.Bool.{cases_lt}
use Rattle.std.proofs.lemmas.List.{at_drop_more, at_drop_all}
use Rattle.pf_convert.specs.declared.slotted.Slotted.{Slotted}
use Rattle.pf_vocabulary.specs.declared.names.unit.Unit.{Unit}
use Rattle.pf_convert.specs.declared.list.listed.Listed.{Listed}
use Rattle.pf_convert.specs.Conversion.Report.{report_rows, task_row}

pub row_made : (dues : Bool) (unit : Unit) (q : ℕ) (tasks : List Listed) (slots : List Slotted) (place : ℕ) (task : Listed) (d : Slotted)
    (rows whole : List (List (List ℕ))) (row : List (List ℕ)) → place < length tasks → place < length slots → task ≡ get_or tasks place task
    → row ≡ task_row dues unit q (place + 1) task (get_or slots place d)
    → rows ++ report_rows dues unit q (place + 1) (drop place tasks) (drop place slots) ≡ whole
    → (rows ++ row ∷ []) ++ report_rows dues unit q (place + 1 + 1) (drop (place + 1) tasks) (drop (place + 1) slots) ≡ whole
unfolding report_rows
row_made dues unit q tasks slots place task d rows whole row lt within is e h =
    let n = place + 1 in
    let rest = report_rows dues unit q (n + 1) (drop n tasks) (drop n slots) in
    let left : report_rows dues unit q n (drop place tasks) (drop place slots) ≡ report_rows dues unit q n (get_or tasks place task ∷ drop n tasks) (drop place slots) =
    at_drop_more (λ ts. report_rows dues unit q n ts (drop place slots)) tasks place task lt in
    let right : report_rows dues unit q n (get_or tasks place task ∷ drop n tasks) (drop place slots) ≡ task_row dues unit q n (get_or tasks place task) (get_or slots place d) ∷ rest =
    at_drop_more (report_rows dues unit q n (get_or tasks place task ∷ drop n tasks)) slots place d within in
    let one : row ≡ task_row dues unit q n (get_or tasks place task) (get_or slots place d) = e ∙ ap (λ t. task_row dues unit q n t (get_or slots place d)) is in
    append_assoc rows (row ∷ []) rest ∙ ap (λ r. rows ++ r ∷ rest) one ∙ ap (λ v. rows ++ v) (sym (left ∙ right)) ∙ h

no_tasks : (dues : Bool) (unit : Unit) (q n : ℕ) (slots : List Slotted) → report_rows dues unit q n [] slots ≡ []
unfolding report_rows
no_tasks dues unit q n slots = refl

no_slots : (dues : Bool) (unit : Unit) (q n : ℕ) (tasks : List Listed) → report_rows dues unit q n tasks [] ≡ []
unfolding report_rows
no_slots dues unit q n [] = refl
no_slots dues unit q n (task ∷ tasks) = refl

pub rows_made : (dues : Bool) (unit : Unit) (q : ℕ) (tasks : List Listed) (slots : List Slotted) (place : ℕ) (rows whole : List (List (List ℕ)))
    → min (length tasks) (length slots) ≤ place
    → rows ++ report_rows dues unit q (place + 1) (drop place tasks) (drop place slots) ≡ whole → rows ≡ whole
rows_made dues unit q tasks slots place rows whole le h =
    let none : report_rows dues unit q (place + 1) (drop place tasks) (drop place slots) ≡ [] =
    elim (cases_lt place (length tasks)) [
      | inl more ↦
          at_drop_all (report_rows dues unit q (place + 1) (drop place tasks)) slots place (omega (arith, le, more)) ∙ no_slots dues unit q (place + 1) (drop place tasks)
      | inr all ↦
          at_drop_all (λ ts. report_rows dues unit q (place + 1) ts (drop place slots)) tasks place all ∙ no_tasks dues unit q (place + 1) (drop place slots)
    ] in
    sym (append-nil rows) ∙ ap (λ v. rows ++ v) (sym none) ∙ h
