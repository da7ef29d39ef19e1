-- What a check tells, and how many faults a script has.
use Rattle.std.proofs.Common.{◌≡◌, ◌≤◌, ◌+◌, ℕ, Bool, true, false, List, [], ◌∷◌, ◌++◌, length, Option, None, Some, Result, Ok, Err, refl, sym, ap, ◌∙◌, suc, arith}
use Rattle.std.specs.Prelude.{OnOk}
use Rattle.std.proofs.lemmas.List.{append_assoc}
use Rattle.pf_text.specs.Rows.Rows.{Row, Table}
use Rattle.pf_script.specs.declared.plan.fault.BadRecord.{BadRecord}
use Rattle.pf_script.specs.declared.plan.fault.RecordFault.{RecordFault}
use Rattle.pf_script.specs.declared.plan.said.Said.{Said}
use Rattle.pf_script.specs.declared.plan.state.Progress.{Progress}
use Rattle.pf_script.specs.Plan.Parsing.{end_fault, said_at}
use Rattle.pf_script.specs.Plan.Heading.{heading_fault}
use Rattle.pf_script.specs.Plan.Progress.{at_heading, progress_after}
use Rattle.pf_script.specs.PlanCheck.Checked.{after_second, bad_if, faults, faults_at_end, faults_from, faults_next, first_fields, is_right_heading, number_after, rows_after, with_fault}
use Rattle.pf_script.specs.PlanCheck.Reports.{FaultShown}

-- Use: a text was added to a text that had been added to.
pub added_to : {A E : Type 0} (r : Result A E) (new mid old x y : List ℕ) → mid ≡ old ++ x → OnOk r (new ≡ mid ++ y) → OnOk r (new ≡ old ++ (x ++ y))
added_to (Ok a) new mid old x y is h = h ∙ ap (λ t. t ++ y) is ∙ append_assoc old x y
added_to (Err e) new mid old x y is h = tt

-- each record has a fault at most, and so has the end
few_next : (more : Progress → List FaultShown) (p : Progress) (number most : ℕ) (row : Row) (r : Result Said RecordFault)
    → ((q : Progress) → length (more q) ≤ most + 1) → length (faults_next more p number row r) ≤ suc most + 1
few_next more p number most row (Ok said) few = let h = few (progress_after p said 0) in omega (arith, h)
few_next more p number most row (Err fault) few = let h = few p in omega (arith, h)

few_at_end : (p : Progress) (number end : ℕ) (fault : Option RecordFault) → length (faults_at_end p number end fault) ≤ 1
few_at_end p number end None = omega arith
few_at_end p number end (Some fault) = omega arith

-- the faults after the heading can be counted
few_from : (p : Progress) (number end : ℕ) (rows : List Row) → length (faults_from p number end rows) ≤ length rows + 1
few_from p number end [] = few_at_end p number end (end_fault p)
few_from p number end (row ∷ rows) =
    few_next (λ q. faults_from q (number + 1) end rows) p number (length rows) row (said_at p row.fields) (λ q. few_from q (number + 1) end rows)

-- Use: with that of the heading they are one more.
pub few_under : (q : Progress) (bad : Option BadRecord) (fields : List (List ℕ)) (p : Progress) (number end : ℕ) (rows : List Row)
    → length (with_fault q bad fields (faults_from p number end rows)) ≤ length rows + 2
few_under q None fields p number end rows = let h = few_from p number end rows in omega (arith, h)
few_under q (Some bad) fields p number end rows = let h = few_from p number end rows in omega (arith, h)

-- behind a heading with a fault the rows after a right one are those that are left
module _ (row : Row) (end : ℕ) (after : Table) where
  left_of : (fault : Option RecordFault) (rest : List Row) → List FaultShown
  left_of fault rest = with_fault at_heading (bad_if 1 row.line fault) row.fields (faults_from at_heading (number_after fault rest) end (rows_after fault rest))

  passed_by : Option RecordFault → List FaultShown
  passed_by fault = with_fault at_heading (bad_if 1 row.line fault) row.fields (faults_from at_heading 3 after.end after.rows)

  second_passed : (fault : Option RecordFault) (rest : List Row) → after_second (bad_if 1 row.line fault) end (row ∷ rest) ≡ Some after
      → (passed_by fault ≡ left_of fault rest) × (2 + length after.rows ≡ length (row ∷ rest))
  unfolding passed_by left_of
  second_passed None rest found = absurd (cc)
  second_passed (Some fault) [] found = absurd (cc)
  second_passed (Some fault) (second ∷ rest) found = by (is_right_heading second.fields) refl
    where
      by : (b : Bool) → is_right_heading second.fields ≡ b
          → (passed_by (Some fault) ≡ left_of (Some fault) (second ∷ rest)) × (2 + length after.rows ≡ length (row ∷ second ∷ rest))
      by true e =
          let some : Some (record { rows = rest; end = end }) ≡ Some after = rw e at found in
          let same : record { rows = rest; end = end } ≡ after = cc in
          rw e (
            ap (λ (a : Table). with_fault at_heading (bad_if 1 row.line (Some fault)) row.fields (faults_from at_heading 3 a.end a.rows)) (sym same),
            omega (arith, ap (λ (a : Table). length a.rows) same),
          )
      by false e = let none : None ≡ Some after = rw e at found in absurd (cc)

-- Use: so the faults are all, and so are the records.
pub second_read : (t : Table) (row : Row) (rest : List Row) (end : ℕ) (bad : Option BadRecord) (after : Table)
    → t ≡ record { rows = row ∷ rest; end = end } → bad ≡ bad_if 1 row.line (heading_fault row.fields)
    → after_second bad t.end t.rows ≡ Some after
    → (with_fault at_heading bad (first_fields t.rows) (faults_from at_heading 3 after.end after.rows) ≡ faults t) × (2 + length after.rows ≡ length t.rows)
unfolding heading_fault passed_by left_of
second_read t row rest end bad after all is found =
    rw (all, is) (second_passed row end after (heading_fault row.fields) rest (rw (all, is) at found))
