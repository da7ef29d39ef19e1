-- The messages of a plan, one record after another.
use Rattle.std.proofs.Common.{◌≡◌, ◌≤◌, ◌+◌, ℕ, Bool, true, false, List, [], ◌∷◌, length, Option, None, Some, Result, Ok, Err, refl, arith}
use Rattle.std.specs.Prelude.{if◌then◌else◌, nat_le}
use Rattle.std.proofs.lemmas.Bool.Decides.{nat_tests}
use Rattle.pf_script.specs.PlanCheck.Checked.{bad_if, faults, faults_at_end, faults_from, faults_next, faults_of, is_right_heading, number_after, rows_after, with_fault}
use Rattle.pf_script.specs.PlanCheck.Reports.{FaultShown}
use Rattle.pf_text.specs.Rows.Rows.{Row, Table}
use Rattle.pf_script.specs.declared.plan.fault.RecordFault.{RecordFault}
use Rattle.pf_script.specs.Plan.Heading.{heading_fault}
use Rattle.pf_script.specs.declared.plan.said.Said.{Said}
use Rattle.pf_script.specs.declared.plan.state.Progress.{Progress}
use Rattle.pf_script.specs.Plan.Parsing.{end_fault, said_at}
use Rattle.pf_script.specs.Plan.Progress.{at_heading, progress_after}
use Rattle.pf_script.specs.Messages.Lines.{Telling, plan_message, plan_messages, told_one}
use Rattle.pf_script.proofs.CheckLemmas.Finding.{AreOf, after_all}

abbrev AreAll : ℕ → List FaultShown → Type 0
AreAll records faults = (t : Telling) → AreOf records (plan_messages t faults)

of_end : (records number end : ℕ) (p : Progress) → number ≡ records + 1 → AreAll records (faults_at_end p number end (end_fault p))
unfolding plan_message
of_end records number end p is = by p.opened refl
  where
    by : (b : Bool) → p.opened ≡ b → AreAll records (faults_at_end p number end (end_fault p))
    by true e t = rw e tt
    by false e t = rw (e, after_all records number is) (refl, refl)

of_next : (records number : ℕ) (row : Row) (more : Progress → List FaultShown) (p : Progress) (r : Result Said RecordFault)
    → nat_le number records ≡ true → ((q : Progress) → AreAll records (more q)) → AreAll records (faults_next more p number row r)
unfolding plan_message
of_next records number row more p (Ok said) low rest t = rest (progress_after p said 0) t
of_next records number row more p (Err fault) low rest t = rw low (rest p (told_one t))

of_rows : (records number end : ℕ) (rows : List Row) (p : Progress) → number + length rows ≡ records + 1
    → AreAll records (faults_from p number end rows)
of_rows records number end [] p is = of_end records number end p (omega (arith, is))
of_rows records number end (row ∷ rows) p is =
    of_next records number row (λ q. faults_from q (number + 1) end rows) p (said_at p row.fields) (grind (arith, nat_tests, is))
    (λ q. of_rows records (number + 1) end rows q (omega (arith, is)))

-- that of the heading comes first
of_heading : (records line : ℕ) (fields : List (List ℕ)) (fault : Option RecordFault) (more : List FaultShown) → 1 ≤ records
    → AreAll records more → AreAll records (with_fault at_heading (bad_if 1 line fault) fields more)
unfolding plan_message
of_heading records line fields None more some rest t = rest t
of_heading records line fields (Some fault) more some rest t =
    let low : nat_le 1 records ≡ true = grind (arith, nat_tests, some) in rw low (rest (told_one t))

-- the rows after the heading are the others, but for a right one that is passed over
counted_after : (fault : Option RecordFault) (rows : List Row) → number_after fault rows + length (rows_after fault rows) ≡ length rows + 2
counted_after None rows = omega arith
counted_after (Some fault) [] = omega arith
counted_after (Some fault) (row ∷ rows) = by (is_right_heading row.fields)
  where
    by : (b : Bool) → (if b then 3 else 2) + length (if b then rows else row ∷ rows) ≡ length (row ∷ rows) + 2
    by true = omega arith
    by false = omega arith

-- Use: all faults of a script.
pub of_plan : (t : Table) → AreAll (length t.rows) (faults t)
of_plan t = by t.rows
  where
    by : (rows : List Row) → AreAll (length rows) (faults_of t.end rows)
    by [] = λ telling. tt
    by (heading ∷ rows) =
        let records = length (heading ∷ rows) in
        let fault = heading_fault heading.fields in
        let number = number_after fault rows in
        let left = rows_after fault rows in
        of_heading records heading.line heading.fields fault (faults_from at_heading number t.end left) (omega arith)
        (of_rows records number t.end left at_heading (omega (arith, counted_after fault rows)))
