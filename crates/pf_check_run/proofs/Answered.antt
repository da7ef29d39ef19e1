-- What is answered by what a check found.
use Rattle.std.proofs.Common.{◌≡◌, ◌∙◌, ℕ, Bool, true, false, List, [], ◌∷◌, Option, None, Some, Result, Ok, Err, inl, refl, sym}
use Rattle.std.specs.Prelude.{IfErr, IfOk, if◌then◌else◌}
use Rattle.pf_script_run.specs.Carried.{Stops}
use Rattle.pf_script.specs.PlanCheck.Checked.{first_fields, is_plan}
use Rattle.pf_script.specs.Fields.{is_word}
use Rattle.pf_script.specs.Plan.Heading.{heading_fault, is_plan_heading}
use Rattle.pf_script.specs.declared.check.found.Found.{Found}
use Rattle.pf_script.specs.Check.Files.{file_kind, record_messages, script_messages, telling_of}
use Rattle.pf_script.specs.Check.Found.{Finds, is_clean, is_empty}
use Rattle.pf_script.specs.Messages.Lines.{FaultMessage, Telling, plain_messages}
use Rattle.pf_script.specs.Told.{FaultTold, faults, told}
use Rattle.pf_text.specs.Rows.Rows.{Row, rows}
use Rattle.pf_vocabulary.specs.Fault.Answers.{IsQuiet}
use Rattle.pf_vocabulary.specs.declared.fault.answer.Answer.{Answer}
use Rattle.pf_vocabulary.specs.declared.fault.fault.Fault.{Fault}
use Rattle.pf_vocabulary.specs.declared.fault.status.Status.TheVariants.{BadScript}
use Rattle.pf_plain_script.specs.declared.plain.PlainScript.{PlainScript}
use Rattle.pf_plain_script.specs.Plain.{MakesPlain, Plain, plain, first_column, plain_behind, plain_of, with_heading}
use Rattle.pf_text.specs.Page.{table_text}
use Rattle.pf_check_run.specs.Answers.{Carries, CarriesScript, IsAnswer, IsStopped, NotRunBy}
use Rattle.pf_check_run.proofs.Unnumbered.{none_kind, of_memory}

-- where a script has no faults, it was carried out
carried_answers : (r : Result Answer Fault) (IsCarried : ℕ → Answer → Type 0) (records : ℕ) (messages : List FaultMessage) (found : Found)
    → Finds records messages found → is_clean found ≡ true → IfOk r (IsCarried found.records) → IfOk r (IsAnswer records messages (IsCarried records))
carried_answers (Err fault) IsCarried records messages found finds clean h = tt
carried_answers (Ok a) IsCarried records [] found finds clean h = rw finds.counted at h
carried_answers (Ok a) IsCarried records (m ∷ messages) found finds clean h = let bad : true ≡ false = sym clean ∙ finds.clean in cc

-- Use: a script of version 1 or 2 was, ..
pub own_carried : (r : Result Answer Fault) (q : Option Plain) (file : List ℕ) (hints : Bool) (script : List ℕ) (records : ℕ) (messages : List FaultMessage) (found : Found)
    → MakesPlain None q → Finds records messages found → is_clean found ≡ true → IfOk r (Carries file hints None [] script found.records)
    → IfOk r (IsAnswer records messages (CarriesScript q file hints script records))
own_carried r None file hints script records messages found made finds clean h =
    carried_answers r (λ n. Carries file hints None [] script n) records messages found finds clean h
own_carried r (Some p) file hints script records messages found made finds clean h = absurd made

-- .. and a plan by the one that belongs to it.
pub plan_carried : (r : Result Answer Fault) (q : Option Plain) (file : List ℕ) (hints : Bool) (script : List ℕ) (s : PlainScript) (records : ℕ) (messages : List FaultMessage) (found : Found)
    → MakesPlain (Some s) q → Finds records messages found → is_clean found ≡ true
    → IfOk r (Carries file hints (Some s.origins.items) s.titles.names s.text.items found.records)
    → IfOk r (IsAnswer records messages (CarriesScript q file hints script records))
plan_carried r None file hints script s records messages found made finds clean h = absurd made
plan_carried r (Some p) file hints script s records messages found made finds clean h =
    carried_answers r (λ n. Carries file hints (Some p.origins) p.titles.names (table_text p.records) n) records messages found finds clean
    (rw (made.text, made.origins, made.titles) at h)

-- Use: one with faults was not.
pub faulty_answer : (records : ℕ) (messages : List FaultMessage) (IsCarried : Answer → Type 0) (answer : Answer) (found : Found) → Finds records messages found
    → is_clean found ≡ false → NotRunBy found answer → IsQuiet BadScript answer.ending → IsAnswer records messages IsCarried answer
faulty_answer records [] IsCarried answer found finds clean told ends = let bad : false ≡ true = sym clean ∙ finds.clean in cc
faulty_answer records (m ∷ messages) IsCarried answer found finds clean told ends =
    record { text = told ∙ rw (finds.text, finds.counted, finds.count) refl; ends = ends }

-- where no message is told, there is no fault
none_of : (t : Telling) (fs : List FaultTold) → is_empty (plain_messages t fs) ≡ true → fs ≡ []
none_of t [] h = refl
none_of t (f ∷ fs) h = let bad : false ≡ true = h in cc

none_told : (file : List ℕ) (hints : Bool) (script : List ℕ) → is_plan (rows script) ≡ false → is_empty (script_messages file hints script) ≡ true
    → faults script ≡ []
none_told file hints script plain h =
    let t = telling_of file hints script in
    none_of t (faults script) (rw plain at (none_kind file hints (file_kind file hints script) (record_messages t) h))

-- a text to which no script of version 2 belongs is no plan
no_plan : (column : ℕ → ℕ) (rs : List Row) (end : ℕ) → plain_of column end rs ≡ None → is_plan_heading (first_fields rs) ≡ false
unfolding is_plan_heading is_word
no_plan column [] end e = refl
no_plan column (row ∷ rest) end e = by (is_plan_heading row.fields) refl e
  where
    made : Plain
    made = with_heading column row.line (plain_behind column (heading_fault row.fields) row.line end rest)

    by : (b : Bool) → is_plan_heading row.fields ≡ b → (if b then Some made else None) ≡ None → is_plan_heading row.fields ≡ false
    by true is e = let bad : Some made ≡ None = e in cc
    by false is e = is

-- Use: what stops a script of version 1 or 2 in which a check found no fault.
pub own_stopped : {A : Type 0} (answer : Result A Fault) (file : List ℕ) (hints : Bool) (script : List ℕ) (records : ℕ) (found : Found)
    → MakesPlain None (plain script) → Finds records (script_messages file hints script) found → is_clean found ≡ true
    → IfErr answer (Stops (told script).rest.fault) → IfErr answer (IsStopped script)
own_stopped (Ok a) file hints script records found made finds clean h = tt
own_stopped (Err fault) file hints script records found made finds clean h =
    let none : plain script ≡ None = by (plain script) made in
    let plain = no_plan (first_column script) (rows script).rows (rows script).end none in
    inl (of_memory (told script).rest.fault fault (rw (none_told file hints script plain (sym finds.clean ∙ clean)) refl) h)
  where
    by : (q : Option Plain) → MakesPlain None q → q ≡ None
    by None made = refl
    by (Some p) made = absurd made
