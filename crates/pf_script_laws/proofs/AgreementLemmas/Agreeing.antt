-- `fit` ends as the conversion does.
use Rattle.std.proofs.Common.{◌≡◌, ◌∙◌, ◌*◌, ◌≤◌, ℕ, Bool, true, false, nat_le, Option, None, Some, List, [], ◌∷◌, map, inl, inr, refl, sym, ap, subst, arith}
use Rattle.std.specs.Prelude.{◌↔◌, if◌then◌else◌}
use Rattle.std.proofs.lemmas.Bool.Decides.{nat_tests}
use Rattle.pf_convert.specs.Conversion.Answers.{fit_status}
use Rattle.pf_convert.specs.Conversion.Script.{script_text}
use Rattle.pf_script_laws.specs.Conversions.Records.{heading_record, script_records}
use Rattle.pf_script_laws.specs.Conversions.Written.{WritesPlan}
use Rattle.pf_script_laws.proofs.ConversionsLemmas.Planned.{lists_become_plans}
use Rattle.pf_script_laws.proofs.ConversionsLemmas.Whole.{heading_good, rows_of_script}
use Rattle.pf_vocabulary.specs.declared.fault.status.Status.TheVariants.{Done, FailedOn}
use Rattle.pf_fit_command.specs.Fit.{status_of_verdict}
use Rattle.pf_verdict.specs.Findings.{grounds_of}
use Rattle.pf_verdict.specs.Verdict.{verdict_of}
use Rattle.pf_verdict.specs.declared.verdict.Verdict.{Verdict}
use Rattle.pf_verdict.specs.declared.verdict.Verdict.TheVariants.{Fits, FitsSoFar, DoesNotFit}
use Rattle.pf_plain_script.specs.Plain.{Plain, first_column, plain, plain_behind, plain_from, plain_of, start, with_heading}
use Rattle.pf_text.specs.Rows.Rows.{Row, rows}
use Rattle.pf_convert.specs.declared.list.listed.Listed.{Listed}
use Rattle.pf_text.specs.Page.{table_text}
use Rattle.pf_script.specs.Fields.{is_word}
use Rattle.pf_script.specs.declared.plan.fault.RecordFault.{RecordFault}
use Rattle.pf_script.specs.Plan.Heading.{heading_fault, is_plan_heading}
use Rattle.pf_version_laws.specs.Retold.{ScriptsAreRetold}
use Rattle.pf_script_laws.proofs.AgreementLemmas.Counted.{fits_are_done}
use Rattle.pf_script_laws.specs.Agreement.Agree.{ConvertAndFitAgree, IsFitAlike}
use Rattle.pf_script_laws.proofs.AgreementLemmas.Asked.{asks_plan}

heading_is_plan : is_plan_heading heading_record ≡ true
unfolding is_plan_heading is_word
heading_is_plan = refl

-- a text whose first row is the heading is a plan
plain_under : (column : ℕ → ℕ) (end : ℕ) (rs : List Row) (behind : List (List (List ℕ))) → map (λ row. row.fields) rs ≡ heading_record ∷ behind → (p : Plain) × (plain_of column end rs ≡ Some p)
plain_under column end [] behind is = cc
plain_under column end (r ∷ rs) behind is =
    let both : r.fields ∷ map (λ row. row.fields) rs ≡ heading_record ∷ behind = is in
    let same : r.fields ≡ heading_record = cc in
    let begins : is_plan_heading r.fields ≡ true = ap is_plan_heading same ∙ heading_is_plan in
    let good : heading_fault r.fields ≡ None = ap heading_fault same ∙ heading_good in
    let under : Option RecordFault → Plain = λ fault. with_heading column r.line (plain_behind column fault r.line end rs) in
    (with_heading column r.line (plain_from column start 2 end rs), ap (λ b. if b then Some (under (heading_fault r.fields)) else None) begins ∙ ap (λ fault. Some (under fault)) good)

-- one of two statuses, the same just where both are done
one_of : (v : Verdict) (load room : ℕ) → (status_of_verdict v ≡ Done) ↔ (load ≤ room) → status_of_verdict v ≡ fit_status load room
one_of v load room both = by (nat_le load room) refl
  where
    failed : (w : Verdict) → (status_of_verdict w ≡ Done → ⊥) → status_of_verdict w ≡ FailedOn
    failed Fits never = absurd (never refl)
    failed FitsSoFar never = refl
    failed DoesNotFit never = refl

    by : (b : Bool) → nat_le load room ≡ b → status_of_verdict v ≡ (if b then Done else FailedOn)
    by true within = both.1 (grind (arith, nat_tests, within))
    by false above = failed v (λ done. let le : load ≤ room = both.0 done in grind (arith, nat_tests, above, le))

pub convert_and_fit_agree : ScriptsAreRetold → ConvertAndFitAgree
convert_and_fit_agree law name c list a is some script made =
    elim (lists_become_plans name c list a is some script made) [
      | inl none ↦ inl none
      | inr w ↦ inr (alike _ w)
    ]
  where
    alike : (tasks : List Listed) → WritesPlan c.quanta tasks a → IsFitAlike a
    alike tasks w =
        let quantum = w.quantum in
        let m = w.processors in
        let plan = w.plan in
        let text = script_text m quantum tasks plan in
        let read = plain_under (first_column text) (rows text).end (rows text).rows (script_records m quantum tasks plan) (rows_of_script m quantum tasks plan w.written) in
        record {
          script = read.0;
          is = subst (λ (t : List ℕ). plain t ≡ Some read.0) (sym w.text) read.1;
          alike = λ format file hints titles answer fit.
              let done = fits_are_done m quantum tasks plan format file hints (Some read.0.origins) titles (table_text read.0.records) answer w.written w.measured
              (asks_plan law m quantum tasks plan read.0 w.written read.1) fit in
              fit.ends.ends
              ∙ one_of (verdict_of (grounds_of fit.seen fit.came.refusals.commands)) plan.load (m * plan.base) (λ e. done.0 (fit.ends.ends ∙ e), λ within. sym fit.ends.ends ∙ done.1 within)
              ∙ sym w.status;
        }
