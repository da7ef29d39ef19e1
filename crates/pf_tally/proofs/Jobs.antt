-- The responses of jobs, one quantum further.
use Rattle.std.proofs.Common.{◌≡◌, ◌≢◌, ℕ, ◌+◌, ◌%◌, ◌<◌, ◌==◌, cond, List, [], ◌∷◌, ◌++◌, length, drop, get_or, append_assoc, sym, ap, ◌∙◌}
use Rattle.std.specs.Prelude.{ℤ}
use Rattle.std.proofs.lemmas.Bool.{ne_eqb, eq-eqb, cond-true, cond-false}
use Rattle.std.proofs.lemmas.List.{at_drop_more}
use Rattle.pf_tally.specs.Figures.{response_of, responses_from}

module _ (release : ℕ → ℕ) (cost : ℕ) (slots : List ℕ) (i k : ℕ) (within : k < length slots) where
  job_step : responses_from release cost i (drop k slots)
      ≡ cond (i % cost == 0) (response_of release cost i (get_or slots k 0) ∷ []) [] ++ responses_from release cost (i + 1) (drop (k + 1) slots)
  job_step = at_drop_more (responses_from release cost i) slots k 0 within

  -- subtask i ends a job
  pub job_ends : (old new whole : List ℤ) (x y : ℤ) → i % cost ≡ 0 → new ≡ old ++ x ∷ [] → x ≡ y → y ≡ response_of release cost i (get_or slots k 0) →
      old ++ responses_from release cost i (drop k slots) ≡ whole → new ++ responses_from release cost (i + 1) (drop (k + 1) slots) ≡ whole
  job_ends old new whole x y ends push kept is before =
      let rest = responses_from release cost (i + 1) (drop (k + 1) slots) in
      let here : ℤ = response_of release cost i (get_or slots k 0) in
      ap (λ xs. xs ++ rest) (push ∙ ap (λ x. old ++ x ∷ []) (kept ∙ is))
      ∙ append_assoc old (here ∷ []) rest
      ∙ ap (λ xs. old ++ xs) (sym (job_step ∙ ap (λ xs. xs ++ rest) (cond-true (i % cost == 0) (here ∷ []) [] (eq-eqb (i % cost) 0 ends))))
      ∙ before

  -- it ends none
  pub job_goes_on : (old whole : List ℤ) → i % cost ≢ 0 → old ++ responses_from release cost i (drop k slots) ≡ whole →
      old ++ responses_from release cost (i + 1) (drop (k + 1) slots) ≡ whole
  job_goes_on old whole more before =
      let rest = responses_from release cost (i + 1) (drop (k + 1) slots) in
      let here : ℤ = response_of release cost i (get_or slots k 0) in
      ap (λ xs. old ++ xs) (sym (job_step ∙ ap (λ xs. xs ++ rest) (cond-false (i % cost == 0) (here ∷ []) [] (ne_eqb (i % cost) 0 more))))
      ∙ before
