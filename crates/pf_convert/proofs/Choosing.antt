-- The best of some quanta, one after another.
use Rattle.std.proofs.Common.{ℕ, ◌+◌, ◌<◌, ◌≤◌, inl, inr, List, take, length, Option, None, Some, MatchOption, refl, sym, subst, arith}
use Rattle.std.specs.Prelude.{All}
use Rattle.std.proofs.lemmas.List.{take_all}
use Rattle.std.proofs.lemmas.List.Elements.{All-more, All-weaker}
use Rattle.pf_convert.specs.declared.outcome.Outcome.{Outcome}
use Rattle.pf_convert.specs.Outcomes.{Fits, IsNoWorseQuantum, NoneFits, IsBestQuantum, IsBetterQuantum, outcome_at}

pub same_quantum : (processors : Option ℕ) (a : Outcome) → IsNoWorseQuantum processors a a
same_quantum None a = inr (refl, omega arith)
same_quantum (Some m) a = omega arith

pub no_worse_quantum : (processors : Option ℕ) (a b c : Outcome) → IsNoWorseQuantum processors a b → IsNoWorseQuantum processors b c → IsNoWorseQuantum processors a c
no_worse_quantum (Some m) a b c x y = omega (arith, x, y)
no_worse_quantum None a b c x y =
    elim x [
      | inl lt ↦ elim y [ inl also ↦ inl (omega (arith, lt, also)) | inr both ↦ inl (omega (arith, lt, both.0)) ]
      | inr both ↦
          elim y [
            | inl lt ↦ inl (omega (arith, both.0, lt))
            | inr also ↦ inr (omega (arith, both.0, also.0), omega (arith, both.1, also.1))
          ]
    ]

-- of the first so many it is the best, or none of these fits
pub record IsBestOfFirst (processors : Option ℕ) (outcomes : List Outcome) (n i : ℕ) : Type 0 where
  pub within : i < length outcomes
  pub fits : Fits processors (outcome_at outcomes i)
  pub best : All (λ o. Fits processors o → IsNoWorseQuantum processors (outcome_at outcomes i) o) (take n outcomes)

abbrev pub IsBestOrNone : Option ℕ → List Outcome → ℕ → Option ℕ → Type 0
IsBestOrNone processors outcomes n best = MatchOption best (NoneFits processors (take n outcomes)) (IsBestOfFirst processors outcomes n)

pub quantum_passed : (processors : Option ℕ) (outcomes : List Outcome) (n : ℕ) (best : Option ℕ) → n < length outcomes
    → (Fits processors (outcome_at outcomes n) → ⊥) → IsBestOrNone processors outcomes n best → IsBestOrNone processors outcomes (n + 1) best
quantum_passed processors outcomes n None lt never h = All-more (λ o. Fits processors o → ⊥) outcomes n (record { quantum = 0; needed = None; faults = 0 }) lt h never
quantum_passed processors outcomes n (Some i) lt never h = record {
  within = h.within;
  fits = h.fits;
  best =
      All-more (λ o. Fits processors o → IsNoWorseQuantum processors (outcome_at outcomes i) o) outcomes n (record { quantum = 0; needed = None; faults = 0 }) lt h.best
      (λ yes. absurd (never yes));
}

taken_first : (processors : Option ℕ) (outcomes : List Outcome) (n : ℕ) → n < length outcomes → Fits processors (outcome_at outcomes n)
    → NoneFits processors (take n outcomes) → IsBestOfFirst processors outcomes (n + 1) n
taken_first processors outcomes n lt fits none = record {
  within = lt;
  fits = fits;
  best =
      All-more (λ o. Fits processors o → IsNoWorseQuantum processors (outcome_at outcomes n) o) outcomes n (record { quantum = 0; needed = None; faults = 0 }) lt
      (All-weaker (λ o. Fits processors o → ⊥) (λ o. Fits processors o → IsNoWorseQuantum processors (outcome_at outcomes n) o) (λ o never yes. absurd (never yes)) (take n outcomes) none)
      (λ yes. same_quantum processors (outcome_at outcomes n));
}

kept : (processors : Option ℕ) (outcomes : List Outcome) (n i : ℕ) → n < length outcomes → IsNoWorseQuantum processors (outcome_at outcomes i) (outcome_at outcomes n)
    → IsBestOfFirst processors outcomes n i → IsBestOfFirst processors outcomes (n + 1) i
kept processors outcomes n i lt no_worse h = record {
  within = h.within;
  fits = h.fits;
  best =
      All-more (λ o. Fits processors o → IsNoWorseQuantum processors (outcome_at outcomes i) o) outcomes n (record { quantum = 0; needed = None; faults = 0 }) lt h.best
      (λ yes. no_worse);
}

replaced : (processors : Option ℕ) (outcomes : List Outcome) (n i : ℕ) → n < length outcomes → Fits processors (outcome_at outcomes n)
    → IsNoWorseQuantum processors (outcome_at outcomes n) (outcome_at outcomes i) → IsBestOfFirst processors outcomes n i → IsBestOfFirst processors outcomes (n + 1) n
replaced processors outcomes n i lt fits no_worse h = record {
  within = lt;
  fits = fits;
  best =
      All-more (λ o. Fits processors o → IsNoWorseQuantum processors (outcome_at outcomes n) o) outcomes n (record { quantum = 0; needed = None; faults = 0 }) lt
      (All-weaker (λ o. Fits processors o → IsNoWorseQuantum processors (outcome_at outcomes i) o) (λ o. Fits processors o → IsNoWorseQuantum processors (outcome_at outcomes n) o)
      (λ o f yes. no_worse_quantum processors (outcome_at outcomes n) (outcome_at outcomes i) o no_worse (f yes)) (take n outcomes) h.best)
      (λ yes. same_quantum processors (outcome_at outcomes n));
}

pub quantum_taken : (processors : Option ℕ) (outcomes : List Outcome) (n r : ℕ) (best : Option ℕ) → n < length outcomes → Fits processors (outcome_at outcomes n)
    → IsBetterQuantum processors outcomes best n r → IsBestOrNone processors outcomes n best → IsBestOfFirst processors outcomes (n + 1) r
quantum_taken processors outcomes n r None lt fits better h =
    subst (IsBestOfFirst processors outcomes (n + 1)) (sym better) (taken_first processors outcomes n lt fits h)
quantum_taken processors outcomes n r (Some i) lt fits better h =
    elim better [
      | inl old ↦ subst (IsBestOfFirst processors outcomes (n + 1)) (sym old.1) (kept processors outcomes n i lt old.0 h)
      | inr new ↦ subst (IsBestOfFirst processors outcomes (n + 1)) (sym new.1) (replaced processors outcomes n i lt fits new.0 h)
    ]

pub best_of_quanta : (processors : Option ℕ) (outcomes : List Outcome) (n : ℕ) (best : Option ℕ) → length outcomes ≤ n → IsBestOrNone processors outcomes n best
    → MatchOption best (NoneFits processors outcomes) (IsBestQuantum processors outcomes)
best_of_quanta processors outcomes n None le h = subst (λ os. NoneFits processors os) (take_all n outcomes le) h
best_of_quanta processors outcomes n (Some i) le h = record {
  within = h.within;
  fits = h.fits;
  best = subst (λ os. All (λ o. Fits processors o → IsNoWorseQuantum processors (outcome_at outcomes i) o) os) (take_all n outcomes le) h.best;
}
