-- The quantum that is closest to a plan that fits, one after another.
use Rattle.std.proofs.Common.{◌≡◌, ℕ, ◌+◌, ◌<◌, ◌≤◌, ◌⊎◌, inl, inr, List, take, length, Option, None, Some, refl, sym, subst, arith}
use Rattle.std.specs.Prelude.{All}
use Rattle.std.proofs.lemmas.Bool.{cases_lt}
use Rattle.std.proofs.lemmas.List.{take_all}
use Rattle.std.proofs.lemmas.List.Elements.{All-more, All-weaker}
use Rattle.pf_convert.specs.declared.outcome.Outcome.{Outcome}
use Rattle.pf_convert.specs.Outcomes.{IsLowerOrLonger, IsNoFarther, IsNoFartherWith, IsClosestQuantum, outcome_at}

lower_turned : (m n : ℕ) (a b : Outcome) → (IsLowerOrLonger m n a b → ⊥) → IsLowerOrLonger n m b a
lower_turned m n a b never =
    elim (cases_lt m n) [
      | inl lt ↦ absurd (never (inl lt))
      | inr le ↦
          elim (cases_lt n m) [
            | inl lt ↦ inl lt
            | inr also ↦
                elim (cases_lt a.quantum b.quantum) [
                  | inl shorter ↦ inr (omega (arith, le, also), omega (arith, shorter))
                  | inr longer ↦ absurd (never (inr (omega (arith, le, also), longer)))
                ]
          ]
    ]

turned_with : (x y : Option ℕ) (a b : Outcome) → (IsNoFartherWith x y a b → ⊥) → IsNoFartherWith y x b a
turned_with (Some m) (Some n) a b never = lower_turned m n a b never
turned_with (Some m) None a b never = absurd (never tt)
turned_with None (Some n) a b never = tt
turned_with None None a b never = lower_turned a.faults b.faults a b never

-- where one is farther, the other is no farther
pub turned : (a b : Outcome) → (IsNoFarther a b → ⊥) → IsNoFarther b a
turned a b never = turned_with a.needed b.needed a b never

same_with : (x : Option ℕ) (a : Outcome) → IsNoFartherWith x x a a
same_with (Some m) a = inr (refl, omega arith)
same_with None a = inr (refl, omega arith)

lower_through : (m n o : ℕ) (a b c : Outcome) → IsLowerOrLonger m n a b → IsLowerOrLonger n o b c → IsLowerOrLonger m o a c
lower_through m n o a b c x y =
    elim x [
      | inl lt ↦ elim y [ inl also ↦ inl (omega (arith, lt, also)) | inr both ↦ inl (omega (arith, lt, both.0)) ]
      | inr both ↦
          elim y [
            | inl lt ↦ inl (omega (arith, both.0, lt))
            | inr also ↦ inr (omega (arith, both.0, also.0), omega (arith, both.1, also.1))
          ]
    ]

through_with : (x y z : Option ℕ) (a b c : Outcome) → IsNoFartherWith x y a b → IsNoFartherWith y z b c → IsNoFartherWith x z a c
through_with (Some m) (Some n) (Some o) a b c p q = lower_through m n o a b c p q
through_with (Some m) (Some n) None a b c p q = tt
through_with (Some m) None (Some o) a b c p q = absurd q
through_with (Some m) None None a b c p q = tt
through_with None (Some n) z a b c p q = absurd p
through_with None None (Some o) a b c p q = absurd q
through_with None None None a b c p q = lower_through a.faults b.faults c.faults a b c p q

-- of the first so many it is the closest
pub record IsClosestOfFirst (outcomes : List Outcome) (n i : ℕ) : Type 0 where
  pub within : i < length outcomes
  pub closest : All (IsNoFarther (outcome_at outcomes i)) (take n outcomes)

-- one without faults and processors
abbrev none : Outcome
none = record { quantum = 0; needed = None; faults = 0 }

pub first_closest : (outcomes : List Outcome) → 1 ≤ length outcomes → IsClosestOfFirst outcomes 1 0
first_closest outcomes some = record {
  within = some;
  closest = All-more (IsNoFarther (outcome_at outcomes 0)) outcomes 0 none some (λ k d lt. absurd (omega (arith, lt)))
      (same_with (outcome_at outcomes 0).needed (outcome_at outcomes 0));
}

pub closer_of_first : (outcomes : List Outcome) (n i r : ℕ) → n < length outcomes
    → (IsNoFarther (outcome_at outcomes i) (outcome_at outcomes n) × (r ≡ i)) ⊎ (IsNoFarther (outcome_at outcomes n) (outcome_at outcomes i) × (r ≡ n))
    → IsClosestOfFirst outcomes n i → IsClosestOfFirst outcomes (n + 1) r
closer_of_first outcomes n i r lt closer h =
    elim closer [
      | inl old ↦
          subst (IsClosestOfFirst outcomes (n + 1)) (sym old.1)
          (record { within = h.within; closest = All-more (IsNoFarther (outcome_at outcomes i)) outcomes n none lt h.closest old.0 })
      | inr new ↦
          let a = outcome_at outcomes n in
          let b = outcome_at outcomes i in
          subst (IsClosestOfFirst outcomes (n + 1)) (sym new.1)
          (record {
            within = lt;
            closest =
                All-more (IsNoFarther a) outcomes n none lt
                (All-weaker (IsNoFarther b) (IsNoFarther a) (λ o f. through_with a.needed b.needed o.needed a b o new.0 f) (take n outcomes) h.closest)
                (same_with a.needed a);
          })
    ]

pub closest_of_all : (outcomes : List Outcome) (n i : ℕ) → length outcomes ≤ n → IsClosestOfFirst outcomes n i → IsClosestQuantum outcomes i
closest_of_all outcomes n i le h = record {
  within = h.within;
  closest = subst (λ os. All (IsNoFarther (outcome_at outcomes i)) os) (take_all n outcomes le) h.closest;
}
