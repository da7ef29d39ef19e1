-- The quanta in which a list is planned.
use Rattle.std.proofs.Common.{◌≡◌, ◌&&◌, ◌<◌, ◌≤◌, ◌/◌, ℕ, zero, suc, Bool, true, false, List, [], ◌∷◌, All, length, inl, inr, arith, refl, sym, subst}
use Rattle.std.specs.Prelude.{◌⊎◌, if◌then◌else◌, slice_index}
use Rattle.std.specs.Bool.{MatchBool}
use Rattle.std.proofs.Math.Nat.{div-le_self}
use Rattle.std.proofs.lemmas.Bool.Decides.{nat_tests}
use Rattle.std.proofs.lemmas.List.Elements.{All-append, All-cons, All-nil}
use Rattle.pf_convert.specs.declared.quantum.TheConstants.{LONGEST_QUANTUM}
use Rattle.pf_convert.specs.declared.terms.Terms.{Terms}
use Rattle.pf_convert.specs.declared.list.listed.Listed.{Listed}
use Rattle.pf_convert.specs.declared.conversion.planned.Planned.{Planned}
use Rattle.pf_convert.specs.Quotients.{all_quotients, is_tried, quotients_to, whole_quotients}
use Rattle.pf_convert.specs.Conversion.Series.{AreTried, ArePlanned, ArePlannedFor, shortest_time}
use Rattle.pf_convert.proofs.ConversionLemmas.Shortest.{shortest_short}

-- each quotient that is tried is above the switch, and no longer than the time
each_longer : (whole : Bool) (switch time n : ℕ) → All (λ q. switch < q) (quotients_to whole switch time n)
unfolding quotients_to
each_longer whole switch time zero = All-nil (λ q. switch < q)
each_longer whole switch time (suc n) =
    All-append (λ q. switch < q) (quotients_to whole switch time n) _ (each_longer whole switch time n) (one (is_tried whole switch time (suc n)) refl)
  where
    one : (b : Bool) → is_tried whole switch time (suc n) ≡ b → All (λ q. switch < q) (if b then time / suc n ∷ [] else [])
    one true is = All-cons (λ q. switch < q) (time / suc n) [] (grind (arith, nat_tests, is)) (All-nil (λ q. switch < q))
    one false is = All-nil (λ q. switch < q)

each_short : (whole : Bool) (switch time n : ℕ) → time ≤ LONGEST_QUANTUM → All (λ q. q ≤ LONGEST_QUANTUM) (quotients_to whole switch time n)
unfolding quotients_to
each_short whole switch time zero short = All-nil (λ q. q ≤ LONGEST_QUANTUM)
each_short whole switch time (suc n) short =
    All-append (λ q. q ≤ LONGEST_QUANTUM) (quotients_to whole switch time n) _ (each_short whole switch time n short) (one (is_tried whole switch time (suc n)))
  where
    one : (b : Bool) → All (λ q. q ≤ LONGEST_QUANTUM) (if b then time / suc n ∷ [] else [])
    one true =
        All-cons (λ q. q ≤ LONGEST_QUANTUM) (time / suc n) [] (omega (arith, div-le_self time (suc n), short)) (All-nil (λ q. q ≤ LONGEST_QUANTUM))
    one false = All-nil (λ q. q ≤ LONGEST_QUANTUM)

-- what is given for these quanta, or where there are none for others: each is above the switch and up to a second long
pub record ArePlannedIn (terms : Terms) (given : List ℕ) (tasks : List Listed) (all : List Planned) : Type 0 where
  pub quanta : List ℕ
  pub planned : ArePlanned terms tasks quanta all
  pub longer : All (λ q. terms.switch < q) quanta
  pub short : All (λ q. q ≤ LONGEST_QUANTUM) quanta
  pub is_given : (i : ℕ) → i < length quanta → (given ≡ []) ⊎ (given ≡ slice_index quanta i ∷ [])

only : (q i : ℕ) → i < 1 → (q ∷ []) ≡ slice_index (q ∷ []) i ∷ []
only q zero lt = refl
only q (suc i) lt = absurd (omega (arith, lt))

pub planned_in : (terms : Terms) (given : List ℕ) (tasks : List Listed) (all : List Planned) → All (λ q. terms.switch < q) given
    → All (λ q. q ≤ LONGEST_QUANTUM) given → length given ≤ 1 → ArePlannedFor terms given tasks all → ArePlannedIn terms given tasks all
planned_in terms [] tasks all longer short one tried = by tried.enough tried.gives
  where
    by : (b : Bool) → MatchBool b (all ≡ tried.whole) (ArePlanned terms tasks (all_quotients terms.switch (shortest_time tasks)) all) → ArePlannedIn terms [] tasks all
    by true same = record {
      quanta = whole_quotients terms.switch (shortest_time tasks);
      planned = subst (ArePlanned terms tasks (whole_quotients terms.switch (shortest_time tasks))) (sym same) tried.planned;
      longer = each_longer true terms.switch (shortest_time tasks) 64;
      short = each_short true terms.switch (shortest_time tasks) 64 (shortest_short tasks);
      is_given = λ i lt. inl refl;
    }
    by false planned = record {
      quanta = all_quotients terms.switch (shortest_time tasks);
      planned = planned;
      longer = each_longer false terms.switch (shortest_time tasks) 64;
      short = each_short false terms.switch (shortest_time tasks) 64 (shortest_short tasks);
      is_given = λ i lt. inl refl;
    }
planned_in terms (q ∷ []) tasks all longer short one planned = record {
  quanta = q ∷ [];
  planned = planned;
  longer = longer;
  short = short;
  is_given = λ i lt. inr (only q i lt);
}
planned_in terms (q ∷ r ∷ rs) tasks all longer short one planned = absurd (omega (arith, one))
