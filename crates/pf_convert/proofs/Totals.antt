-- What the first of some tasks cost, task by task.
use Rattle.std.proofs.Common.{◌≡◌, ℕ, ◌+◌, ◌<◌, ◌≤◌, inl, inr, List, [], ◌∷◌, ◌++◌, length, take, get_or, max, sym, ◌∙◌, ap, subst, arith}
use Rattle.std.specs.Prelude.{All}
use Rattle.std.proofs.lemmas.Bool.{cases_lt}
use Rattle.std.proofs.lemmas.List.{take-take, get_or_append_left, get_or_push, length_push, length-take-le, get_or-take}
use Rattle.std.proofs.lemmas.List.Elements.{All-more, All-take}
use Rattle.std.proofs.lemmas.List.Sums.{sum_by_more}
use Rattle.pf_convert.specs.declared.slotted.Slotted.{Slotted}
use Rattle.pf_convert.specs.declared.total.Total.{Total}
use Rattle.pf_convert.specs.Totals.{IsTotal}

-- the totals of none of the tasks up to the first i
pub record AreTotalsTo (tasks : List Slotted) (i : ℕ) (totals : List Total) : Type 0 where
  pub many : length totals ≡ i + 1
  pub each : (k : ℕ) (d : Total) → k ≤ i → IsTotal (take k tasks) (get_or totals k d)

-- one more task
pub total_more : (tasks : List Slotted) (i : ℕ) (total : Total) (d : Slotted) → i < length tasks → IsTotal (take i tasks) total
    → IsTotal (take (i + 1) tasks) (record { cost = total.cost + (get_or tasks i d).cost; greatest = max total.greatest (get_or tasks i d).cost })
total_more tasks i total d lt h =
    let long : length (take (i + 1) tasks) ≡ i + 1 = length-take-le (i + 1) tasks (omega (arith, lt)) in
    record {
      cost = ap (λ v. v + (get_or tasks i d).cost) h.cost ∙ sym (sum_by_more (λ t. t.cost) tasks i d lt);
      greatest = λ m. (
        λ all.
            (let before : All (λ t. t.cost ≤ m) (take i tasks) =
            subst (All (λ t. t.cost ≤ m)) (take-take i (i + 1) tasks (omega arith)) (All-take (λ t. t.cost ≤ m) i (take (i + 1) tasks) all) in
            let last : (get_or tasks i d).cost ≤ m =
            subst (λ t. t.cost ≤ m) (get_or-take (i + 1) tasks i d (omega arith)) (all i d (omega (arith, long))) in
            omega (arith, (h.greatest m).0 before, last)),
        λ le. All-more (λ t. t.cost ≤ m) tasks i d lt ((h.greatest m).1 (omega (arith, le))) (omega (arith, le)),
      );
    }

-- the same of what a loop reads
pub total_read : (tasks : List Slotted) (i cost greatest : ℕ) (total : Total) (d : Slotted) → i < length tasks → IsTotal (take i tasks) total
    → cost ≡ (get_or tasks i d).cost → greatest ≡ max total.greatest (get_or tasks i d).cost
    → IsTotal (take (i + 1) tasks) (record { cost = total.cost + cost; greatest = greatest })
total_read tasks i cost greatest total d lt h same most =
    subst (λ v. IsTotal (take (i + 1) tasks) (record { cost = total.cost + v; greatest = greatest })) (sym same)
    (subst (λ v. IsTotal (take (i + 1) tasks) (record { cost = total.cost + (get_or tasks i d).cost; greatest = v })) (sym most)
    (total_more tasks i total d lt h))

pub totals_more : (tasks : List Slotted) (i : ℕ) (totals : List Total) (next : Total) → AreTotalsTo tasks i totals → IsTotal (take (i + 1) tasks) next
    → AreTotalsTo tasks (i + 1) (totals ++ next ∷ [])
totals_more tasks i totals next h is = record {
  many = length_push totals next ∙ ap (λ v. v + 1) h.many;
  each = λ k d le.
      elim (cases_lt k (i + 1)) [
        | inl lt ↦
            subst (IsTotal (take k tasks)) (sym (get_or_append_left totals (next ∷ []) d k (omega (arith, lt, h.many))))
            (h.each k d (omega (arith, lt)))
        | inr ge ↦
            (let same : k ≡ i + 1 = omega (arith, le, ge) in
            subst (IsTotal (take k tasks)) (sym (get_or_push totals next d k (h.many ∙ sym same))) (subst (λ v. IsTotal (take v tasks) next) (sym same) is))
      ];
}
