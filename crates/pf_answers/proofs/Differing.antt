-- Rows that differ, and the first and the last of them.
use Rattle.std.proofs.Common.{◌≡◌, ◌∙◌, ◌<◌, ◌-◌, ℕ, zero, suc, Bool, true, false, Option, None, Some, List, ap, inl, inr, refl, subst, sym, arith}
use Rattle.std.specs.Prelude.{◌&&◌, ◌⊎◌, if◌then◌else◌}
use Rattle.pf_order.specs.declared.pick.Pick.{Pick}
use Rattle.pf_place.specs.Occupancy.{sitter}
use Rattle.pf_answers.specs.SlotsChanged.{first_changed, last_changed, same_at, same_places, same_sitter, this_or}

below_or_at : (p m : ℕ) → p < suc m → (p < m) ⊎ (p ≡ m)
below_or_at zero zero h = inr refl
below_or_at zero (suc m) h = inl (omega arith)
below_or_at (suc p) zero h = absurd (omega (arith, h))
below_or_at (suc p) (suc m) h = next (below_or_at p m (omega (arith, h)))
  where
    next : (p < m) ⊎ (p ≡ m) → (suc p < suc m) ⊎ (suc p ≡ suc m)
    next (inl less) = inl (omega (arith, less))
    next (inr same) = inr (ap suc same)

-- Use: another sits on one of the processors.
pub other_place : (a b : List (Option Pick)) (p m : ℕ) → p < m → same_sitter (sitter a p) (sitter b p) ≡ false → same_places a b m ≡ false
other_place a b p zero h other = absurd (omega (arith, h))
other_place a b p (suc m) h other = by (below_or_at p m h) (λ less. other_place a b p m less other)
  where
    no_left : (x y : Bool) → x ≡ false → (x && y) ≡ false
    no_left x y e = rw e refl

    no_right : (x y : Bool) → y ≡ false → (x && y) ≡ false
    no_right true y e = e
    no_right false y e = refl

    by : (p < m) ⊎ (p ≡ m) → (p < m → same_places a b m ≡ false) → same_places a b (suc m) ≡ false
    by (inl less) before = no_left (same_places a b m) (same_sitter (sitter a m) (sitter b m)) (before less)
    by (inr same) before =
        no_right (same_places a b m) (same_sitter (sitter a m) (sitter b m))
        (ap (λ k. same_sitter (sitter a k) (sitter b k)) (sym same) ∙ other)

module _ (m : ℕ) (before after : List (List (Option Pick))) where
  -- Use: a slot that differs is the first one, where none before it does.
  pub first_stays : (t n : ℕ) → t < n → first_changed m before after t ≡ None → same_at m before after t ≡ false → Some t ≡ first_changed m before after n
  first_stays t zero h none other = absurd (omega (arith, h))
  first_stays t (suc n) h none other = by (below_or_at t n h) (λ less. first_stays t n less none other)
    where
      by : (t < n) ⊎ (t ≡ n) → (t < n → Some t ≡ first_changed m before after n) → Some t ≡ first_changed m before after (suc n)
      by (inl less) first = ap (λ o. this_or o (if same_at m before after n then None else Some n)) (first less)
      by (inr same) first = subst (λ k. Some t ≡ first_changed m before after (suc k)) same
          (ap (λ o. this_or o (Some t)) (sym none) ∙ ap (λ b. this_or (first_changed m before after t) (if b then None else Some t)) (sym other))

  -- Use: a slot that does not differ leaves it open.
  pub none_more : (t : ℕ) → first_changed m before after t ≡ None → same_at m before after t ≡ true → first_changed m before after (suc t) ≡ None
  none_more t none same = ap (λ o. this_or o (if same_at m before after t then None else Some t)) none ∙ ap (λ b. if b then None else Some t) same

  -- Use: one slot less.
  pub last_step : (left t : ℕ) (b : Bool) → left ≡ suc t → same_at m before after t ≡ b
      → last_changed m before after left ≡ (if b then last_changed m before after t else Some t)
  last_step left t b one is = ap (last_changed m before after) one ∙ ap (λ c. if c then last_changed m before after t else Some t) is
