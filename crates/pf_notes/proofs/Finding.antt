-- Searches through lists.
use Rattle.std.proofs.Common.{◌≡◌, ℕ, suc, ◌+◌, ◌-◌, ◌<◌, arith, ◌||◌, Bool, true, false, Option, Some, List, [], ◌∷◌, cond, find, sym, ap, ◌∙◌, ⊎_elim}
use Rattle.std.specs.List.{list_any}
use Rattle.std.proofs.lemmas.Bool.{cases_Bool, cond-true, cond-false}
use Rattle.pf_notes.specs.Point.{first_slot}

-- Use: what is found is there.
pub found_any : {X : Type 0} (p : X → Bool) (xs : List X) (x : X) → find p xs ≡ Some x → list_any p xs ≡ true
found_any p [] x e = cc
found_any p (y ∷ ys) x e = ⊎_elim
    (λ yes. ap (λ b. b || list_any p ys) yes)
    (λ no. ap (λ b. b || list_any p ys) no ∙ found_any p ys x (sym (cond-false (p y) (Some y) (find p ys) no) ∙ e))
    (cases_Bool (p y))

-- Use: the next slot is the one that is looked for, or it is not.
module _ (p : ℕ → Bool) (t to : ℕ) (o : Option ℕ) (inside : t < to) (so_far : first_slot p (t + 1) (to - t) ≡ o) where
  next_is : first_slot p (t + 1) (to - t) ≡ cond (p (t + 1)) (Some (t + 1)) (first_slot p (t + 1 + 1) (to - (t + 1)))
  next_is = ap (first_slot p (t + 1)) (let z : to - t ≡ suc (to - (t + 1)) = omega (arith, inside) in z)

  pub slot_here : p (t + 1) ≡ true → Some (t + 1) ≡ o
  slot_here now = sym (next_is ∙ cond-true (p (t + 1)) (Some (t + 1)) (first_slot p (t + 1 + 1) (to - (t + 1))) now) ∙ so_far

  pub slot_on : p (t + 1) ≡ false → first_slot p (t + 1 + 1) (to - (t + 1)) ≡ o
  slot_on later = sym (next_is ∙ cond-false (p (t + 1)) (Some (t + 1)) (first_slot p (t + 1 + 1) (to - (t + 1))) later) ∙ so_far
