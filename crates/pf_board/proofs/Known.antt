-- What a caller knows of the words after a check that found no quantum.
use Rattle.std.proofs.Common.{◌≡◌, ℕ, zero, suc, ◌<◌, List, [], ◌∷◌, ◌++◌, length, refl, sym, ap, ◌∙◌, ⊎_elim, arith, length-append}
use Rattle.std.proofs.Math.Nat.{eq-or-lt_of_le}
use mathlib.Core.Option.{some}
use lib.ListN.{get_elem?}
use Rattle.atomic_table.proofs.Lists.{at_longer, at_last}
use Rattle.atomic_table.specs.Seated.{TableId}
use Rattle.pf_board.specs.Passes.{IsIn, Passing, AreOf, below, new_pass, new_passes}
use Rattle.pf_board.proofs.Sums.{at_end}

in_more : (xs ys : List ℕ) (p : ℕ) → IsIn ys p → IsIn (xs ++ ys) p
in_more [] ys p there = there
in_more (x ∷ xs) ys p there = let r = in_more xs ys p there in (suc r.0, r.1)

length_below : (n : ℕ) → length (below n) ≡ n
length_below zero = refl
length_below (suc n) = let l = length_below n in let a = length-append (below n) (n ∷ []) in omega arith

at_below : (n p : ℕ) → p < n → get_elem? (below n) p ≡ some p
at_below zero p lt = absurd (omega arith)
at_below (suc n) p lt =
    ⊎_elim
    (λ (e : p ≡ n). at_last (below n) n p (length_below n ∙ sym e) ∙ ap some (sym e))
    (λ (l : p < n). at_longer (below n) (n ∷ []) p p (at_below n p l))
    (eq-or-lt_of_le (omega arith))

-- each processor is among those whose words were found empty
pub checked_all : (xs : List ℕ) (m p : ℕ) → p < m → IsIn (xs ++ below m) p
checked_all xs m p lt = in_more xs (below m) p (p, at_below m p lt)

module _ {E T : Type 0} where
  -- one pass more
  pub more_of : (board : TableId) (ps : List (Passing E T)) (p : Passing E T) → AreOf board ps → p.board ≡ board → AreOf board (ps ++ p ∷ [])
  more_of board ps p of here k q there =
      ⊎_elim
      (of k q)
      (λ (e : (k ≡ length ps) × (p ≡ q)). sym (ap (λ (x : Passing E T). x.board) e.1) ∙ here)
      (at_end ps p q k there)

  -- new passes are of their board
  pub new_are_of : (board : TableId) (terms : T) (n : ℕ) → AreOf board (new_passes {E = E} board terms n)
  new_are_of board terms zero = λ k q there. absurd (cc (there))
  new_are_of board terms (suc n) = more_of board (new_passes {E = E} board terms n) (new_pass {E = E} board terms n) (new_are_of board terms n) refl
