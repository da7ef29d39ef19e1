-- The passes that are handed in, one after another.
use Rattle.std.proofs.Common.{◌≡◌, zero, suc, List, [], ◌∷◌, ◌++◌, refl, sym, ap, subst, ◌∙◌, append_assoc}
use Rattle.atomic_table.specs.Seated.{TableId}
use Rattle.pf_board.specs.declared.hand.Hand.{Hand}
use Rattle.pf_board.specs.Passes.{Passing, AreOf}
use Rattle.pf_board.specs.Closed.{hand_in, hands_in}

module _ {E T : Type 0} where
  -- the first of them is of the board, and the others are
  pub first_of : (board : TableId) (p : Passing E T) (ps all : List (Passing E T)) → all ≡ p ∷ ps → AreOf board all → (p.board ≡ board) × AreOf board ps
  first_of board p ps all e of =
      let here = subst (λ (l : List (Passing E T)). AreOf board l) e of in
      (here zero p refl, λ k q there. here (suc k) q there)

  -- its hand goes after those before it
  pub one_more : (gs hs : List (Hand E)) (p : Passing E T) (ps all : List (Passing E T)) (sum : List (Hand E)) → all ≡ p ∷ ps → hs ≡ gs ++ hand_in p ∷ [] → gs ++ hands_in all ≡ sum → hs ++ hands_in ps ≡ sum
  one_more gs hs p ps all sum e more before =
      ap (λ l. l ++ hands_in ps) more ∙ (append_assoc gs (hand_in p ∷ []) (hands_in ps) ∙ (ap (λ (l : List (Passing E T)). gs ++ hands_in l) (sym e) ∙ before))
