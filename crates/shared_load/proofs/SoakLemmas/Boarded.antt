-- Passes of one board: those without the last, the last, and one more.
use Rattle.std.proofs.Common.{◌≡◌, ℕ, zero, suc, List, [], ◌∷◌, ◌++◌, length, refl, sym, subst}
use Rattle.std.specs.Prelude.{All, Option, None, Some, IfSome, option_to_list}
use Rattle.std.proofs.lemmas.List.Elements.{All-nil, All-push}
use Rattle.atomic_table.proofs.Lists.{at_longer, at_last}
use Rattle.atomic_table.specs.Seated.{TableId}
use Rattle.pf_board.specs.Passes.{Passing, AreOf, new_passes}
use Rattle.pf_board.proofs.Known.{more_of, new_are_of}
use Rattle.pf_share.specs.Opening.{new_viewers}
use Rattle.pf_share.specs.Reads.{Viewing, new_viewer}
use Rattle.pf_share.specs.Stories.{Origin}

module _ {E T : Type 0} where
  pub front_of : (board : TableId) (all ps qs : List (Passing E T)) → all ≡ ps ++ qs → AreOf board all → AreOf board ps
  front_of board all ps qs e of =
      let here = subst (λ (l : List (Passing E T)). AreOf board l) e of in
      λ k q there. here k q (at_longer ps qs k q there)

  pub last_of : (board : TableId) (all ps : List (Passing E T)) (r : Option (Passing E T)) → all ≡ ps ++ option_to_list r → AreOf board all → IfSome r (λ p. p.board ≡ board)
  last_of board all ps None e of = tt
  last_of board all ps (Some p) e of =
      let here = subst (λ (l : List (Passing E T)). AreOf board l) e of in
      here (length ps) p (at_last ps p (length ps) refl)

  pub more : (board : TableId) (all ps : List (Passing E T)) (p : Passing E T) → all ≡ ps ++ p ∷ [] → AreOf board ps → p.board ≡ board → AreOf board all
  more board all ps p e of is = subst (λ (l : List (Passing E T)). AreOf board l) (sym e) (more_of board ps p of is)
