-- Passes of one board: those without the last, the last, one more, and new ones; and new viewers of one desk.
use Rattle.std.proofs.Common.{◌≡◌, ℕ, zero, suc, Bool, true, false, List, [], ◌∷◌, ◌++◌, length, refl, sym, subst}
use Rattle.std.specs.Prelude.{if◌then◌else◌, All, Option, None, Some, IfSome, option_to_list}
use Rattle.std.proofs.lemmas.List.Elements.{All-nil, All-push}
use Rattle.atomic_table.proofs.Lists.{at_longer, at_last}
use Rattle.atomic_table.specs.Seated.{TableId}
use Rattle.pf_board.specs.Passes.{Passing, AreOf, new_passes}
use Rattle.pf_board.proofs.Known.{more_of, new_are_of}
use Rattle.pf_share.specs.Opening.{new_viewers}
use Rattle.pf_share.specs.Reads.{Viewing, new_viewer}
use Rattle.pf_share.specs.Stories.{Origin}

module _ {E T : Type 0} where
  pub front_of : (board : TableId) (all ps qs : List (Passing E T)) → all ≡ ps ++ qs → AreOf board all → AreOf board ps
  front_of board all ps qs e of =
      let here = subst (λ (l : List (Passing E T)). AreOf board l) e of in
      λ k q there. here k q (at_longer ps qs k q there)

  pub last_of : (board : TableId) (all ps : List (Passing E T)) (r : Option (Passing E T)) → all ≡ ps ++ option_to_list r → AreOf board all → IfSome r (λ p. p.board ≡ board)
  last_of board all ps None e of = tt
  last_of board all ps (Some p) e of =
      let here = subst (λ (l : List (Passing E T)). AreOf board l) e of in
      here (length ps) p (at_last ps p (length ps) refl)

  pub more : (board : TableId) (all ps : List (Passing E T)) (p : Passing E T) → all ≡ ps ++ p ∷ [] → AreOf board ps → p.board ≡ board → AreOf board all
  more board all ps p e of is = subst (λ (l : List (Passing E T)). AreOf board l) (sym e) (more_of board ps p of is)

  pub pushed : (board : TableId) (all ps : List (Passing E T)) (p : Passing E T) (is : Bool) → all ≡ (if is then ps ++ p ∷ [] else ps) → AreOf board ps → p.board ≡ board → AreOf board all
  pushed board all ps p true e of is = more board all ps p e of is
  pushed board all ps p false e of is = subst (λ (l : List (Passing E T)). AreOf board l) (sym e) of

  pub boarded : (board : TableId) (terms : T) (n : ℕ) (ps : List (Passing E T)) → ps ≡ new_passes {E = E} board terms n → AreOf board ps
  boarded board terms n ps e = subst (λ (l : List (Passing E T)). AreOf board l) (sym e) (new_are_of {E = E} board terms n)

new_from : (origin : Origin) (n : ℕ) → All (λ (v : Viewing). v.origin ≡ origin) (new_viewers origin n)
new_from origin zero = All-nil (λ (v : Viewing). v.origin ≡ origin)
new_from origin (suc n) =
    All-push (λ (v : Viewing). v.origin ≡ origin) (new_viewers origin n) (new_viewer origin) (new_from origin n) refl

pub viewed : (origin : Origin) (n : ℕ) (vs : List Viewing) → vs ≡ new_viewers origin n → All (λ (v : Viewing). v.origin ≡ origin) vs
viewed origin n vs e = subst (λ (l : List Viewing). All (λ (v : Viewing). v.origin ≡ origin) l) (sym e) (new_from origin n)
