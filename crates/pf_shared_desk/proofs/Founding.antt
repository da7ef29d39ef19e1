-- The passes of a board that was just made are of it.
use Rattle.std.proofs.Common.{◌≡◌, ℕ, zero, suc, List, ◌∷◌, refl, subst}
use Rattle.std.specs.Prelude.{All}
use Rattle.std.proofs.lemmas.List.Elements.{All-nil, All-head, All-tail, All-push}
use Rattle.atomic_table.specs.Seated.{TableId}
use Rattle.pf_scenario.specs.System.{System}
use Rattle.pf_desk.specs.declared.entry.Entry.{Entry}
use Rattle.pf_board.specs.Passes.{Passing, new_pass, new_passes}

pub new_are_of : (board : TableId) (terms : System) (n : ℕ) → All (λ (p : Passing Entry System). p.board ≡ board) (new_passes {E = Entry} board terms n)
new_are_of board terms zero = All-nil (λ (p : Passing Entry System). p.board ≡ board)
new_are_of board terms (suc n) =
    All-push (λ (p : Passing Entry System). p.board ≡ board) (new_passes {E = Entry} board terms n) (new_pass {E = Entry} board terms n) (new_are_of board terms n) refl

-- the first of a list, and the rest
pub first_all : {X : Type 0} (P : X → Type 0) (x : X) (xs all : List X) → all ≡ x ∷ xs → All P all → P x × All P xs
first_all P x xs all is of =
    let h = subst (All P) is of in (All-head P x xs h, All-tail P x xs h)
