-- A desk just opened: its passes are of its board, and its viewers of its history.
use Rattle.std.proofs.Common.{◌≡◌, ℕ, zero, suc, List, [], ◌∷◌, ◌++◌, refl, sym, subst}
use Rattle.std.specs.Prelude.{All}
use Rattle.std.proofs.lemmas.List.Elements.{All-nil, All-push}
use Rattle.atomic_table.specs.Seated.{TableId}
use Rattle.pf_scenario.specs.System.{System}
use Rattle.pf_desk.specs.declared.entry.Entry.{Entry}
use Rattle.pf_board.specs.Passes.{Passing, AreOf, new_pass, new_passes}
use Rattle.pf_board.proofs.Known.{new_are_of}
use Rattle.pf_share.specs.Opening.{new_viewers}
use Rattle.pf_share.specs.Reads.{Viewing, new_viewer}
use Rattle.pf_share.specs.Stories.{Origin}

pub boarded : {E T : Type 0} (board : TableId) (terms : T) (n : ℕ) (ps : List (Passing E T)) → ps ≡ new_passes {E = E} board terms n → AreOf board ps
boarded {E} {T} board terms n ps e = subst (λ (l : List (Passing E T)). AreOf board l) (sym e) (new_are_of {E = E} board terms n)

new_on : (board : TableId) (terms : System) (n : ℕ) → All (λ (p : Passing Entry System). p.board ≡ board) (new_passes {E = Entry} board terms n)
new_on board terms zero = All-nil (λ (p : Passing Entry System). p.board ≡ board)
new_on board terms (suc n) =
    All-push (λ (p : Passing Entry System). p.board ≡ board) (new_passes {E = Entry} board terms n) (new_pass {E = Entry} board terms n) (new_on board terms n) refl

pub on_board : (board : TableId) (terms : System) (n : ℕ) (ps : List (Passing Entry System)) → ps ≡ new_passes board terms n → All (λ (p : Passing Entry System). p.board ≡ board) ps
on_board board terms n ps e = subst (λ (l : List (Passing Entry System)). All (λ (p : Passing Entry System). p.board ≡ board) l) (sym e) (new_on board terms n)

new_from : (origin : Origin) (n : ℕ) → All (λ (v : Viewing). v.origin ≡ origin) (new_viewers origin n)
new_from origin zero = All-nil (λ (v : Viewing). v.origin ≡ origin)
new_from origin (suc n) =
    All-push (λ (v : Viewing). v.origin ≡ origin) (new_viewers origin n) (new_viewer origin) (new_from origin n) refl

pub viewed : (origin : Origin) (n : ℕ) (vs : List Viewing) → vs ≡ new_viewers origin n → All (λ (v : Viewing). v.origin ≡ origin) vs
viewed origin n vs e = subst (λ (l : List Viewing). All (λ (v : Viewing). v.origin ≡ origin) l) (sym e) (new_from origin n)
