-- What a history issues.
use Rattle.std.proofs.Common.{◌≡◌, ℕ, List, [], ◌∷◌, ◌++◌, ap, sym, ◌∙◌, append_assoc}
use Rattle.std.proofs.lemmas.List.{append-nil}
use Rattle.pf_board.specs.declared.quantum.Quantum.{Quantum}
use Rattle.pf_board.specs.Quanta.{issues}

module _ {E : Type 0} (quanta : E → List Quantum) where
  -- Use: a history with one entry more issues its quanta too.
  pub issues_push : (xs : List (ℕ × E)) (x : ℕ × E) → issues quanta (xs ++ x ∷ []) ≡ issues quanta xs ++ quanta x.1
  issues_push [] x = append-nil (quanta x.1)
  issues_push (y ∷ xs) x = ap (λ qs. quanta y.1 ++ qs) (issues_push xs x) ∙ sym (append_assoc (quanta y.1) (issues quanta xs) (quanta x.1))
