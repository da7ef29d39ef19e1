-- Texts that were added to texts.
use Rattle.std.proofs.Common.{◌≡◌, ℕ, List, ◌++◌, Result, Ok, Err, ap, ◌∙◌, append_assoc}
use Rattle.std.specs.Prelude.{OnOk}

-- Use: a call added a text to one that had been added to.
pub added_to : {A E : Type 0} (r : Result A E) (new mid old x y : List ℕ) → mid ≡ old ++ x → OnOk r (new ≡ mid ++ y) → OnOk r (new ≡ old ++ (x ++ y))
added_to (Ok a) new mid old x y is h = h ∙ ap (λ t. t ++ y) is ∙ append_assoc old x y
added_to (Err e) new mid old x y is h = tt
