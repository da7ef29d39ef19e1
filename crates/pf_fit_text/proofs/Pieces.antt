-- Texts one behind another.
use Rattle.std.proofs.Common.{◌≡◌, ◌∙◌, ℕ, List, ◌++◌, refl, ap, append_assoc}

-- Use: three pieces behind a text.
pub pieces : (old a b c first second : List ℕ) → first ≡ old ++ a → second ≡ first ++ b → second ++ c ≡ old ++ (a ++ (b ++ c))
pieces old a b c first second is next = ap (λ t. t ++ c) (next ∙ ap (λ t. t ++ b) is) ∙ together where
  together : ((old ++ a) ++ b) ++ c ≡ old ++ (a ++ (b ++ c))
  together = simp append_assoc refl
