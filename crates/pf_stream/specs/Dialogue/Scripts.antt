-- Texts that grow by lines.
use Rattle.std.specs.Prelude.{ℕ, ◌≡◌, ◌⊎◌, List, [], ◌∷◌, ◌++◌}

-- a text of lines: it is empty or ends with a line feed
abbrev pub IsOfLines : List ℕ → Type 0
IsOfLines text = (text ≡ []) ⊎ ((front : List ℕ) × (text ≡ front ++ 10 ∷ []))

-- a text grew by lines
pub record GrowsTo (script longer : List ℕ) : Type 0 where
  pub more : List ℕ
  pub lines : IsOfLines more
  pub is : longer ≡ script ++ more
