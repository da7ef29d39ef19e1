-- Rows of one width, packed.
use Rattle.std.specs.Prelude.{ℕ, zero, suc, ◌+◌, List, [], ◌∷◌}

-- where so many rows of one width end, where the first begins at `from`
abbrev pub even_ends : ℕ → ℕ → ℕ → List ℕ
even_ends from width zero = []
even_ends from width (suc count) = (from + width) ∷ even_ends (from + width) width count
