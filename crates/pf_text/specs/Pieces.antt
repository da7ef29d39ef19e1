-- A text that is handed out in pieces, from its front to its end.
use Rattle.std.specs.Prelude.{ℕ, ◌≡◌, ◌≤◌, List, [], ◌++◌, length, Option, None, Some}
use Rattle.std.specs.declared.vec.Vec.{Vec}
use Rattle.std.specs.declared.alloc.Global.{Global}

-- Of the text that was left a piece was handed out, which is not empty, and this is left after it. There was no piece only
-- where nothing was left.
abbrev pub TakesPiece : Option (Vec ℕ Global) → List ℕ → List ℕ → Type 0
TakesPiece None was left = (was ≡ []) × (left ≡ [])
TakesPiece (Some piece) was left = (was ≡ piece.items ++ left) × (1 ≤ length piece.items)
