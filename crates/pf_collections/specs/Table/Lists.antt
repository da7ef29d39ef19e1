-- Lists by task number.
use Rattle.std.specs.Prelude.{ℕ, List, [], ◌∷◌, ◌++◌, slice_index_or, slice_set}

-- the task's list: empty, where nothing was noted of it
abbrev pub noted_of : {X : Type 0} → List (List X) → ℕ → List X
noted_of lists task = slice_index_or lists task []

-- the lists with x at the end of the task's
abbrev pub with_note : {X : Type 0} → List (List X) → ℕ → X → List (List X)
with_note lists task x = slice_set lists task (noted_of lists task ++ x ∷ [])
