use Rattle.std.specs.Prelude.{ℕ, Bool, true, ◌==◌, ◌&&◌, not, List, length, Result, Ok, Err}

-- a write failed: it answered an error, or it took none of the bytes offered
abbrev pub is_failed_write : {E : Type 0} → Result ℕ E → List ℕ → Bool
is_failed_write (Ok taken) bytes = (taken == 0) && not (length bytes == 0)
is_failed_write (Err e) bytes = true
