-- What came and is not answered yet.
use Rattle.std.specs.Prelude.{ℕ, ◌≡◌, ◌≢◌, ◌<◌, ◌≤◌, Bool, true, false, Option, Some, List, [], ◌++◌, length, slice_range}
use Rattle.pf_stream.specs.Dialogue.Lines.{IsFront, ahead_with}
use Rattle.pf_stream.specs.Dialogue.Sits.{HearsMore}
use Rattle.pf_stream.specs.declared.dialogue.ahead.Ahead.{Ahead}

-- the front of a line, and what is left of a piece
abbrev pub ahead_of : Ahead → List ℕ
ahead_of a = a.line.items ++ slice_range a.piece.items a.from a.to

pub record IsAhead (a : Ahead) : Type 0 where
  pub front : IsFront a.line.items
  pub some : 0 < length a.piece.items
  pub order : a.from ≤ a.to
  pub bound : a.to ≤ length a.piece.items

-- more was asked for where nothing of the piece was left, and that was the end of all, or not
pub record HearsAhead {D : Type 0} (hears : D → List ℕ → D → Type 0) (d : D) (old : Ahead) (ends : Bool) (e : D) (new : Ahead) : Type 0 where
  pub came : Option (List ℕ)
  pub heard : HearsMore hears d (ahead_of old) came e
  pub ahead : ahead_of new ≡ ahead_with (ahead_of old) came
  pub is : IsAhead new
  pub end : ends ≡ true → came ≡ Some []
  pub none : ends ≡ true → new.from ≡ new.to
  pub more : ends ≡ false → came ≢ Some []
