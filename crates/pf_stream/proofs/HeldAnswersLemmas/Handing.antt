-- How a text that was written whole is a front of itself, where what is held back isn't handed on.
use Rattle.std.proofs.Common.{ℕ, List, [], Option}
use Rattle.std.specs.Io.KnownBytes.{Appends, Keeps}
use Rattle.std.proofs.KnownBytes.{Appends-kept}
use Rattle.std.proofs.lemmas.List.{append-nil}
use Rattle.pf_stream.specs.Written.{TookFront}

pub took_all : (old mid new : Option (List ℕ)) (text : List ℕ) → Appends old mid text → Keeps mid new → TookFront old new text
took_all old mid new text h k = ([], (text, Appends-kept old mid new text h k, append-nil text))
