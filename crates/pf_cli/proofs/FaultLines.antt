-- A line that is written in parts.
use Rattle.std.proofs.Common.{ℕ, List, ◌++◌, Option, Result, Ok, Err}
use Rattle.std.specs.Prelude.{OnErr}
use Rattle.std.specs.Io.KnownBytes.{Appends}
use Rattle.std.proofs.KnownBytes.{Appends-trans}
use Rattle.pf_stream.specs.Written.{TookFront}
use Rattle.pf_stream.proofs.Sending.{took-after, took-before}

-- Use: the first part was written in part.
pub first_stopped : (old new : Option (List ℕ)) (text more : List ℕ) → TookFront old new text → TookFront old new (text ++ more)
first_stopped old new text more h = took-before old new text more h

-- Use: the first part was written, and the rest in part, ..
pub rest_stopped : (old mid new : Option (List ℕ)) (text more : List ℕ) → Appends old mid text → TookFront mid new more
    → TookFront old new (text ++ more)
rest_stopped old mid new text more h k = took-after old mid new text more h k

-- .. or all of it.
pub both_written : (old mid new : Option (List ℕ)) (text more : List ℕ) → Appends old mid text → Appends mid new more
    → Appends old new (text ++ more)
both_written old mid new text more h k = Appends-trans old mid new text more h k

-- Use: however the second one ended.
pub err_anyway : {A E : Type 0} (P : Type 0) (r : Result A E) → P → OnErr r P
err_anyway P (Ok x) p = tt
err_anyway P (Err e) p = p
