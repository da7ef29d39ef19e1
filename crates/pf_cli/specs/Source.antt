-- Where the script of a task is had from.
use Rattle.std.specs.Prelude.{ℕ, ⊤, ◌≡◌, ◌+◌, ◌<◌, ◌≤◌, List, length, Option, Some, None, IfSome, Result, Ok, Err, Vec, codes}
use Rattle.std.specs.Option.{unwrap_or}
use Rattle.std.specs.declared.alloc.Global.{Global}
use Rattle.pf_vocabulary.specs.declared.fault.fault.Fault.{Fault}
use Rattle.pf_vocabulary.specs.declared.fault.fault.Fault.TheVariants as why
use Rattle.pf_vocabulary.specs.Fault.Faults.{CountsReads}
use Rattle.pf_stream.specs.Reading.{longest_script, TakesAtMost}

-- a script that is no longer than one may be; or it could not be read, is too long, or memory was refused
abbrev pub IsHad : Result (Vec ℕ Global) Fault → Type 0
IsHad (Ok script) = length script.items ≤ longest_script
IsHad (Err why.Read) = ⊤
IsHad (Err why.TooLong) = ⊤
IsHad (Err why.NoMemory) = ⊤
IsHad (Err fault) = ⊥

-- the script is these bytes, which are too many where it is too long
abbrev pub IsOf : List ℕ → Result (Vec ℕ Global) Fault → Type 0
IsOf bytes (Ok script) = script.items ≡ bytes
IsOf bytes (Err why.TooLong) = longest_script < length bytes
IsOf bytes (Err fault) = ⊤

-- it is what a reader had left, where that tells its bytes; the reader failed as the answer says, and of more bytes than a
-- script may have at most one is taken
pub record IsReaders (script : Result (Vec ℕ Global) Fault) (old : Option (List ℕ)) (old_failed : ℕ) (new : Option (List ℕ)) (new_failed : ℕ) : Type 0 where
  pub bytes : IfSome old (λ bytes. IsOf bytes script)
  pub reads : CountsReads script old_failed new_failed
  pub taken : TakesAtMost old new (longest_script + 1)

-- it is what a reader had left; or that of the file that is named, of which no contract can say more, and then the reader is
-- as it was
abbrev pub IsSource : Option (List ℕ) → Result (Vec ℕ Global) Fault → Option (List ℕ) → ℕ → Option (List ℕ) → ℕ → Type 0
IsSource None script old old_failed new new_failed = IsReaders script old old_failed new new_failed
IsSource (Some file) script old old_failed new new_failed = (new ≡ old) × (new_failed ≡ old_failed)

-- the name by which a file is told: `-` for standard input
abbrev pub told_name : Option (List ℕ) → List ℕ
told_name file = unwrap_or file (codes "-")
