-- What a writer has of a text.
use Rattle.std.specs.Prelude.{ℕ, ◌≡◌, ◌+◌, List, ◌++◌, Option, Result, Err}
use Rattle.std.specs.Io.KnownBytes.{Appends}
use Rattle.pf_stream.specs.declared.output_fault.OutputFault.{OutputFault}
use Rattle.pf_stream.specs.declared.output_fault.OutputFault.TheVariants.{Write}

-- the writer took the front of a text, and this is what waits behind it
abbrev pub TookAllBut : List ℕ → Option (List ℕ) → Option (List ℕ) → List ℕ → Type 0
TookAllBut waiting old new text = (front : List ℕ) × Appends old new front × (front ++ waiting ≡ text)

-- the writer took the front of a text, all or nothing of it maybe
abbrev pub TookFront : Option (List ℕ) → Option (List ℕ) → List ℕ → Type 0
TookFront old new text = (rest : List ℕ) × TookAllBut rest old new text

-- the writer failed once where the answer is `Write`, and else not at all
abbrev pub CountsOutput : {A : Type 0} → Result A OutputFault → ℕ → ℕ → Type 0
CountsOutput (Err Write) old new = new ≡ old + 1
CountsOutput result old new = new ≡ old
