-- A journal at rest, and what a crash may leave of it.
use Rattle.std.specs.Prelude.{◌≡◌, ◌⊎◌, ℕ, ◌≤◌, Bool, true, IsTrue, List, [], ◌∷◌, ◌++◌, length, take}
use Rattle.std.specs.List.{list_all}
use Rattle.pf_journal.specs.Lines.{is_text, lines_of, journal_of, heading, records_of, state_of}
use Rattle.pf_journal.specs.declared.state.State.TheVariants.{New, Journal}

-- on disks of this kind a crash leaves each byte of a torn write as it was or as it was written
abbrev pub IsMixing : {D : Type 0} → (D → Bool) → Type 0
IsMixing {D} is_mixing = (disk : D) → IsTrue (is_mixing disk)

-- a file that opens: it is new, or a journal
abbrev pub IsOpenable : List ℕ → Type 0
IsOpenable file = (state_of file ≡ New) ⊎ (state_of file ≡ Journal)

-- the file ends at this offset with a shut gate
abbrev pub IsShutAt : ℕ → List ℕ → Type 0
IsShutAt gate file = file ≡ take gate file ++ 35 ∷ []

-- while bytes are added after the gate that ends these lines: the gate is shut, or all of them stand after it
abbrev pub IsAdding : List ℕ → List ℕ → List ℕ → Type 0
IsAdding lines added file =
    ((rest : List ℕ) × (file ≡ lines ++ 35 ∷ rest))
    ⊎ ((gate : ℕ) × (file ≡ lines ++ gate ∷ added))

-- so it is where the write of the gate leaves it as it was or as it was written: it is shut, with no more after it, or it is open
abbrev pub IsAddingMixed : List ℕ → List ℕ → List ℕ → Type 0
IsAddingMixed lines added file =
    ((rest : List ℕ) × (length rest ≤ length added) × (file ≡ lines ++ 35 ∷ rest))
    ⊎ (file ≡ lines ++ 32 ∷ added)

-- of a heading its gate was written, and of the rest a part, or any bytes within it
abbrev pub IsBegun : List ℕ → Type 0
IsBegun file = (rest : List ℕ) × (length rest ≤ 8) × (file ≡ 32 ∷ rest)

-- the file stands for the same records as this one, and opens
abbrev pub IsMended : List ℕ → List ℕ → Type 0
IsMended bytes file = (records_of file ≡ records_of bytes) × IsOpenable file

-- the file stands for these records, with all of the new ones or with none of them
abbrev pub IsBeforeOrAfter : List (List ℕ) → List (List ℕ) → List ℕ → Type 0
IsBeforeOrAfter records more file = (records_of file ≡ records) ⊎ (records_of file ≡ records ++ more)

-- the file stands for these records, and the front of more: all of them, some or none
abbrev pub IsWithFront : List (List ℕ) → List (List ℕ) → List ℕ → Type 0
IsWithFront records more file = (front : List (List ℕ)) × (rest : List (List ℕ)) × (more ≡ front ++ rest) × (records_of file ≡ records ++ front)

-- where P holds: a line was added to a batch after these records, which it had room for; or the batch was put, and the next one has it
abbrev pub IsAdded : Type 0 → List (List ℕ) → List (List ℕ) → List ℕ → List (List ℕ) → List (List ℕ) → Type 0
IsAdded P records batch line new_records new_batch =
    ((new_batch ≡ batch ++ line ∷ []) × (P → new_records ≡ records))
    ⊎ ((new_batch ≡ line ∷ []) × (P → new_records ≡ records ++ batch))

-- the file is a journal that ends with a shut gate at this offset
pub record IsAtRest (file : List ℕ) (gate : ℕ) : Type 0 where
  pub records : List (List ℕ)
  pub texts : list_all is_text records ≡ true
  pub is : file ≡ journal_of (heading ∷ records)
  pub size : gate ≡ length (lines_of (heading ∷ records))
