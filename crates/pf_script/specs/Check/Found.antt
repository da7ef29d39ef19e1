-- What a check found.
use Rattle.std.specs.Prelude.{ℕ, ◌≡◌, ◌≤◌, ◌<◌, ◌+◌, ◌-◌, ◌^◌, ◌==◌, Bool, true, false, List, [], ◌∷◌}
use Rattle.pf_script.specs.declared.check.found.Found.{Found}
use Rattle.pf_script.specs.Messages.Lines.{FaultMessage}
use Rattle.pf_script.specs.Check.Faults.{faults_count, faults_text}
use Rattle.pf_script.specs.Check.Lines.{after_message, count_of, no_lines, text_of}

-- a check at its beginning
pub record IsFresh (f : Found) : Type 0 where
  pub lines : f.lines ≡ no_lines
  pub records : f.records ≡ 0

-- the message of a bad record was taken
pub record Takes (m : FaultMessage) (old new : Found) : Type 0 where
  pub lines : new.lines ≡ after_message old.lines m
  pub records : new.records ≡ old.records + 1

abbrev pub is_empty : List FaultMessage → Bool
is_empty [] = true
is_empty (m ∷ messages) = false

-- whether nothing was found
abbrev pub is_clean : Found → Bool
is_clean f = count_of f.lines == 0

-- what a check of a script with so many records found are these faults, and no more
pub record Finds (records : ℕ) (messages : List FaultMessage) (f : Found) : Type 0 where
  pub text : text_of f.lines ≡ faults_text records messages
  pub count : count_of f.lines ≡ faults_count records messages
  pub clean : is_clean f ≡ is_empty messages
  pub counted : f.records ≡ records
  pub few : (f.lines.others ≤ f.records + 1) × (f.records < 2 ^ 64 - 2)
