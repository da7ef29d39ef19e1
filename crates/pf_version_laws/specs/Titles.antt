-- What a plan tells that no desk holds.
use Rattle.std.specs.Prelude.{⊤, ℕ, ◌≡◌, ◌<◌, ◌≤◌, true, false, Option, None, Some, List, [], ◌∷◌, All}
use Rattle.std.specs.Str.{bytes_eq}
use Rattle.pf_vocabulary.specs.Names.Text.{is_text}
use Rattle.pf_vocabulary.specs.declared.names.named.Named.{Named}
use Rattle.pf_vocabulary.specs.declared.names.slot_length.SlotLength.{SlotLength}
use Rattle.pf_vocabulary.specs.declared.names.slot_length.TheConstants.{LARGEST_LENGTH}
use Rattle.pf_vocabulary.specs.declared.names.titles.Titles.{Titles}
use Rattle.pf_weight.specs.declared.task.TheConstants.{LARGEST_TASK}
use Rattle.pf_plain_script.specs.Plain.{Plain, plain}

-- a name of a task that a script may give
pub record IsGivable (named : Named) : Type 0 where
  pub some : 1 ≤ named.task
  pub few : named.task ≤ LARGEST_TASK
  pub text : is_text named.name ≡ true

-- names by task, no two of them the same
unfoldable pub AreGivable : List Named → Type 0
AreGivable [] = ⊤
AreGivable (named ∷ names) =
    IsGivable named × All (λ other. named.task < other.task) names × All (λ other. bytes_eq named.name other.name ≡ false) names × AreGivable names

-- a length that a script may give
pub record IsSlot (slot : SlotLength) : Type 0 where
  pub some : 1 ≤ slot.length
  pub few : slot.length ≤ LARGEST_LENGTH

abbrev pub IsLength : Option SlotLength → Type 0
IsLength None = ⊤
IsLength (Some slot) = IsSlot slot

-- titles that a plan may tell
pub record AreTold (titles : Titles) : Type 0 where
  pub is_plan : titles.is_plan ≡ true
  pub names : AreGivable titles.names
  pub slot : IsLength titles.slot

-- a plan tells no others
abbrev pub TitlesAreTold : Type 0
TitlesAreTold = (bytes : List ℕ) (p : Plain) → plain bytes ≡ Some p → AreTold p.titles
