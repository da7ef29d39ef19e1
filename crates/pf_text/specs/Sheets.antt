-- Records in sheets, one sheet after another.
use Rattle.std.specs.Prelude.{ℕ, ◌≡◌, ◌<◌, ◌≤◌, List, [], ◌∷◌, ◌++◌, length}
use Rattle.std.specs.List.{flat_map}
use Rattle.pf_text.specs.Page.{Page, table_text, with_record}

-- these records, of which there is one at most, were added to a page
abbrev pub IsAdded : List (List (List ℕ)) → Page → Page → Type 0
IsAdded [] old new = new ≡ old
IsAdded (fields ∷ more) old new = (more ≡ []) × (new ≡ with_record old fields)

-- of the records that were left the first was added to a page, and these are left after it; or none was added, and all are
-- left
pub record AddsAtMostOne (was left : List (List (List ℕ))) (old new : Page) : Type 0 where
  pub added : List (List (List ℕ))
  pub of_was : was ≡ added ++ left
  pub is : IsAdded added old new

-- the records of the first sheet from a place on, and all of those after it
abbrev pub records_behind : {S : Type 0} → (S → ℕ → List (List (List ℕ))) → ℕ → List S → List (List (List ℕ))
records_behind rest at [] = []
records_behind rest at (sheet ∷ sheets) = rest sheet at ++ flat_map (λ other. rest other 0) sheets

-- the first sheet has so many places
abbrev pub IsWithinSheet : {S : Type 0} → (S → ℕ) → ℕ → List S → Type 0
IsWithinSheet count at [] = Unit {0}
IsWithinSheet count at (sheet ∷ sheets) = at ≤ count sheet

-- records of a sheet of so many places were added to a page, up to a place: these were left before it, and these are left
-- after it. The page has some where it is not the last place
pub record IsFilled (count : ℕ) (was left : List (List (List ℕ))) (to : ℕ) (old new : Page) : Type 0 where
  pub text : new.text ++ table_text left ≡ old.text ++ table_text was
  pub fields : new.fields ≡ []
  pub within : to ≤ count
  pub some : to < count → 1 ≤ length new.text
