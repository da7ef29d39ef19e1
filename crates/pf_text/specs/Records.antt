-- The records of a table, one after another.
use Rattle.std.specs.Prelude.{ℕ, ◌≡◌, List, ◌∷◌}
use Rattle.pf_text.specs.Page.{Page, with_record}

-- the first of the records that were left was added to a page, and these are left after it
abbrev pub AddsRecord : List (List (List ℕ)) → List (List (List ℕ)) → Page → Page → Type 0
AddsRecord was left old new = (fields : List (List ℕ)) × (was ≡ fields ∷ left) × (new ≡ with_record old fields)
