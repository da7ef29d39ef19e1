-- A table's text, sheet by sheet.
use Rattle.std.proofs.Common.{◌≡◌, ◌∙◌, ℕ, ◌+◌, ◌<◌, List, [], ◌∷◌, ◌++◌, length, drop, get_or, sym, ap, refl, append_assoc, arith}
use Rattle.std.specs.List.{flat_map}
use Rattle.std.proofs.lemmas.Grind.{flat_map-append}
use Rattle.std.proofs.lemmas.List.{at_drop_more}
use Rattle.std.proofs.lemmas.List.Concat.{flat_map-cons}
use Rattle.csv.specs.Writing.{row_text, default_writer}
use Rattle.pf_text.specs.Page.{Page, table_text}
use Rattle.pf_text.specs.Sheets.{IsWithinSheet, records_behind}

table_text-append : (xs ys : List (List (List ℕ))) → table_text (xs ++ ys) ≡ table_text xs ++ table_text ys
table_text-append xs ys = flat_map-append (row_text default_writer) xs ys

module _ {S : Type 0} (rest : S → ℕ → List (List (List ℕ))) where
  from_start : (sheets : List S) → records_behind rest 0 sheets ≡ flat_map (λ sheet. rest sheet 0) sheets
  from_start [] = refl
  from_start (sheet ∷ sheets) = sym (flat_map-cons (λ other. rest other 0) sheet sheets)

  -- places of a sheet were passed
  sheet_filled : (sheet : S) (others : List S) (from to : ℕ) (old new : Page) (whole : List ℕ)
      → new.text ++ table_text (rest sheet to) ≡ old.text ++ table_text (rest sheet from)
      → old.text ++ table_text (records_behind rest from (sheet ∷ others)) ≡ whole
      → new.text ++ table_text (records_behind rest to (sheet ∷ others)) ≡ whole
  sheet_filled sheet others from to old new whole filled so_far =
      let behind = flat_map (λ other. rest other 0) others in
      let parts : (k : ℕ) (page : Page) → page.text ++ table_text (rest sheet k ++ behind) ≡ (page.text ++ table_text (rest sheet k)) ++ table_text behind =
      λ k page. ap (λ t. page.text ++ t) (table_text-append (rest sheet k) behind)
      ∙ sym (append_assoc page.text (table_text (rest sheet k)) (table_text behind)) in
      parts to new ∙ ap (λ t. t ++ table_text behind) filled ∙ sym (parts from old) ∙ so_far

  -- the last one was passed
  sheet_passed : (sheet : S) (others : List S) (to : ℕ) (new : Page) (whole : List ℕ) → rest sheet to ≡ []
      → new.text ++ table_text (records_behind rest to (sheet ∷ others)) ≡ whole
      → new.text ++ table_text (records_behind rest 0 others) ≡ whole
  sheet_passed sheet others to new whole none so_far =
      ap (λ rs. new.text ++ table_text rs)
      (from_start others ∙ ap (λ rs. rs ++ flat_map (λ other. rest other 0) others) (sym none))
      ∙ so_far

  -- of the sheets that are left
  module _ (sheets : List S) (i : ℕ) (sheet : S) (lt : i < length sheets) (is : sheet ≡ get_or sheets i sheet) (from to : ℕ) (old new : Page) (whole : List ℕ)
      (filled : new.text ++ table_text (rest sheet to) ≡ old.text ++ table_text (rest sheet from))
      (so_far : old.text ++ table_text (records_behind rest from (drop i sheets)) ≡ whole) where
    first_is : drop i sheets ≡ sheet ∷ drop (i + 1) sheets
    first_is = at_drop_more (λ xs. xs) sheets i sheet lt ∙ ap (λ x. x ∷ drop (i + 1) sheets) (sym is)

    first_filled : new.text ++ table_text (records_behind rest to (sheet ∷ drop (i + 1) sheets)) ≡ whole
    first_filled =
        sheet_filled sheet (drop (i + 1) sheets) from to old new whole filled
        (ap (λ xs. old.text ++ table_text (records_behind rest from xs)) (sym first_is) ∙ so_far)

    -- Use: it was left at a place
    pub left_at : new.text ++ table_text (records_behind rest to (drop i sheets)) ≡ whole
    left_at = ap (λ xs. new.text ++ table_text (records_behind rest to xs)) first_is ∙ first_filled

    -- Use: it was passed
    pub passed_to : rest sheet to ≡ [] → new.text ++ table_text (records_behind rest 0 (drop (i + 1) sheets)) ≡ whole
    passed_to none = sheet_passed sheet (drop (i + 1) sheets) to new whole none first_filled

  pub within_start : (count : S → ℕ) (sheets : List S) → IsWithinSheet count 0 sheets
  within_start count [] = tt
  within_start count (sheet ∷ sheets) = omega arith
