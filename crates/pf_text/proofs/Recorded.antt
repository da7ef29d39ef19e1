-- A table's text, record by record.
use Rattle.std.proofs.Common.{◌≡◌, ℕ, ◌∙◌, List, ◌∷◌, ◌++◌, [], Result, Ok, Err, ap, sym, append_assoc}
use Rattle.std.specs.Prelude.{OnOk}
use Rattle.std.proofs.lemmas.List.{append-nil}
use Rattle.csv.specs.Writing.{row_text, default_writer}
use Rattle.pf_text.specs.Page.{Page, with_record, table_text}
use Rattle.pf_text.specs.Records.{AddsRecord}

-- the first of the records left is written
pub record_written : (text whole : List ℕ) (fields : List (List ℕ)) (left rest : List (List (List ℕ))) → left ≡ fields ∷ rest → text ++ table_text left ≡ whole
    → (text ++ row_text default_writer fields) ++ table_text rest ≡ whole
record_written text whole fields left rest e h =
    append_assoc text (row_text default_writer fields) (table_text rest) ∙ sym (ap (λ records. text ++ table_text records) e) ∙ h

-- no record is left
pub table_written : (text whole : List ℕ) (left : List (List (List ℕ))) → left ≡ [] → text ++ table_text left ≡ whole → text ≡ whole
table_written text whole left none h = sym (append-nil text) ∙ sym (ap (λ records. text ++ table_text records) none) ∙ h

-- the first of the records left was added to a page
pub first_added : {A E : Type 0} (r : Result A E) (was left : List (List (List ℕ))) (fields : List (List ℕ)) (old new : Page) → was ≡ fields ∷ left
    → OnOk r (new ≡ with_record old fields) → OnOk r (AddsRecord was left old new)
first_added (Ok x) was left fields old new first h = (fields, first, h)
first_added (Err e) was left fields old new first h = tt
