-- What differs between two schedules, slot by slot and processor by processor.
use Rattle.std.proofs.Common.{◌≡◌, ◌∙◌, ◌⊎◌, ℕ, suc, ◌+◌, ◌<◌, ◌≤◌, List, [], ◌∷◌, ◌++◌, Option, Some, Result, Ok, Err, length, drop, min, ⊎_elim, inl, inr, ap, sym, refl, append_assoc, arith}
use Rattle.std.specs.Prelude.{OnOk}
use Rattle.std.specs.List.{slice_get}
use Rattle.std.proofs.Math.ListN.{drop_of_length-le}
use Rattle.std.proofs.lemmas.Grind.{flat_map-append}
use Rattle.std.proofs.Math.Nat.{le-min}
use Rattle.std.proofs.lemmas.List.{at_drop_more, append-nil}
use Rattle.csv.specs.Writing.{row_text, default_writer}
use Rattle.pf_lemmas.proofs.Orders.{within_or}
use Rattle.pf_order.specs.declared.pick.Pick.{Pick}
use Rattle.pf_tally.proofs.Noting.{got_at}
use Rattle.pf_text.specs.Page.{Page}
use Rattle.pf_text.specs.Page.{table_text}
use Rattle.pf_diff.specs.Diff.{row_changes, slot_changes}
use Rattle.pf_diff.specs.Written.{with_records, AddsSlot}

-- the text of records after others
pub table_append : (xs ys : List (List (List ℕ))) → table_text (xs ++ ys) ≡ table_text xs ++ table_text ys
table_append xs ys = flat_map-append (row_text default_writer) xs ys

row_none : (t p : ℕ) (row : List (Option Pick)) → row_changes t p row [] ≡ []
row_none t p [] = refl
row_none t p (x ∷ xs) = refl

slot_none : (t : ℕ) (rows : List (List (Option Pick))) → slot_changes t rows [] ≡ []
slot_none t [] = refl
slot_none t (x ∷ xs) = refl

past_one : (a b p : ℕ) → min a b ≤ p → (a ≤ p) ⊎ (b ≤ p)
past_one a b p over = ⊎_elim inl (λ first. ⊎_elim inr (λ second. absurd (omega (arith, over, le-min {k = suc p} {a = a} {b = b} (omega (arith, first)) (omega (arith, second))))) (within_or b p)) (within_or a p)

-- where one of the rows ends, no record is left
pub row_end : (t p : ℕ) (xs ys : List (Option Pick)) → min (length xs) (length ys) ≤ p → row_changes t p (drop p xs) (drop p ys) ≡ []
row_end t p xs ys over =
    ⊎_elim (λ first. ap (λ row. row_changes t p row (drop p ys)) (drop_of_length-le xs first))
    (λ second. ap (row_changes t p (drop p xs)) (drop_of_length-le ys second) ∙ row_none t p (drop p xs))
    (past_one (length xs) (length ys) p over)

-- the text of all processors
pub row_done : (text before : List ℕ) (t p : ℕ) (xs ys : List (Option Pick)) → min (length xs) (length ys) ≤ p
    → text ++ table_text (row_changes t p (drop p xs) (drop p ys)) ≡ before ++ table_text (row_changes t 0 xs ys)
    → text ≡ before ++ table_text (row_changes t 0 xs ys)
row_done text before t p xs ys over h =
    sym (append-nil text) ∙ sym (ap (λ records. text ++ table_text records) (row_end t p xs ys over)) ∙ h

-- the slots from t on: t, and those after it
pub slot_more : (t : ℕ) (xs ys : List (List (Option Pick))) (x y : List (Option Pick)) → t < length xs → t < length ys
    → Some x ≡ slice_get xs t → Some y ≡ slice_get ys t
    → slot_changes t (drop t xs) (drop t ys) ≡ row_changes t 0 x y ++ slot_changes (t + 1) (drop (t + 1) xs) (drop (t + 1) ys)
slot_more t xs ys x y first second is-x is-y =
    at_drop_more (λ rows. slot_changes t rows (drop t ys)) xs t x first
    ∙ ap (λ r. slot_changes t (r ∷ drop (t + 1) xs) (drop t ys)) (got_at xs t x is-x)
    ∙ at_drop_more (λ rows. slot_changes t (x ∷ drop (t + 1) xs) rows) ys t y second
    ∙ ap (λ r. slot_changes t (x ∷ drop (t + 1) xs) (r ∷ drop (t + 1) ys)) (got_at ys t y is-y)

-- where one of the schedules ends, no record is left
pub slot_end : (t : ℕ) (xs ys : List (List (Option Pick))) → min (length xs) (length ys) ≤ t → slot_changes t (drop t xs) (drop t ys) ≡ []
slot_end t xs ys over =
    ⊎_elim (λ first. ap (λ rows. slot_changes t rows (drop t ys)) (drop_of_length-le xs first))
    (λ second. ap (slot_changes t (drop t xs)) (drop_of_length-le ys second) ∙ slot_none t (drop t xs))
    (past_one (length xs) (length ys) t over)

-- what differs in slot t was added to a page
pub slot_added : (t : ℕ) (xs ys : List (List (Option Pick))) (x y : List (Option Pick)) (old new : Page) → t < length xs → t < length ys
    → Some x ≡ slice_get xs t → Some y ≡ slice_get ys t → new ≡ with_records old (row_changes t 0 x y) → AddsSlot t xs ys old new
slot_added t xs ys x y old new first second is-x is-y e =
    let behind = slot_changes (t + 1) (drop (t + 1) xs) (drop (t + 1) ys) in
    record {
      text = ap (λ (page : Page). page.text ++ table_text behind) e
          ∙ append_assoc old.text (table_text (row_changes t 0 x y)) (table_text behind)
          ∙ ap (λ more. old.text ++ more) (sym (table_append (row_changes t 0 x y) behind))
          ∙ ap (λ records. old.text ++ table_text records) (sym (slot_more t xs ys x y first second is-x is-y));
      fields = ap (λ (page : Page). page.fields) e;
    }

-- all processors of a slot are written to a page
pub row_page : (page old : Page) (t p : ℕ) (xs ys : List (Option Pick)) → min (length xs) (length ys) ≤ p
    → page.text ++ table_text (row_changes t p (drop p xs) (drop p ys)) ≡ old.text ++ table_text (row_changes t 0 xs ys) → page.fields ≡ []
    → page ≡ with_records old (row_changes t 0 xs ys)
row_page page old t p xs ys over h none = λ i. record { text = row_done page.text old.text t p xs ys over h i; fields = none i }

-- the slot was added to a page, where its records were
pub slot_pushed : {A E : Type 0} (r : Result A E) (t : ℕ) (xs ys : List (List (Option Pick))) (x y : List (Option Pick)) (old new : Page)
    → t < length xs → t < length ys → Some x ≡ slice_get xs t → Some y ≡ slice_get ys t
    → OnOk r (new ≡ with_records old (row_changes t 0 x y)) → OnOk r (AddsSlot t xs ys old new)
slot_pushed (Ok v) t xs ys x y old new first second is-x is-y h = slot_added t xs ys x y old new first second is-x is-y h
slot_pushed (Err e) t xs ys x y old new first second is-x is-y h = tt
