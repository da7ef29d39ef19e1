-- The fields of a line, which commas join, byte by byte.
use Rattle.std.proofs.Common.{◌≡◌, ◌∙◌, ℕ, ◌+◌, ◌-◌, ◌<◌, ◌≤◌, List, [], ◌∷◌, ◌++◌, length, drop, get_or, ap, sym, arith}
use Rattle.std.specs.Prelude.{if◌then◌else◌, slice_index_or}
use Rattle.std.specs.List.{slice_range}
use Rattle.std.proofs.lemmas.Bool.{eq-eqb, ne_eqb}
use Rattle.std.proofs.lemmas.List.{at_drop_more, at_drop_all, get_or-drop, length-drop, take_all}
use Rattle.pf_lemmas.proofs.Lists.{nothing_between, longer}
use Rattle.pf_vocabulary.specs.TaskLines.Lines.{fields_from}

-- the field in the column is the one so many places after the byte `start`, of whose field the bytes before `end` were read
pub record IsReadTo (line : List ℕ) (column left start end : ℕ) : Type 0 where
  pub begun : start ≤ end
  pub same : slice_index_or (fields_from (slice_range line start end) (drop end line)) left [] ≡ slice_index_or (fields_from [] line) column []

at_comma : (field line : List ℕ) (end : ℕ) → end < length line → get_or line end 0 ≡ 44
    → fields_from field (drop end line) ≡ field ∷ fields_from [] (drop (end + 1) line)
unfolding fields_from
at_comma field line end lt comma =
    at_drop_more (fields_from field) line end 0 lt
    ∙ ap (λ b. if b then field ∷ fields_from [] (drop (end + 1) line) else fields_from (field ++ get_or line end 0 ∷ []) (drop (end + 1) line))
    (eq-eqb (get_or line end 0) 44 comma)

at_byte : (field line : List ℕ) (end : ℕ) → end < length line → (get_or line end 0 ≡ 44 → ⊥)
    → fields_from field (drop end line) ≡ fields_from (field ++ get_or line end 0 ∷ []) (drop (end + 1) line)
unfolding fields_from
at_byte field line end lt other =
    at_drop_more (fields_from field) line end 0 lt
    ∙ ap (λ b. if b then field ∷ fields_from [] (drop (end + 1) line) else fields_from (field ++ get_or line end 0 ∷ []) (drop (end + 1) line))
    (ne_eqb (get_or line end 0) 44 other)

at_end : (field line : List ℕ) (end : ℕ) → length line ≤ end → fields_from field (drop end line) ≡ field ∷ []
unfolding fields_from
at_end field line end le = at_drop_all (fields_from field) line end le

pub field_met : (line : List ℕ) (column left start end : ℕ) → IsReadTo line column left start end → end < length line → get_or line end 0 ≡ 44 → left ≡ 0
    → slice_range line start end ≡ slice_index_or (fields_from [] line) column []
field_met line column left start end h lt comma zero =
    sym (ap (λ fields. slice_index_or fields 0 []) (at_comma (slice_range line start end) line end lt comma))
    ∙ ap (λ k. slice_index_or (fields_from (slice_range line start end) (drop end line)) k []) (sym zero) ∙ h.same

next_field : (field : List ℕ) (fields : List (List ℕ)) (k : ℕ) → slice_index_or fields k [] ≡ slice_index_or (field ∷ fields) (k + 1) []
next_field field fields k =
    let same : 1 + k ≡ k + 1 = omega arith in get_or-drop 1 (field ∷ fields) k [] ∙ ap (λ i. get_or (field ∷ fields) i []) same

pub field_passed : (line : List ℕ) (column left start end : ℕ) → IsReadTo line column left start end → end < length line → get_or line end 0 ≡ 44 → (left ≡ 0 → ⊥)
    → IsReadTo line column (left - 1) (end + 1) (end + 1)
field_passed line column left start end h lt comma some =
    let rest = fields_from [] (drop (end + 1) line) in
    let before : left ≡ (left - 1) + 1 = omega (arith, some) in
    record {
      begun = omega arith;
      same =
          ap (λ f. slice_index_or (fields_from f (drop (end + 1) line)) (left - 1) []) (nothing_between line (end + 1))
          ∙ next_field (slice_range line start end) rest (left - 1)
          ∙ ap (λ k. slice_index_or (slice_range line start end ∷ rest) k []) (sym before)
          ∙ ap (λ fields. slice_index_or fields left []) (sym (at_comma (slice_range line start end) line end lt comma)) ∙ h.same;
    }

pub byte_read : (line : List ℕ) (column left start end : ℕ) → IsReadTo line column left start end → end < length line → (get_or line end 0 ≡ 44 → ⊥)
    → IsReadTo line column left start (end + 1)
byte_read line column left start end h lt other = record {
  begun = omega (arith, h.begun);
  same =
      ap (λ fields. slice_index_or fields left [])
      (sym (at_byte (slice_range line start end) line end lt other ∙ ap (λ f. fields_from f (drop (end + 1) line)) (longer line start end h.begun lt)))
      ∙ h.same;
}

-- the last field, and what is after it
module _ (line : List ℕ) (column left start end : ℕ) (h : IsReadTo line column left start end) (le : length line ≤ end) where
  last : slice_index_or (slice_range line start (length line) ∷ []) left [] ≡ slice_index_or (fields_from [] line) column []
  last =
      let rest = drop start line in
      let whole : slice_range line start end ≡ slice_range line start (length line) =
      take_all (end - start) rest (omega (arith, length-drop start line, le)) ∙ sym (take_all (length line - start) rest (omega (arith, length-drop start line))) in
      ap (λ f. slice_index_or (f ∷ []) left []) (sym whole)
      ∙ ap (λ fields. slice_index_or fields left []) (sym (at_end (slice_range line start end) line end le)) ∙ h.same

  pub last_met : left ≡ 0 → slice_range line start (length line) ≡ slice_index_or (fields_from [] line) column []
  last_met zero = ap (λ k. slice_index_or (slice_range line start (length line) ∷ []) k []) (sym zero) ∙ last

  pub last_passed : (left ≡ 0 → ⊥) → [] ≡ slice_index_or (fields_from [] line) column []
  last_passed some =
      let before : left ≡ (left - 1) + 1 = omega (arith, some) in
      next_field (slice_range line start (length line)) [] (left - 1)
      ∙ ap (λ k. slice_index_or (slice_range line start (length line) ∷ []) k []) (sym before) ∙ last
