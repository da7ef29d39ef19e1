-- A line more in a batch.
use Rattle.std.proofs.Common.{◌≡◌, ◌≢◌, ◌⊎◌, inl, inr, ℕ, ◌+◌, ◌-◌, ◌<◌, ◌≤◌, nat_le, nat_lt, true, List, [], ◌∷◌, ◌++◌, length, take, drop, slice_set, refl, sym, ◌∙◌, ap, arith, append_assoc, length-drop}
use Rattle.std.proofs.lemmas.List.{append-nil, set_at, take_all}
use Rattle.std.proofs.lemmas.List.Folds.{list_all-append}
use Rattle.std.proofs.lemmas.Grind.{flat_map-append}
use Rattle.std.specs.List.{list_all}
use Rattle.std.specs.Cmp.Derive.{both_true}
use Rattle.std.proofs.lemmas.Bool.{and_parts, leb-true}
use Rattle.pf_journal.specs.Batches.{has_room}
use Rattle.pf_journal.specs.Lines.{is_text, line_of, lines_of, journal_of, texts_of}
use Rattle.pf_journal.proofs.Reading.{journal_texts}

module _ (texts : List (List ℕ)) (text : List ℕ) where
  -- its gate is opened, and the next one is after it
  pub pushed : (bytes : List ℕ) (gate : ℕ) → bytes ≡ journal_of texts ++ (text ++ 10 ∷ 35 ∷ []) → gate ≡ length (lines_of texts) → slice_set bytes gate 32 ≡ journal_of (texts ++ text ∷ [])
  pushed bytes gate is at =
      let lines = lines_of texts in
      ap (λ (l : List ℕ). slice_set l gate 32) (is ∙ append_assoc lines (35 ∷ []) (text ++ 10 ∷ 35 ∷ []))
      ∙ set_at lines 35 (text ++ 10 ∷ 35 ∷ []) 32 gate (sym at)
      ∙ ap (λ (l : List ℕ). lines ++ 32 ∷ l) (sym (append_assoc text (10 ∷ []) (35 ∷ [])))
      ∙ ap (λ (l : List ℕ). lines ++ (l ++ 35 ∷ [])) (sym (append-nil (line_of text)))
      ∙ sym (append_assoc lines (lines_of (text ∷ [])) (35 ∷ []))
      ∙ ap (λ (l : List ℕ). l ++ 35 ∷ []) (sym (flat_map-append line_of texts (text ∷ [])))

  pub pushed_lines : lines_of (texts ++ text ∷ []) ≡ lines_of texts ++ line_of text
  pushed_lines = flat_map-append line_of texts (text ∷ []) ∙ ap (λ (l : List ℕ). lines_of texts ++ l) (append-nil (line_of text))

  pub pushed_room : has_room texts text ≡ true → length (lines_of texts) + length text + 2 ≤ 65538
  pushed_room room =
      leb-true (length (lines_of texts) + length text + 2) 65538
      (and_parts (nat_lt (length texts) 1024) (nat_le (length (lines_of texts) + length text + 2) 65538) room).1

  pub pushed_texts : list_all is_text texts ≡ true → is_text text ≡ true → (file : List ℕ) → file ≡ journal_of (texts ++ text ∷ []) → texts_of file ≡ texts ++ text ∷ []
  pushed_texts all is file whole =
      let every : list_all is_text (texts ++ text ∷ []) ≡ true = list_all-append is_text texts (text ∷ []) ∙ both_true all (both_true is refl) in
      ap texts_of whole ∙ journal_texts (texts ++ text ∷ []) every

-- bytes of lines with gates, more than one gate
pub some_texts : (bytes : List ℕ) → bytes ≡ journal_of (texts_of bytes) → 1 < length bytes → texts_of bytes ≢ []
some_texts bytes is long none = absurd (omega (arith, long, ap length (is ∙ ap (λ (ts : List (List ℕ)). journal_of ts) none)))

pub but_first : (bytes : List ℕ) → take (length bytes - 1) (drop 1 bytes) ≡ drop 1 bytes
but_first bytes = take_all (length bytes - 1) (drop 1 bytes) (omega (arith, length-drop 1 bytes))

-- what is written behind the gate of a journal is one byte less
pub few_added : {P : Type 0} (bytes : List ℕ) → P ⊎ (length bytes ≤ 65539) → P ⊎ (length (take (length bytes - 1) (drop 1 bytes)) ≤ 65538)
few_added bytes (inl none) = inl none
few_added bytes (inr few) = inr (omega (arith, few, ap length (but_first bytes), length-drop 1 bytes))
