-- The items of a list, which commas join, byte by byte.
use Rattle.std.proofs.Common.{◌≡◌, ◌∙◌, ℕ, ◌+◌, ◌-◌, ◌<◌, ◌≤◌, List, [], ◌∷◌, ◌++◌, length, drop, get_or, Option, None, Some, ap, sym, arith}
use Rattle.std.specs.Prelude.{if◌then◌else◌}
use Rattle.std.specs.List.{slice_range}
use Rattle.std.specs.Option.{option_and_then}
use Rattle.std.proofs.lemmas.Bool.{eq-eqb, ne_eqb}
use Rattle.std.proofs.lemmas.List.{at_drop_more, at_drop_all, length-drop, take_all}
use Rattle.pf_lemmas.proofs.Lists.{nothing_between, longer}
use Rattle.pf_vocabulary.specs.declared.task_words.task_word.TaskWord.{TaskWord}
use Rattle.pf_vocabulary.specs.TaskWords.Reading.{with_item, with_items, word_in, words_in}

-- the list of the text is these words and those of the items from the byte `start` on, of which the bytes before `end` were read
pub record IsReadTo (text : List ℕ) (words : List TaskWord) (start end : ℕ) : Type 0 where
  pub begun : start ≤ end
  pub left : with_items words (slice_range text start end) (drop end text) ≡ words_in text

at_comma : (words : List TaskWord) (item text : List ℕ) (end : ℕ) → end < length text → get_or text end 0 ≡ 44
    → with_items words item (drop end text) ≡ option_and_then (λ more. with_items more [] (drop (end + 1) text)) (with_item words (word_in item))
unfolding with_items
at_comma words item text end lt comma =
    at_drop_more (with_items words item) text end 0 lt
    ∙ ap (λ b. if b then option_and_then (λ more. with_items more [] (drop (end + 1) text)) (with_item words (word_in item))
    else with_items words (item ++ get_or text end 0 ∷ []) (drop (end + 1) text))
    (eq-eqb (get_or text end 0) 44 comma)

at_byte : (words : List TaskWord) (item text : List ℕ) (end : ℕ) → end < length text → (get_or text end 0 ≡ 44 → ⊥)
    → with_items words item (drop end text) ≡ with_items words (item ++ get_or text end 0 ∷ []) (drop (end + 1) text)
unfolding with_items
at_byte words item text end lt other =
    at_drop_more (with_items words item) text end 0 lt
    ∙ ap (λ b. if b then option_and_then (λ more. with_items more [] (drop (end + 1) text)) (with_item words (word_in item))
    else with_items words (item ++ get_or text end 0 ∷ []) (drop (end + 1) text))
    (ne_eqb (get_or text end 0) 44 other)

at_end : (words : List TaskWord) (item text : List ℕ) (end : ℕ) → length text ≤ end → with_items words item (drop end text) ≡ with_item words (word_in item)
unfolding with_items
at_end words item text end le = at_drop_all (with_items words item) text end le

pub comma_read : (text : List ℕ) (words more : List TaskWord) (start end : ℕ) → IsReadTo text words start end → end < length text
    → get_or text end 0 ≡ 44 → Some more ≡ with_item words (word_in (slice_range text start end)) → IsReadTo text more (end + 1) (end + 1)
comma_read text words more start end h lt comma given = record {
  begun = omega arith;
  left =
      ap (λ w. with_items more w (drop (end + 1) text)) (nothing_between text (end + 1))
      ∙ ap (option_and_then (λ more. with_items more [] (drop (end + 1) text))) given
      ∙ sym (at_comma words (slice_range text start end) text end lt comma) ∙ h.left;
}

pub comma_refused : (text : List ℕ) (words : List TaskWord) (start end : ℕ) → IsReadTo text words start end → end < length text
    → get_or text end 0 ≡ 44 → None ≡ with_item words (word_in (slice_range text start end)) → None ≡ words_in text
comma_refused text words start end h lt comma given =
    ap (option_and_then (λ more. with_items more [] (drop (end + 1) text))) given
    ∙ sym (at_comma words (slice_range text start end) text end lt comma) ∙ h.left

pub byte_read : (text : List ℕ) (words : List TaskWord) (start end : ℕ) → IsReadTo text words start end → end < length text
    → (get_or text end 0 ≡ 44 → ⊥) → IsReadTo text words start (end + 1)
byte_read text words start end h lt other = record {
  begun = omega (arith, h.begun);
  left =
      sym (at_byte words (slice_range text start end) text end lt other
      ∙ ap (λ w. with_items words w (drop (end + 1) text)) (longer text start end h.begun lt)) ∙ h.left;
}

pub all_read : (text : List ℕ) (words : List TaskWord) (start end : ℕ) → IsReadTo text words start end → length text ≤ end
    → with_item words (word_in (slice_range text start (length text))) ≡ words_in text
all_read text words start end h le =
    let rest = drop start text in
    let whole : slice_range text start end ≡ slice_range text start (length text) =
    take_all (end - start) rest (omega (arith, length-drop start text, le)) ∙ sym (take_all (length text - start) rest (omega (arith, length-drop start text))) in
    ap (λ item. with_item words (word_in item)) (sym whole)
    ∙ sym (at_end words (slice_range text start end) text end le) ∙ h.left
