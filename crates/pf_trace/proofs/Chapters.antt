-- A text, chapter by chapter and place by place.
use Rattle.std.proofs.Common.{◌≡◌, ◌∙◌, ⊎_elim, ℕ, suc, ◌+◌, ◌-◌, ◌<◌, ◌≤◌, List, [], ◌++◌, sym, ap, ap₂, append_assoc, arith}
use Rattle.std.specs.Prelude.{min}
use Rattle.std.specs.List.{flat_map, range_with_len}
use Rattle.std.proofs.lemmas.Bool.{cases_lt}
use Rattle.std.proofs.lemmas.List.{append-nil}
use Rattle.std.proofs.lemmas.List.Concat.{flat_map-cons}
use Rattle.pf_trace.specs.Books.{chapter_text, chapters_from, text_behind, IsFilled, IsWithinChapter}

-- one place further
pub place_next : (count : ℕ) (place : ℕ → List ℕ) (at : ℕ) → at < count → chapter_text count place at ≡ place at ++ chapter_text count place (at + 1)
place_next count place at within =
    ap (λ n. flat_map place (range_with_len at n)) (let z : count - at ≡ suc (count - (at + 1)) = omega (arith, within) in z)
    ∙ flat_map-cons place at (range_with_len (at + 1) (count - (at + 1)))

pub no_place : (count : ℕ) (place : ℕ → List ℕ) (at : ℕ) → count ≤ at → chapter_text count place at ≡ []
no_place count place at over = ap (λ n. flat_map place (range_with_len at n)) (let z : count - at ≡ 0 = omega (arith, over) in z)

-- Use: a place was added.
pub place_added : (count : ℕ) (place : ℕ → List ℕ) (at : ℕ) (old new whole : List ℕ) → at < count → new ≡ old ++ place at →
    old ++ chapter_text count place at ≡ whole → new ++ chapter_text count place (at + 1) ≡ whole
place_added count place at old new whole within is so_far =
    ap (λ text. text ++ chapter_text count place (at + 1)) is
    ∙ append_assoc old (place at) (chapter_text count place (at + 1))
    ∙ ap (λ text. old ++ text) (sym (place_next count place at within))
    ∙ so_far

module _ (chapters : ℕ) (places : ℕ → ℕ) (place : ℕ → ℕ → List ℕ) where
  abbrev whole_chapter : ℕ → List ℕ
  whole_chapter c = chapter_text (places c) (place c) 0

  abbrev behind : ℕ → ℕ → List ℕ
  behind next at = text_behind chapters places place next at

  within_chapters : (next at : ℕ) → next < chapters → behind next at ≡ chapter_text (places next) (place next) at ++ chapters_from chapters places place (next + 1)
  within_chapters next at within =
      ap (λ text. text ++ chapters_from chapters places place (next + 1))
      (ap (λ n. flat_map (λ c. chapter_text (places c) (place c) at) (range_with_len next n)) (let z : min 1 (chapters - next) ≡ 1 = omega (arith, within) in z)
      ∙ flat_map-cons (λ c. chapter_text (places c) (place c) at) next []
      ∙ append-nil (chapter_text (places next) (place next) at))

  -- Use: after the last chapter.
  pub none_behind : (next at : ℕ) → chapters ≤ next → behind next at ≡ []
  none_behind next at over =
      ap₂ (λ a b. a ++ b)
      (ap (λ n. flat_map (λ c. chapter_text (places c) (place c) at) (range_with_len next n)) (let z : min 1 (chapters - next) ≡ 0 = omega (arith, over) in z))
      (ap (λ n. flat_map whole_chapter (range_with_len (next + 1) n)) (let z : chapters - (next + 1) ≡ 0 = omega (arith, over) in z))

  -- Use: at the beginning of a chapter.
  pub from_chapter : (next : ℕ) → chapters_from chapters places place next ≡ behind next 0
  from_chapter next = ⊎_elim
      (λ less. ap (λ n. flat_map whole_chapter (range_with_len next n)) (let z : chapters - next ≡ suc (chapters - (next + 1)) = omega (arith, less) in z)
      ∙ flat_map-cons whole_chapter next (range_with_len (next + 1) (chapters - (next + 1)))
      ∙ sym (within_chapters next 0 less))
      (λ over. ap (λ n. flat_map whole_chapter (range_with_len next n)) (let z : chapters - next ≡ 0 = omega (arith, over) in z)
      ∙ sym (none_behind next 0 over))
      (cases_lt next chapters)

  module _ (next from to : ℕ) (old new whole : List ℕ) (within : next < chapters) (filled : IsFilled (places next) (place next) from to old new)
      (so_far : old ++ behind next from ≡ whole) where
    -- Use: the chapter was left at a place.
    pub left_at : new ++ behind next to ≡ whole
    left_at =
        let rest = chapters_from chapters places place (next + 1) in
        ap (λ text. new ++ text) (within_chapters next to within)
        ∙ sym (append_assoc new (chapter_text (places next) (place next) to) rest)
        ∙ ap (λ text. text ++ rest) filled.text
        ∙ append_assoc old (chapter_text (places next) (place next) from) rest
        ∙ ap (λ text. old ++ text) (sym (within_chapters next from within))
        ∙ so_far

    -- Use: the chapter was passed.
    pub passed_to : places next ≤ to → new ++ behind (next + 1) 0 ≡ whole
    passed_to over =
        let rest = chapters_from chapters places place (next + 1) in
        ap (λ text. new ++ text)
        (sym (from_chapter (next + 1))
        ∙ ap (λ text. text ++ rest) (sym (no_place (places next) (place next) to over))
        ∙ sym (within_chapters next to within))
        ∙ left_at

  pub at_start : (next : ℕ) → next ≤ chapters → IsWithinChapter chapters places next 0
  at_start next within = record { chapter = within; place = λ less. omega arith }
