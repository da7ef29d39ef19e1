-- A text in chapters, each of which has places with some of the text.
use Rattle.std.specs.Prelude.{ℕ, ◌+◌, ◌-◌, ◌≡◌, ◌<◌, ◌≤◌, min, List, ◌++◌, length}
use Rattle.std.specs.List.{flat_map, range_with_len}

-- the text of a chapter of so many places, from one on
abbrev pub chapter_text : ℕ → (ℕ → List ℕ) → ℕ → List ℕ
chapter_text count place at = flat_map place (range_with_len at (count - at))

-- that of the chapters from one on
abbrev pub chapters_from : ℕ → (ℕ → ℕ) → (ℕ → ℕ → List ℕ) → ℕ → List ℕ
chapters_from chapters places place next =
    flat_map (λ c. chapter_text (places c) (place c) 0) (range_with_len next (chapters - next))

abbrev pub book_text : ℕ → (ℕ → ℕ) → (ℕ → ℕ → List ℕ) → List ℕ
book_text chapters places place = chapters_from chapters places place 0

-- what is left at a place of a chapter: nothing after the last one
abbrev pub text_behind : ℕ → (ℕ → ℕ) → (ℕ → ℕ → List ℕ) → ℕ → ℕ → List ℕ
text_behind chapters places place next at =
    flat_map (λ c. chapter_text (places c) (place c) at) (range_with_len next (min 1 (chapters - next)))
    ++ chapters_from chapters places place (next + 1)

-- places of a chapter were passed, up to one: the text has what they have
pub record IsFilled (count : ℕ) (place : ℕ → List ℕ) (from to : ℕ) (old new : List ℕ) : Type 0 where
  pub text : new ++ chapter_text count place to ≡ old ++ chapter_text count place from
  pub within : to ≤ count
  pub some : to < count → 1 ≤ length new

pub record IsWithinChapter (chapters : ℕ) (places : ℕ → ℕ) (next at : ℕ) : Type 0 where
  pub chapter : next ≤ chapters
  pub place : next < chapters → at ≤ places next
