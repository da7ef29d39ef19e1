-- Numbered histories: the rule of the book that numbers them, and what a step on it tells.
use Rattle.std.specs.Prelude.{ℕ, ◌≡◌, ◌==◌, true, List, [], ◌∷◌, ◌++◌, length, slice_index_or, MatchBool}
use Rattle.logbook.specs.Pages.{Cell, Step, View, Book, Named}
use Rattle.pf_scenario.specs.System.{System}
use Rattle.pf_desk.specs.declared.entry.Entry.{Entry}
use Rattle.pf_share.specs.declared.story.Story.{Story}

-- where a history is from: the book that numbers it, and its settings
pub record Origin : Type 0 where
  pub book : Book
  pub settings : System

-- a numbered history
pub record Stamped : Type 0 where
  pub origin : Origin
  pub history : List Entry

-- what a number of this book for the story shows
abbrev pub stamp_of : Book → Story → Stamped
stamp_of book story = record { origin = record { book = book; settings = story.settings }; history = story.entries }

abbrev pub no_story : Story
no_story = record { settings = record { processors = 0; base = 0; cap = 0; horizon = 0 }; entries = [] }

abbrev pub nothing_stamped : Stamped
nothing_stamped = stamp_of (record { number = 0; log_name = 0; cells_name = 0 }) no_story

-- what the number n shows in a book with this log
abbrev pub stamped : Book → List Story → ℕ → Stamped
stamped book log n = stamp_of book (slice_index_or log n no_story)

-- the first word counts the stories. A book has two words, of which this one leaves the second at 0
pub record CountsStories (cells : List Cell) (log : List Story) : Type 0 where
  pub words : cells ≡ (length log, true) ∷ (0, true) ∷ []

abbrev pub head_of : Book → Named
head_of book = record { tracked = true; key = 0; book = book }

-- the story was added to all that had been seen; or there were other stories
abbrev pub Adds : Step Story → View Story ℕ → ℕ → View Story ℕ → Type 0
Adds s v found w = MatchBool (found == s.old) ((w.0 ≡ v.0 ++ s.ask ∷ []) × (length v.0 ≡ found)) (length w.0 ≡ found)
