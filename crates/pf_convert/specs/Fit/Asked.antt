-- What the words of a fit are answered with.
use Rattle.std.specs.Prelude.{ℕ, ⊤, ◌≡◌, Bool, true, false, Option, None, Some, List, []}
use Rattle.pf_vocabulary.specs.declared.fault.answer.Answer.{Answer}
use Rattle.pf_vocabulary.specs.declared.fault.status.Status.TheVariants.{BadWords}
use Rattle.pf_convert.specs.declared.words.fit_asked.FitAsked.{FitAsked}
use Rattle.pf_convert.specs.declared.words.list_word.ListWord.{ListWord}
use Rattle.pf_convert.specs.Fit.Answers.{MakesFit}
use Rattle.pf_convert.specs.Words.Fits.{word_line}

-- only this is told: that the word is for a list
pub record IsForList (word : ListWord) (a : Answer) : Type 0 where
  pub writes : a.text.items ≡ []
  pub ends : a.ending.status ≡ BadWords
  pub tells : a.ending.notes.items ≡ word_line word

-- of a list whether it fits, of anything else that a word is for a list, where one is given, and nothing where none is
abbrev pub AnswersFit : List ℕ → List ℕ → FitAsked → (is_list : Bool) → Option ListWord → Option Answer → Type 0
AnswersFit file text asked true word None = ⊥
AnswersFit file text asked true word (Some a) = MakesFit file asked.conversion asked.format text a
AnswersFit file text asked false None None = ⊤
AnswersFit file text asked false None (Some a) = ⊥
AnswersFit file text asked false (Some word) None = ⊥
AnswersFit file text asked false (Some word) (Some a) = IsForList word a
