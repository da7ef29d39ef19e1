-- Lines and their answers.
use Rattle.std.specs.Prelude.{ℕ, ◌≡◌, ◌⊎◌, ◌==◌, ◌<◌, ◌≤◌, true, false, List, [], ◌∷◌, ◌++◌, length}
use Rattle.pf_stream.specs.declared.dialogue.answers.Going.{Going}
use Rattle.pf_stream.specs.declared.dialogue.answers.Going.TheVariants.{On, Ends}
use Rattle.pf_stream.specs.Dialogue.Lines.{ended, lines_in, longer, rest_in}
use Rattle.pf_stream.specs.declared.dialogue.lines.TheConstants.{TEXT_HELD}

-- lines were answered, each in its turn, and more are wanted: the text of all answers, and what answers after them
abbrev pub AnswersAll : {A : Type 0} → (A → List ℕ → List ℕ → Going → A → Type 0) → A → List (List ℕ) → List ℕ → A → Type 0
AnswersAll answers a [] text b = (text ≡ []) × (b ≡ a)
AnswersAll answers a (line ∷ lines) text b =
    (answer : List ℕ) × (rest : List ℕ) × (mid : _) × answers a line answer On mid × AnswersAll answers mid lines rest b × (text ≡ answer ++ rest)

-- nothing more is answered: a line could not be, or could not be taken in
abbrev pub Stops : {A : Type 0} → (A → A → Type 0) → A → A → Type 0
Stops stops a b = (b ≡ a) ⊎ stops a b

-- some of these lines were: all up to one that can't be answered, or to nothing; their text is no longer than what is held back
pub record AnswersFront {A : Type 0} (answers : A → List ℕ → List ℕ → Going → A → Type 0) (stops : A → A → Type 0) (a : A) (lines : List (List ℕ))
    (text : List ℕ) (b : A) : Type 0 where
  pub done : List (List ℕ)
  pub left : List (List ℕ)
  pub parts : lines ≡ done ++ left
  pub behind : A
  pub answered : AnswersAll answers a done text behind
  pub short : length text ≤ TEXT_HELD
  pub stopped : Stops stops behind b

-- all were up to one, and that one too, after which more are wanted or none; the text before its answer is no longer than what is
-- held back
pub record AnswersTo {A : Type 0} (answers : A → List ℕ → List ℕ → Going → A → Type 0) (a : A) (lines : List (List ℕ)) (text : List ℕ)
    (going : Going) (b : A) : Type 0 where
  pub done : List (List ℕ)
  pub last : List ℕ
  pub left : List (List ℕ)
  pub parts : lines ≡ done ++ last ∷ left
  pub mid : A
  pub front : List ℕ
  pub answer : List ℕ
  pub answered : AnswersAll answers a done front mid
  pub short : length front ≤ TEXT_HELD
  pub ended : answers mid last answer going b
  pub text_is : text ≡ front ++ answer

-- whether all were, or all up to the last one
abbrev pub AnswersLines : {A : Type 0} → (A → List ℕ → List ℕ → Going → A → Type 0) → A → List (List ℕ) → List ℕ → Going → A → Type 0
AnswersLines answers a lines text On b = AnswersAll answers a lines text b
AnswersLines answers a lines text Ends b = AnswersTo answers a lines text Ends b

-- some lines were answered: those up to one that was not, or all, or those up to one after whose answer the text was told
abbrev pub SomeAnswered : {A : Type 0} → (A → List ℕ → List ℕ → Going → A → Type 0) → (A → A → Type 0) → A → List (List ℕ) → List ℕ → A → Type 0
SomeAnswered answers stops a lines text b =
    AnswersFront answers stops a lines text b ⊎ ((going : Going) × AnswersTo answers a lines text going b)

-- all lines that are at their end in what is ahead were answered, and the text is no longer than what is held back
pub record AnswersWhole {A : Type 0} (answers : A → List ℕ → List ℕ → Going → A → Type 0) (a : A) (ahead text : List ℕ) (b : A) (left : List ℕ) : Type 0 where
  pub answered : AnswersAll answers a (lines_in [] ahead) text b
  pub short : length text ≤ TEXT_HELD
  pub none : lines_in [] left ≡ []
  pub rest : rest_in [] left ≡ rest_in [] ahead

-- or those up to one with whose answer the text is longer than that, and the others are left
pub record AnswersFull {A : Type 0} (answers : A → List ℕ → List ℕ → Going → A → Type 0) (a : A) (ahead text : List ℕ) (b : A) (left : List ℕ) : Type 0 where
  pub to : AnswersTo answers a (lines_in [] ahead) text On b
  pub long : TEXT_HELD < length text
  pub others : lines_in [] left ≡ to.left
  pub rest : rest_in [] left ≡ rest_in [] ahead

-- what is ahead was answered as far as answers are held back, or up to the last line; `left` is ahead then
abbrev pub AnswersAhead : {A : Type 0} → (A → List ℕ → List ℕ → Going → A → Type 0) → A → List ℕ → List ℕ → Going → A → List ℕ → Type 0
AnswersAhead answers a ahead text On b left = AnswersWhole answers a ahead text b left ⊎ AnswersFull answers a ahead text b left
AnswersAhead answers a ahead text Ends b left = AnswersTo answers a (lines_in [] ahead) text Ends b

-- one byte after the front of a line: it makes the line longer, or ends it, and then the line was answered
abbrev pub TakesByte : {A : Type 0} → (A → List ℕ → List ℕ → Going → A → Type 0) → A → List ℕ → ℕ → List ℕ → Going → A → List ℕ → List ℕ → Type 0
TakesByte answers a line byte text going b new_line new_text =
    (((byte == 10) ≡ false) × (going ≡ On) × (b ≡ a) × (new_line ≡ longer line byte) × (new_text ≡ text))
    ⊎ (((byte == 10) ≡ true) × ((answer : List ℕ) × answers a (ended line) answer going b × (new_text ≡ text ++ answer)) × (new_line ≡ []))
