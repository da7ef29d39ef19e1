-- What is told of words that ask for no task.
use Rattle.std.specs.Prelude.{ℕ, ◌≡◌, ◌≢◌, ◌⊎◌, if◌then◌else◌, List, [], ◌++◌, codes}
use Rattle.pf_convert.specs.List.Messages.{hint_text}
use Rattle.pf_arguments.specs.Help.{lesson_of}
use Rattle.pf_arguments.specs.Hints.Refused.{is_told_whole, refused_hint, tip_front}
use Rattle.pf_arguments.specs.Lines.{shown_lines}
use Rattle.pf_arguments.specs.declared.texts.TheConstants.{VERSION}

-- the version, as a line
abbrev pub version_line : List ℕ
version_line = codes "pfair " ++ (VERSION.now ++ codes "\n")

-- the text ends with the lesson that these words ask for
abbrev pub EndsWithLesson : List (List ℕ) → List ℕ → Type 0
EndsWithLesson words text = (front : List ℕ) × (text ≡ front ++ lesson_of words)

-- the hint for words that the grammar does not take, where it is told whole why
abbrev pub refused_told : List (List ℕ) → List ℕ
refused_told words = if is_told_whole words then hint_text (refused_hint words) else []

-- why the grammar does not take the words, which is some text, shown as lines are, and this hint
abbrev pub IsRefusal : List (List ℕ) → List ℕ → Type 0
IsRefusal words text = (why : List ℕ) × (shown_lines why ≢ []) × (text ≡ shown_lines why ++ refused_told words)

-- what stands behind a front is told without a tip, up to an empty line, where there is such a line; else all as it was
abbrev pub IsCut : (all front rest told : List ℕ) → Type 0
IsCut all front rest told =
    ((tip behind : List ℕ) × (rest ≡ tip ++ (codes "\n\n" ++ behind)) × (told ≡ front ++ (codes "\n" ++ behind)))
    ⊎ (((tip behind : List ℕ) → rest ≢ tip ++ (codes "\n\n" ++ behind)) × (told ≡ all))

-- a text of the grammar without its tip how a word is passed as a value, and the empty line behind that
abbrev pub IsWithoutTip : (all told : List ℕ) → Type 0
IsWithoutTip all told =
    ((front rest : List ℕ) × (all ≡ front ++ (tip_front ++ rest)) × IsCut all front rest told)
    ⊎ (((front rest : List ℕ) → all ≢ front ++ (tip_front ++ rest)) × (told ≡ all))
