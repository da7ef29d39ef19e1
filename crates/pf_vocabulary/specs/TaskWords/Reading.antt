-- The list of tasks that a text is.
use Rattle.std.specs.Prelude.{ℕ, ◌+◌, ◌==◌, ◌&&◌, nat_le, if◌then◌else◌, Option, None, Some, List, [], ◌∷◌, ◌++◌, take, drop}
use Rattle.std.specs.List.{position}
use Rattle.std.specs.Option.{option_and_then, option_map}
use Rattle.pf_vocabulary.specs.Names.Text.{is_letter_first, name_in}
use Rattle.pf_text.specs.Numbers.{number_of}
use Rattle.pf_vocabulary.specs.declared.tasks.task_range.TaskRange.{TaskRange}
use Rattle.pf_weight.specs.declared.task.TheConstants.{LARGEST_TASK}
use Rattle.pf_vocabulary.specs.declared.task_words.task_word.TaskWord.{TaskWord}
use Rattle.pf_vocabulary.specs.declared.task_words.task_word.TaskWord.TheVariants.{Numbers, Named}

-- the number of a task
abbrev pub task_numbered : Option ℕ → Option ℕ
task_numbered None = None
task_numbered (Some number) = if nat_le 1 number && nat_le number LARGEST_TASK then Some number else None

abbrev pub task_in : List ℕ → Option ℕ
task_in text = task_numbered (number_of text)

-- the tasks from one to another, the first not above the last
abbrev pub range_between : Option ℕ → Option ℕ → Option TaskRange
range_between None last = None
range_between (Some first) None = None
range_between (Some first) (Some last) = if nat_le first last then Some (record { first = first; last = last }) else None

-- the range around the `-` at a place, or of one number
abbrev pub range_around : List ℕ → Option ℕ → Option TaskRange
range_around text None = range_between (task_in text) (task_in text)
range_around text (Some place) = range_between (task_in (take place text)) (task_in (drop (place + 1) text))

abbrev pub range_in : List ℕ → Option TaskRange
range_in text = range_around text (position (λ byte. byte == 45) text)

-- a text that begins with a letter is a name
abbrev pub word_in : List ℕ → Option TaskWord
word_in text = if is_letter_first text then option_map Named (name_in text) else option_map Numbers (range_in text)

-- a list with one item more; none where that is no item
abbrev pub with_item : List TaskWord → Option TaskWord → Option (List TaskWord)
with_item words None = None
with_item words (Some word) = Some (words ++ word ∷ [])

-- a list with the items of a text after it, which commas (44) join; these bytes of the first of them were read
unfoldable pub with_items : List TaskWord → List ℕ → List ℕ → Option (List TaskWord)
with_items words item [] = with_item words (word_in item)
with_items words item (byte ∷ bytes) =
    if byte == 44 then option_and_then (λ more. with_items more [] bytes) (with_item words (word_in item))
    else with_items words (item ++ byte ∷ []) bytes

-- the list that a text is
abbrev pub words_in : List ℕ → Option (List TaskWord)
words_in text = with_items [] [] text
