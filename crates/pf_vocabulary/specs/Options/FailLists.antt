-- What a run fails on, as a list of words.
use Rattle.std.specs.Prelude.{ℕ, Bool, false, ◌||◌, ◌==◌, if◌then◌else◌, List, Option, Some, None, codes}
use Rattle.std.specs.List.{list_all, list_any, slice_split}
use Rattle.std.specs.Str.{bytes_eq}
use Rattle.pf_vocabulary.specs.declared.options.fail_on.FailOn.{FailOn}

-- on nothing
abbrev pub on_nothing : FailOn
on_nothing = record { refused = false; denied = false; missed = false }

-- the words that are joined by commas, whose code is 44
abbrev pub words_joined : List ℕ → List (List ℕ)
words_joined = slice_split (λ b. b == 44)

-- a word that may stand in a list
abbrev pub is_word_of_list : List ℕ → Bool
is_word_of_list word = bytes_eq word (codes "refused") || bytes_eq word (codes "denied") || bytes_eq word (codes "missed")

-- whether a word stands in a list
abbrev pub is_listed : List ℕ → List ℕ → Bool
is_listed word list = list_any (λ listed. bytes_eq listed word) (words_joined list)

-- what a list names, where each of its words may stand in one
abbrev pub fail_on_named : List ℕ → Option FailOn
fail_on_named list =
    if list_all is_word_of_list (words_joined list)
    then Some (record { refused = is_listed (codes "refused") list; denied = is_listed (codes "denied") list; missed = is_listed (codes "missed") list })
    else None
