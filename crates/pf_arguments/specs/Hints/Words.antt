-- Words that hints look at, and those that they show.
use Rattle.std.specs.Prelude.{ℕ, Bool, ◌||◌, ◌==◌, nat_eq, if◌then◌else◌, List, [], ◌∷◌, ◌++◌, codes}
use Rattle.std.specs.List.{ends_with, list_any, starts_with}
use Rattle.std.specs.Str.{bytes_eq}
use Rattle.pf_message.specs.Shell.{shell_word}

-- words after another, each after a space
abbrev pub spaced_word : List ℕ → List ℕ
spaced_word word = codes " " ++ shell_word word

-- the name of a script
abbrev pub is_script : List ℕ → Bool
is_script word = ends_with nat_eq word (codes ".csv")

-- the words of `run` that begin with `-`
abbrev pub run_words : List (List ℕ)
run_words =
    codes "--format" ∷ codes "--output" ∷ codes "-o" ∷ codes "--from" ∷ codes "--to" ∷ codes "--task" ∷ codes "--fail-on" ∷ codes "--cell"
    ∷ codes "--wrap" ∷ codes "--style" ∷ codes "--notes" ∷ codes "-q" ∷ codes "--quiet" ∷ []

-- those of a list of tasks
abbrev pub list_words : List (List ℕ)
list_words = codes "--quantum" ∷ codes "--processors" ∷ codes "--switch" ∷ codes "--arrivals" ∷ codes "--unit" ∷ []

abbrev pub is_list_word : List ℕ → Bool
is_list_word word = list_any (bytes_eq word) list_words

-- a word up to its first `=`
abbrev pub before_equals : List ℕ → List ℕ
before_equals [] = []
before_equals (byte ∷ bytes) = if byte == 61 then [] else byte ∷ before_equals bytes

-- whether a first word asks for a run
abbrev pub is_of_run : List ℕ → Bool
is_of_run word = is_script word || starts_with nat_eq word (codes "-f") || list_any (bytes_eq (before_equals word)) run_words

-- the commands
abbrev pub is_command : List ℕ → Bool
is_command word =
    list_any (bytes_eq word)
    (codes "fit" ∷ codes "run" ∷ codes "why" ∷ codes "check" ∷ codes "diff" ∷ codes "convert" ∷ codes "desk" ∷ codes "drill" ∷ [])
