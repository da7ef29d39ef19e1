-- The words that may stand in a record.
use Rattle.std.specs.Prelude.{ℕ, List, [], ◌∷◌, ◌++◌, codes}
use Rattle.std.specs.List.{flat_map}
use Rattle.pf_script.specs.declared.messages.kind.ScriptKind.{ScriptKind}
use Rattle.pf_script.specs.declared.messages.kind.ScriptKind.TheVariants.{First, Second, Plan}

-- the words of records
abbrev pub record_words : ScriptKind → List (List ℕ)
record_words First =
    codes "settings" ∷ codes "join" ∷ codes "leave" ∷ codes "delay" ∷ codes "alter" ∷ codes "strike" ∷ codes "strict" ∷ codes "step" ∷ []
record_words Second =
    codes "settings" ∷ codes "join" ∷ codes "leave" ∷ codes "delay" ∷ codes "limit" ∷ codes "alter" ∷ codes "strike" ∷ codes "strict" ∷ codes "step" ∷ []
record_words Plan =
    codes "settings" ∷ codes "slot" ∷ codes "name" ∷ codes "join" ∷ codes "leave" ∷ codes "delay" ∷ codes "limit" ∷ codes "label" ∷ codes "alter"
    ∷ codes "strike" ∷ codes "strict" ∷ codes "step" ∷ []

-- those of changes
abbrev pub change_words : ScriptKind → List (List ℕ)
change_words First = codes "join" ∷ codes "leave" ∷ codes "delay" ∷ codes "alter" ∷ codes "strike" ∷ []
change_words Second = codes "join" ∷ codes "leave" ∷ codes "delay" ∷ codes "limit" ∷ codes "alter" ∷ codes "strike" ∷ []
change_words Plan = codes "join" ∷ codes "leave" ∷ codes "delay" ∷ codes "limit" ∷ codes "label" ∷ codes "alter" ∷ codes "strike" ∷ []

-- those of events
abbrev pub event_words : ScriptKind → List (List ℕ)
event_words First = codes "join" ∷ codes "leave" ∷ codes "delay" ∷ []
event_words Second = codes "join" ∷ codes "leave" ∷ codes "delay" ∷ codes "limit" ∷ []
event_words Plan = codes "join" ∷ codes "leave" ∷ codes "delay" ∷ codes "limit" ∷ []

-- words, each after a comma
abbrev pub listed_word : List ℕ → List ℕ
listed_word word = codes ", " ++ word

-- words with commas between
unfoldable pub list_of : List (List ℕ) → List ℕ
list_of [] = []
list_of (word ∷ words) = word ++ flat_map listed_word words

-- that it is one of these
abbrev pub one_of : List (List ℕ) → List ℕ
one_of words = codes "one of " ++ list_of words
