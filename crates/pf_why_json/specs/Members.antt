-- Members and lists of JSON. The texts in quotes are of ASCII bytes without a quote or a backslash.
use Rattle.std.specs.Prelude.{ℕ, ◌+◌, ◌==◌, if◌then◌else◌, Option, None, Some, List, [], ◌∷◌, ◌++◌, codes}
use Rattle.std.specs.Fmt.{decimal}

-- a key, with what stands before it, and a number or null
abbrev pub key_or_null : List ℕ → Option ℕ → List ℕ
key_or_null key None = key ++ codes "null"
key_or_null key (Some number) = key ++ decimal number

-- a key and a text in quotes, or null
abbrev pub quoted : List ℕ → List ℕ → List ℕ
quoted key text = key ++ (codes "\"" ++ (text ++ codes "\""))

abbrev pub quoted_or_null : List ℕ → Option (List ℕ) → List ℕ
quoted_or_null key None = key ++ codes "null"
quoted_or_null key (Some text) = quoted key text

-- these texts with commas between them, the first of which is the k-th
abbrev pub comma_before : ℕ → List ℕ
comma_before k = if k == 0 then [] else codes ","

abbrev pub items_from : ℕ → List (List ℕ) → List ℕ
items_from k [] = []
items_from k (x ∷ xs) = comma_before k ++ (x ++ items_from (k + 1) xs)

-- a key and a list of them
abbrev pub list_of : List ℕ → List (List ℕ) → List ℕ
list_of key xs = key ++ (codes "[" ++ (items_from 0 xs ++ codes "]"))
