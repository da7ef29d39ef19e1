-- Which of some names a word is near to.
use Rattle.std.specs.Prelude.{ℕ, ◌/◌, ◌==◌, ◌||◌, Bool, not, nat_le, nat_lt, if◌then◌else◌, Option, None, Some, List, [], ◌∷◌, get_or, length, map}
use Rattle.std.specs.Borrow.{Bor}
use Rattle.std.specs.Char.{to_ascii_lowercase}
use Rattle.std.specs.List.{list_all}
use Rattle.std.specs.Str.{chars}
use Rattle.strsim.specs.Edits.{osa_table}
use Rattle.pf_message.specs.declared.nearness.TheConstants.{LONGEST_WORD}

abbrev pub lowered : List ℕ → List ℕ
lowered text = map to_ascii_lowercase text

-- how many edits lead from a word to a name, in letters of any case: a character put in, taken out or changed, or two neighbours
-- exchanged, none of them twice
unfoldable pub distance : List ℕ → List ℕ → ℕ
distance word name = (osa_table (chars (lowered word)) (chars (lowered name))).last_row (length (chars (lowered name)))

abbrev pub is_ascii_byte : ℕ → Bool
is_ascii_byte byte = nat_lt byte 128

-- a third of the word's bytes, rounded down, but 1 of 2; a long word, and one that is no ASCII, is near to no name
abbrev pub most_edits : List ℕ → Option ℕ
most_edits word =
    if nat_lt LONGEST_WORD (length word) || not (list_all is_ascii_byte word) then None
    else Some (if length word == 2 then 1 else length word / 3)

-- the nearer of two names, the first where they are equally near
unfoldable pub nearer : List ℕ → List ℕ → List ℕ → List ℕ
nearer word best name = if nat_lt (distance word name) (distance word best) then name else best

-- the nearest of names
unfoldable pub nearest_name : List ℕ → List ℕ → List (List ℕ) → List ℕ
nearest_name word best [] = best
nearest_name word best (name ∷ names) = nearest_name word (nearer word best name) names

-- the name at a place of some
abbrev pub name_at : List (Bor (List ℕ)) → ℕ → List ℕ
name_at names place = (get_or names place (record { ref_ptr = (0, 0); now = [] })).now

-- a name that is at most so many edits away
abbrev pub name_within : Option ℕ → List ℕ → List ℕ → Option (List ℕ)
name_within None word name = None
name_within (Some most) word name = if nat_le (distance word name) most then Some name else None

-- the nearest of names, where the word is near to it
abbrev pub near_name : List ℕ → List (List ℕ) → Option (List ℕ)
near_name word [] = None
near_name word (name ∷ names) = name_within (most_edits word) word (nearest_name word name names)
