-- What would be right in place of a word that is none.
use Rattle.std.specs.Prelude.{ℕ, Bool, ◌&&◌, ◌||◌, ◌==◌, unwrap_or, if◌then◌else◌, None, List, [], ◌∷◌, ◌++◌, codes}
use Rattle.std.specs.List.{list_any}
use Rattle.std.specs.Str.{bytes_eq}
use Rattle.pf_message.specs.Nearness.{near_name}
use Rattle.pf_script.specs.declared.messages.kind.ScriptKind.TheVariants.{Plan}
use Rattle.pf_script.specs.Messages.Words.{one_of, record_words}

-- whether a byte is among others
abbrev pub has_byte : ℕ → List ℕ → Bool
has_byte byte bytes = list_any (λ b. b == byte) bytes

abbrev pub is_blank : ℕ → Bool
is_blank byte = (byte == 32) || (byte == 9)

abbrev pub before_blank : List ℕ → List ℕ
before_blank [] = []
before_blank (byte ∷ bytes) = if is_blank byte then [] else byte ∷ before_blank bytes

-- a word of a plan
abbrev pub is_plan_word : List ℕ → Bool
is_plan_word word = list_any (bytes_eq word) (record_words Plan) || bytes_eq word (codes "plan")

-- a word of a session
abbrev pub is_desk_word : List ℕ → Bool
is_desk_word word =
    bytes_eq word (codes "why") || bytes_eq word (codes "fit") || bytes_eq word (codes "try") || bytes_eq word (codes "undo")
    || bytes_eq word (codes "redo") || bytes_eq word (codes "mark") || bytes_eq word (codes "diff") || bytes_eq word (codes "save")
    || bytes_eq word (codes "write") || bytes_eq word (codes "help") || bytes_eq word (codes "quit")

-- a word of a plan before a blank
abbrev pub is_parted_by_blank : List ℕ → Bool
is_parted_by_blank at = list_any is_blank at && is_plan_word (before_blank at)

-- the near one of the words that may stand there, where that is looked for, or else all
abbrev pub near_or_all : Bool → List ℕ → List (List ℕ) → List ℕ
near_or_all seeks at words = unwrap_or (if seeks then near_name at words else None) (one_of words)

unfoldable pub word_hint : Bool → List ℕ → List (List ℕ) → List ℕ
word_hint seeks at words =
    if has_byte 59 at then codes "commas separate fields, not semicolons"
    else if is_parted_by_blank at then codes "commas separate fields, not blanks"
    else if is_desk_word at then at ++ codes " is a word of pfair desk"
    else near_or_all seeks at words
