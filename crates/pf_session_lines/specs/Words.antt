-- The words that are no records.
use Rattle.std.specs.Prelude.{ℕ, Bool, true, false, if◌then◌else◌, List, [], ◌∷◌, ◌++◌, Option, None, Some, codes}
use Rattle.std.specs.List.{flat_map}
use Rattle.pf_vocabulary.specs.Options.Formats.{format_named, has_replies}
use Rattle.pf_vocabulary.specs.declared.options.format.Format.{Format}
use Rattle.pf_vocabulary.specs.declared.options.format.Format.TheVariants as format
use Rattle.pf_script.specs.Fields.{field, is_word}
use Rattle.pf_session_lines.specs.declared.word.Word.{Word}
use Rattle.pf_session_lines.specs.declared.word.Word.TheVariants.{Shows, Why, Fit, Reverse, Save, Help, Quit}
use Rattle.pf_session_lines.specs.declared.reversal.Reversal.TheVariants.{Undo, Redo}

-- all words, those of records first
abbrev pub all_words : List (List ℕ)
all_words =
    codes "settings" ∷ codes "slot" ∷ codes "name" ∷ codes "join" ∷ codes "leave" ∷ codes "delay" ∷ codes "limit" ∷ codes "label" ∷ codes "alter"
    ∷ codes "strike" ∷ codes "strict" ∷ codes "step" ∷ codes "why" ∷ codes "fit" ∷ codes "undo" ∷ codes "redo" ∷ codes "save" ∷ codes "help" ∷ codes "quit"
    ∷ codes "schedule" ∷ codes "lags" ∷ codes "misses" ∷ codes "denials" ∷ codes "events" ∷ codes "script" ∷ codes "processors" ∷ codes "stats"
    ∷ codes "chart" ∷ codes "svg" ∷ codes "windows" ∷ codes "jobs" ∷ codes "load" ∷ codes "quanta" ∷ codes "report" ∷ codes "full" ∷ codes "trace"
    ∷ codes "html" ∷ codes "c" ∷ []

-- the same, a line each
abbrev pub word_line : List ℕ → List ℕ
word_line word = word ++ codes "\n"

abbrev pub help_text : List ℕ
help_text = flat_map word_line all_words

-- a format without replies is a word
abbrev pub shows_format : Option Format → Option Word
shows_format None = None
shows_format (Some format) = if has_replies format then None else Some (Shows format)

-- the word that the first field is
unfoldable pub word_at : List (List ℕ) → Option Word
word_at fields =
    if is_word fields 0 (codes "why") then Some Why
    else if is_word fields 0 (codes "fit") then Some Fit
    else if is_word fields 0 (codes "undo") then Some (Reverse Undo)
    else if is_word fields 0 (codes "redo") then Some (Reverse Redo)
    else if is_word fields 0 (codes "save") then Some Save
    else if is_word fields 0 (codes "help") then Some Help
    else if is_word fields 0 (codes "quit") then Some Quit
    else shows_format (format_named (field fields 0))

-- whether a word may come before the settings
abbrev pub is_early : Word → Bool
is_early Help = true
is_early Quit = true
is_early word = false

-- the formats that may be followed by a range
abbrev pub has_range : Format → Bool
has_range (format.Schedule all) = true
has_range (format.Chart all) = true
has_range (format.Svg all look) = true
has_range (format.Windows all) = true
has_range (format.Load all) = true
has_range (format.Quanta all) = true
has_range other = false

-- what stands after a word in its form; in brackets what may be left out
abbrev pub fields_after : Option Word → List ℕ
fields_after (Some (Shows format)) = if has_range format then codes " [F [T]]" else []
fields_after (Some Why) = codes " SLOT [TASK]"
fields_after (Some Save) = codes " FILE"
fields_after word = []

-- the form of the word that stands in the first field
abbrev pub form_of : List (List ℕ) → List ℕ
form_of fields = field fields 0 ++ fields_after (word_at fields)

-- the field that must stand after a word
abbrev pub first_after : Option Word → List ℕ
first_after (Some Why) = codes "SLOT"
first_after (Some Save) = codes "FILE"
first_after word = []
