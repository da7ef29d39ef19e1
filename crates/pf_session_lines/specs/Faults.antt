-- What is wrong with a line, its text, and what would be right.
use Rattle.std.specs.Prelude.{⊤, ℕ, true, false, ◌+◌, ◌-◌, ◌||◌, nat_lt, if◌then◌else◌, List, [], ◌++◌, length, Result, Ok, Err, codes}
use Rattle.pf_script.specs.Fields.{field, is_word}
use Rattle.pf_script.specs.Messages.FieldTexts.{shown_text}
use Rattle.pf_script.specs.Messages.PlanHints.{hint_text, name_texts, near_or}
use Rattle.pf_script.specs.Messages.PlanTexts.{what_text}
use Rattle.pf_script.specs.Messages.Texts.{outside_text}
use Rattle.pf_script.specs.declared.messages.hint.HintScope.{HintScope}
use Rattle.pf_script.specs.declared.plan.fault.Reason.{Reason}
use Rattle.pf_script.specs.declared.plan.fault.Reason.TheVariants.{NoRecord}
use Rattle.pf_script.specs.declared.plan.state.Progress.{Progress}
use Rattle.pf_session_lines.specs.declared.fault.LineFault.{LineFault}
use Rattle.pf_session_lines.specs.declared.fault.LineReason.{LineReason}
use Rattle.pf_session_lines.specs.declared.fault.LineReason.TheVariants.{OfRecord, NoWord, NoSettings, Missing, TooMuch, NoNumber, Outside, NoTask}
use Rattle.pf_session_lines.specs.Words.{all_words, first_after, form_of, word_at}

-- of a line that has too many bytes
abbrev pub too_long_text : List ℕ
too_long_text = codes "it has more than 65536 bytes"

-- of a line that has the byte 27, as an arrow key leaves it
abbrev pub escape_text : List ℕ
escape_text = codes "no line editing here: rlwrap pfair desk"

-- a word that is none of a record is none of the others either
abbrev pub line_reason : Reason → LineReason
line_reason NoRecord = NoWord
line_reason reason = OfRecord reason

-- by the reason, of a field by its number from 1
unfoldable pub reason_text : Progress → List (List ℕ) → ℕ → LineReason → List ℕ
reason_text p fields number (OfRecord reason) = what_text p.names fields (record { field = number; reason = reason })
reason_text p fields number NoWord = shown_text (field fields (number - 1)) (codes " is no record and no word")
reason_text p fields number NoSettings = codes "settings are expected"
reason_text p fields number Missing = first_after (word_at fields) ++ (codes " is missing: " ++ form_of fields)
reason_text p fields number TooMuch = codes "a field too much: " ++ form_of fields
reason_text p fields number NoNumber = shown_text (field fields (number - 1)) (codes " is no number of 1 to 15 digits")
reason_text p fields number (Outside value most) = outside_text value most
reason_text p fields number NoTask = shown_text (field fields (number - 1)) (codes " names no task so far")

-- in place of a first field that is none: what others call it, the near one, or where all are told
abbrev pub word_hint : List (List ℕ) → List ℕ
word_hint fields =
    if is_word fields 0 (codes "bye") || is_word fields 0 (codes "q") then codes "quit"
    else if is_word fields 0 (codes "h") then codes "help"
    else near_or true (field fields 0) all_words (codes "help lists the words")

-- a quote that is open at the end of a line ends there
abbrev pub line_scope : HintScope
line_scope = record { is_quote_open = false; seeks_near = true }

-- what would be right by the reason, of a field by its number from 1; nothing where nothing can be said
unfoldable pub reason_hint : Progress → List (List ℕ) → ℕ → LineReason → List ℕ
reason_hint p fields number (OfRecord reason) = hint_text line_scope p.names p.labels fields (record { field = number; reason = reason })
reason_hint p fields number NoWord = word_hint fields
reason_hint p fields number NoTask = near_or true (field fields (number - 1)) (name_texts p.names) []
reason_hint p fields number other = []

-- the second step from the first one's value, or the first one's fault
infixl 10 ◌>>=◌
abbrev pub ◌>>=◌ : {A B : Type 0} → Result A LineFault → (A → Result B LineFault) → Result B LineFault
Ok a >>= f = f a
Err fault >>= f = Err fault

-- a fault of the field at a place
abbrev pub fault_at : ℕ → LineReason → LineFault
fault_at place reason = record { field = place + 1; reason = reason }

-- a word has so many fields with itself, least to most: at fault is the first one that is missing or too much
abbrev pub of_length : List (List ℕ) → ℕ → ℕ → Result ⊤ LineFault
of_length fields least most =
    if nat_lt (length fields) least then Err (fault_at (length fields) Missing)
    else if nat_lt most (length fields) then Err (fault_at most TooMuch)
    else Ok tt
