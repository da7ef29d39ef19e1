-- What would be right in place of a value that is mistaken; nothing where nothing is near.
use Rattle.std.specs.Prelude.{ℕ, ◌+◌, ◌==◌, ◌&&◌, ◌||◌, Bool, false, not, nat_lt, is_some, if◌then◌else◌, List, [], ◌∷◌, ◌++◌, Option, None, Some, unwrap_or, take, drop, map, find, codes}
use Rattle.std.specs.List.{filter, join_with_byte, position, slice_split}
use Rattle.std.specs.Str.{bytes_eq}
use Rattle.clap.specs.Words.{Text}
use Rattle.pf_message.specs.Nearness.{lowered, near_name}
use Rattle.pf_message.specs.Positions.{is_blank_byte}
use Rattle.pf_message.specs.Shell.{shell_word}
use Rattle.pf_text.specs.FileName.{is_plain}
use Rattle.pf_text.specs.Numbers.{number_of}
use Rattle.pf_vocabulary.specs.Options.FailLists.{is_word_of_list, words_joined}
use Rattle.pf_vocabulary.specs.TaskWords.Reading.{words_in}
use Rattle.pf_vocabulary.specs.declared.questions.mistake.WhyMistake.TheVariants as asking
use Rattle.pf_arguments.specs.declared.mistake.Mistake.{Mistake}
use Rattle.pf_arguments.specs.declared.mistake.Mistake.TheVariants.{UnknownFormat, BadStyle, BadTasks, BadFailOn, Why}
use Rattle.pf_arguments.specs.Hints.Words.{is_script}

-- the name that a word is near to, else this
abbrev pub near_or : Text → List Text → List ℕ → List ℕ
near_or word names other = unwrap_or (near_name word names) other

-- the formats of a run
abbrev pub run_formats : List Text
run_formats =
    codes "schedule" ∷ codes "tables" ∷ codes "json" ∷ codes "report" ∷ codes "replies" ∷ codes "lags" ∷ codes "misses" ∷ codes "denials"
    ∷ codes "events" ∷ codes "script" ∷ codes "processors" ∷ codes "stats" ∷ codes "chart" ∷ codes "svg" ∷ codes "windows" ∷ codes "jobs"
    ∷ codes "load" ∷ codes "quanta" ∷ codes "full" ∷ codes "trace" ∷ codes "html" ∷ codes "c" ∷ []

-- what is meant by a word that others use for a format, in letters of any case
unfoldable pub format_like : Text → Option Text
format_like word =
    if bytes_eq word (codes "gantt") || bytes_eq word (codes "plot") then Some (codes "chart or svg")
    else if bytes_eq word (codes "text") || bytes_eq word (codes "txt") then Some (codes "chart")
    else if bytes_eq word (codes "png") then Some (codes "svg, of which rsvg-convert makes a PNG")
    else if bytes_eq word (codes "pdf") then Some (codes "svg, of which rsvg-convert makes a PDF")
    else if bytes_eq word (codes "csv") then Some (codes "schedule, quanta, windows, jobs or stats: each is CSV")
    else if bytes_eq word (codes "perfetto") || bytes_eq word (codes "chrome") then Some (codes "trace")
    else if bytes_eq word (codes "header") || bytes_eq word (codes "h") then Some (codes "c")
    else if bytes_eq word (codes "page") then Some (codes "html")
    else None

abbrev pub format_hint : Text → List ℕ
format_hint word = unwrap_or (format_like (lowered word)) (near_or word run_formats (codes "pfair help formats"))

-- of a list of what a run fails on, the word that is near to the first wrong one
abbrev pub first_wrong : Text → Text
first_wrong list = unwrap_or (find (λ word. not (is_word_of_list word)) (words_joined list)) []

abbrev pub fail_on_hint : Text → List ℕ
fail_on_hint list = near_or (first_wrong list) (codes "refused" ∷ codes "denied" ∷ codes "missed" ∷ []) []

-- a range whose first number is above its last
abbrev pub is_turned : Option ℕ → Option ℕ → Bool
is_turned None last = false
is_turned (Some first) None = false
is_turned (Some first) (Some last) = nat_lt last first

-- an item of a list of tasks without its blanks, and with its numbers exchanged where it is such a range; 45 is `-`
abbrev pub turned_at : List ℕ → Option ℕ → List ℕ
turned_at item None = item
turned_at item (Some place) =
    if is_turned (number_of (take place item)) (number_of (drop (place + 1) item)) then drop (place + 1) item ++ codes "-" ++ take place item else item

abbrev pub without_blanks : List ℕ → List ℕ
without_blanks = filter (λ byte. not (is_blank_byte byte))

abbrev pub turned : List ℕ → List ℕ
turned item = turned_at item (position (λ byte. byte == 45) item)

-- the list of such items, where that is one
abbrev pub list_mended : Text → Text
list_mended text = join_with_byte 44 (map (λ item. turned (without_blanks item)) (slice_split (λ byte. byte == 44) text))

abbrev pub tasks_hint : Text → List ℕ
tasks_hint text = if is_some (words_in (list_mended text)) then list_mended text else []

-- a file that stands for the slot: the two words exchanged, where both can be shown as they are
abbrev pub why_words : Text → Text → List ℕ
why_words slot file = if is_plain slot && is_plain file then codes "pfair why " ++ shell_word slot ++ codes " " ++ shell_word file else []

abbrev pub slot_hint : Option Text → Text → List ℕ
slot_hint file word = if is_script word then why_words (unwrap_or file (codes "SLOT")) word else []

-- by the text of FILE, the value, and the mistake
abbrev pub mistake_hint : Option Text → Text → Mistake → List ℕ
mistake_hint file value UnknownFormat = format_hint value
mistake_hint file value BadStyle = near_or value (codes "strips" ∷ codes "stairs" ∷ []) []
mistake_hint file value BadTasks = tasks_hint value
mistake_hint file value BadFailOn = fail_on_hint value
mistake_hint file value (Why asking.Format) = near_or value (codes "text" ∷ codes "json" ∷ []) (codes "text, json")
mistake_hint file value (Why asking.Slot) = slot_hint file value
mistake_hint file value mistake = []
