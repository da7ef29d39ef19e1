-- A line that is answered adds lines to the script, or nothing.
use Rattle.std.specs.Prelude.{ℕ, ⊤, ◌≡◌, ◌&&◌, nat_lt, length, Bool, true, false, if◌then◌else◌, Option, None, Some, Result, Ok, Err, List, [], ◌∷◌, ◌++◌, codes, refl}
use Rattle.std.specs.List.{flat_map}
use Rattle.std.specs.Fmt.{decimal}
use Rattle.std.specs.Str.Lines.{strip_carriage_return}
use Rattle.std.proofs.Common.{inl, inr, sym, ◌∙◌, ap, append_assoc}
use Rattle.std.proofs.lemmas.List.{append-nil}
use Rattle.pf_session_lines.specs.Asked.{asked_at}
use Rattle.pf_session_lines.specs.Faults.{escape_text, too_long_text}
use Rattle.pf_session_lines.specs.Heard.{has_escape, heard, heard_fields, heard_if, heard_record, heard_row, heard_word, is_heading}
use Rattle.pf_session_lines.specs.Lines.{fields_in, line_of}
use Rattle.pf_session.specs.Showings.{Showings}
use Rattle.pf_session_lines.specs.Words.{word_at}
use Rattle.pf_session_lines.specs.declared.showing.Showing.{Showing}
use Rattle.pf_session_lines.specs.declared.showing.Showing.TheVariants as showing
use Rattle.pf_session_lines.specs.declared.asked.Asked.{Asked}
use Rattle.pf_session_lines.specs.declared.asked.Asked.TheVariants as asks
use Rattle.pf_session_lines.specs.declared.fault.LineFault.{LineFault}
use Rattle.pf_session_lines.specs.declared.hear.TheConstants.{LONGEST_LINE}
use Rattle.pf_session_lines.specs.declared.heard.Heard.{Heard}
use Rattle.pf_session_lines.specs.declared.heard.Heard.TheVariants.{Nothing, Heading, Record, Shown, Reverse, Save, Help, Quit, Bad}
use Rattle.pf_session_lines.specs.declared.word.Word.{Word}
use Rattle.pf_scenario.specs.declared.change.Change.{Change}
use Rattle.pf_scenario.specs.declared.change.Change.TheVariants.{Insert, Alter, Strike}
use Rattle.pf_session.specs.Made.{back_line, change_line, label_back, taking_back}
use Rattle.pf_session_turns.specs.Sitters.{answers}
use Rattle.pf_stream.specs.Dialogue.Scripts.{GrowsTo}
use Rattle.pf_stream.specs.declared.dialogue.answers.Going.{Going}
use Rattle.pf_session_turns.specs.Turns.{GoesOn, Saves, behind_showing, heard_in, heard_of, line_in}
use Rattle.pf_session.specs.Session.{SessionState, behind_reversal, behind_undo_of, exchanged, newest_of}
use Rattle.pf_session_lines.specs.declared.reversal.Reversal.{Reversal}
use Rattle.pf_session_lines.specs.declared.reversal.Reversal.TheVariants.{Undo, Redo}
use Rattle.pf_script.specs.Plan.Parsing.{said_at}
use Rattle.pf_script.specs.declared.plan.fault.RecordFault.{RecordFault}
use Rattle.pf_script.specs.declared.plan.said.Said.{Said}
use Rattle.pf_script.specs.declared.plan.state.Progress.{Progress}

abbrev EndsLine : List ℕ → Type 0
EndsLine text = (front : List ℕ) × (text ≡ front ++ 10 ∷ [])

behind : (before text : List ℕ) → EndsLine text → EndsLine (before ++ text)
behind before text is = (before ++ is.0, ap (λ t. before ++ t) is.1 ∙ sym (append_assoc before is.0 (10 ∷ [])))

-- the lines of fields and of changes
fields_end : (fields : List (List ℕ)) → EndsLine (line_of fields)
fields_end [] = ([], refl)
fields_end (field ∷ fields) = behind field _ (flat_map (λ f. codes "," ++ f) fields, refl)

change_ends : (change : Change) → EndsLine (change_line change)
change_ends (Insert event) = (_, refl)
change_ends (Alter id event) = behind (codes "alter,") _ (behind (decimal id) _ (behind (codes ",") _ (_, refl)))
change_ends (Strike id) = behind (codes "strike,") _ (decimal id, refl)

back_ends : (label : Option (List ℕ)) (change : Change) → EndsLine (back_line label change)
back_ends None change = change_ends change
back_ends (Some label) change = behind (codes "label,") _ (behind label _ (behind (codes ",again,") _ (change_ends change)))

-- what is heard: a record has its line
abbrev IsLined : Heard → Type 0
IsLined Nothing = ⊤
IsLined Heading = ⊤
IsLined (Record said line) = EndsLine line
IsLined (Shown wanted) = ⊤
IsLined (Reverse reversal) = ⊤
IsLined (Save file) = ⊤
IsLined Help = ⊤
IsLined Quit = ⊤
IsLined (Bad field text hint) = ⊤

either_lined : (first : Bool) (a b : Heard) → IsLined a → IsLined b → IsLined (if first then a else b)
either_lined true a b is other = is
either_lined false a b is other = other

record_lined : (p : Progress) (fields : List (List ℕ)) (said : Result Said RecordFault) → IsLined (heard_record p fields said)
record_lined p fields (Ok said) = fields_end fields
record_lined p fields (Err fault) = tt

word_lined : (p : Progress) (fields : List (List ℕ)) (asked : Result Asked LineFault) → IsLined (heard_word p fields asked)
word_lined p fields (Ok (asks.Shown wanted)) = tt
word_lined p fields (Ok (asks.Reverse reversal)) = tt
word_lined p fields (Ok asks.Save) = tt
word_lined p fields (Ok asks.Help) = tt
word_lined p fields (Ok asks.Quit) = tt
word_lined p fields (Err fault) = tt

if_lined : (p : Progress) (fields : List (List ℕ)) (word : Option Word) → IsLined (heard_if p fields word)
if_lined p fields None = record_lined p fields (said_at p fields)
if_lined p fields (Some word) = word_lined p fields (asked_at p word fields)

fields_lined : (is_first : Bool) (p : Progress) (fields : List (List ℕ)) → IsLined (heard_fields is_first p fields)
fields_lined is_first p fields = either_lined (is_first && is_heading fields) Heading _ tt (if_lined p fields (word_at fields))

row_lined : (is_first : Bool) (p : Progress) (line : List ℕ) (fields : Option (List (List ℕ))) → IsLined (heard_row is_first p line fields)
row_lined is_first p line None = tt
row_lined is_first p line (Some fields) =
    either_lined (has_escape line) (Bad 0 escape_text []) _ tt (fields_lined is_first p fields)

heard_lined : (is_first : Bool) (p : Progress) (line : List ℕ) → IsLined (heard is_first p line)
heard_lined is_first p line =
    let text = strip_carriage_return line in
    either_lined (nat_lt LONGEST_LINE (length text)) (Bad 0 too_long_text []) _ tt (row_lined is_first p text (fields_in text))

in_lined : (s : SessionState) (line : Option (List ℕ)) → IsLined (heard_in s line)
in_lined s None = tt
in_lined s (Some line) = heard_lined s.is_first s.course.progress line

-- a session whose script is as it was, or longer by a line
stays : (s t : SessionState) → t.script ≡ s.script → GrowsTo s.script t.script
stays s t is = record { more = []; lines = inl refl; is = is ∙ sym (append-nil s.script) }

gets : (s t : SessionState) (line : List ℕ) → EndsLine line → t.script ≡ s.script ++ line → GrowsTo s.script t.script
gets s t line ends is = record { more = line; lines = inr ends; is = is }

showing_grows : (s t : SessionState) (made : Showing) → t ≡ behind_showing s made → GrowsTo s.script t.script
showing_grows s t (showing.Text text) is = stays s t (ap (λ q. q.script) is)
showing_grows s t (showing.Bad words) is = stays s t (ap (λ q. q.script) is)

undo_grows : (s t : SessionState) (desk : _) (newest : _) → t ≡ behind_undo_of s desk newest → GrowsTo s.script t.script
undo_grows s t None newest is = stays s t (ap (λ q. q.script) is)
undo_grows s t (Some st) None is = stays s t (ap (λ q. q.script) is)
undo_grows s t (Some st) (Some newest) is =
    gets s t _ (back_ends (label_back s.course.progress.labels newest) (taking_back newest)) (ap (λ q. q.script) is)

reversal_grows : (reversal : Reversal) (s t : SessionState) → t ≡ behind_reversal reversal s → GrowsTo s.script t.script
reversal_grows Undo s t is = undo_grows s t s.course.desk (newest_of s.made) is
reversal_grows Redo s t is = undo_grows (exchanged s) (exchanged t) s.course.desk (newest_of s.undone) (ap exchanged is)

saves_grows : {S : Type 0} (saves : S → List ℕ → List ℕ → Bool → S → Type 0) (s : SessionState) (v : S) (file : List ℕ) (made : Showing) (g : Going)
    (a : List ℕ) (t : SessionState) (w : S) → Saves saves s v file made g a t w → GrowsTo s.script t.script
saves_grows saves s v file (showing.Bad words) g a t w h = stays s t (ap (λ q. q.script) h.2)
saves_grows saves s v file (showing.Text text) g a t w h = stays s t (ap (λ q. q.script) h.4)

goes_grows : (shows : Showings) {S : Type 0} (saves : S → List ℕ → List ℕ → Bool → S → Type 0) (s : SessionState) (v : S) (heard : Heard) (g : Going) (a : List ℕ)
    (t : SessionState) (w : S) → IsLined heard → GoesOn shows saves s v heard g a t w → GrowsTo s.script t.script
goes_grows shows saves s v Nothing g a t w is h = stays s t (ap (λ q. q.script) h.2)
goes_grows shows saves s v Heading g a t w is h = stays s t (ap (λ q. q.script) h.2)
goes_grows shows saves s v (Record said line) g a t w is h = gets s t line is (ap (λ q. q.script) h.2)
goes_grows shows saves s v (Shown wanted) g a t w is h = showing_grows s t h.0 h.2.2
goes_grows shows saves s v (Reverse reversal) g a t w is h = reversal_grows reversal s t h.2
goes_grows shows saves s v (Save file) g a t w is h = saves_grows saves s v file h.0 g a t w h.2
goes_grows shows saves s v Help g a t w is h = stays s t (ap (λ q. q.script) h.2)
goes_grows shows saves s v Quit g a t w is h = stays s t (ap (λ q. q.script) h.2)
goes_grows shows saves s v (Bad field text hint) g a t w is h = stays s t (ap (λ q. q.script) h.2)

-- Use: the law of a sitter's script.
pub grows : (shows : Showings) (s : SessionState) (line text : List ℕ) (going : Going) (t : SessionState) → answers shows s line text going t → GrowsTo s.script t.script
grows shows s line text going t (inl h) =
    goes_grows shows (λ v file bytes is_saved w. Unit {0}) s tt (heard_of s line) going text t tt (in_lined s (line_in s.manner.whole line)) h
grows shows s line text going t (inr h) = stays s t (ap (λ q. q.script) h.2)
