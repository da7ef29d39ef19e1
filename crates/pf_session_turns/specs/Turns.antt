-- How a session goes on with a line, and what it answers.
use Rattle.std.specs.Prelude.{ℕ, ◌≡◌, ◌⊎◌, ◌-◌, ◌==◌, Bool, true, false, if◌then◌else◌, Option, None, Some, List, [], ◌++◌, length, take, slice_index, codes}
use Rattle.pf_answers.specs.Bad.{bad_text}
use Rattle.pf_answers.specs.declared.manner.Manner.{Manner}
use Rattle.pf_answers.specs.Shown.{shown_text}
use Rattle.pf_answers.specs.Telling.{taken_text, told_text}
use Rattle.pf_session_lines.specs.Heard.{heard}
use Rattle.pf_session_lines.specs.Words.{help_text}
use Rattle.pf_session_lines.specs.declared.heard.Heard.{Heard}
use Rattle.pf_session_lines.specs.declared.heard.Heard.TheVariants.{Nothing, Heading, Record, Shown, Reverse, Save, Help, Quit, Bad}
use Rattle.pf_vocabulary.specs.declared.options.format.Format.TheVariants.{Script}
use Rattle.pf_text.specs.FileName.{file_text}
use Rattle.pf_session.specs.Amid.{IsAmid}
use Rattle.pf_session.specs.Answers.{reversal_answer, said_answer}
use Rattle.pf_session.specs.Session.{SessionState, behind_bad, behind_record, behind_reversal}
use Rattle.pf_session_lines.specs.Values.{is_value}
use Rattle.pf_session.specs.Showings.{Showings}
use Rattle.pf_session_lines.specs.declared.showing.Showing.{Showing}
use Rattle.pf_session_lines.specs.declared.showing.Showing.TheVariants as showing
use Rattle.pf_session_lines.specs.declared.wanted.Wanted.{Wanted}
use Rattle.pf_session_lines.specs.declared.wanted.Wanted.TheVariants.{Report}
use Rattle.pf_stream.specs.declared.dialogue.answers.Going.{Going}
use Rattle.pf_stream.specs.declared.dialogue.answers.Going.TheVariants.{On, Ends}

-- the answer to what is shown, or to what can't be
abbrev pub showing_answer : Manner → Wanted → Showing → List ℕ
showing_answer manner wanted (showing.Text text) = shown_text manner.json (is_value wanted) text.items
showing_answer manner wanted (showing.Bad words) = bad_text manner 0 words.items []

abbrev pub behind_showing : SessionState → Showing → SessionState
behind_showing s (showing.Text text) = s
behind_showing s (showing.Bad words) = behind_bad s

-- the answer to `save`: the file of this name was written, or was not
abbrev pub saved_text : Bool → List ℕ → Bool → List ℕ
saved_text false file true = codes "saved " ++ (file_text file ++ codes "\n")
saved_text true file true = taken_text true
saved_text json file false = told_text json (codes "cannot write " ++ file_text file)

-- going on so, with who saves (S) as before
abbrev pub Goes : {S : Type 0} → Going → List ℕ → SessionState → S → Going → List ℕ → SessionState → S → Type 0
Goes going answer state saver g a t w = (g ≡ going) × (a ≡ answer) × (t ≡ state) × (w ≡ saver)

-- a text was to be written to the file of this name: `saves` tells whether it was
abbrev pub Saves : {S : Type 0} → (S → List ℕ → List ℕ → Bool → S → Type 0) → SessionState → S → List ℕ → Showing → Going → List ℕ → SessionState → S → Type 0
Saves saves s v file (showing.Bad words) g a t w = Goes On (bad_text s.manner 0 words.items []) (behind_bad s) v g a t w
Saves saves s v file (showing.Text text) g a t w =
    (is_saved : Bool) × saves v file text.items is_saved w × (g ≡ On) × (a ≡ saved_text s.manner.json file is_saved) × (t ≡ s)

-- a session goes on so with what it heard: whether more is wanted, the answer, and what is after it. What is shown is what `shows` says of
-- it, and what is saved is what it shows as a script
abbrev pub GoesOn : Showings → {S : Type 0} → (S → List ℕ → List ℕ → Bool → S → Type 0) → SessionState → S → Heard → Going → List ℕ → SessionState → S → Type 0
GoesOn shows saves s v Nothing g a t w = Goes On [] s v g a t w
GoesOn shows saves s v Heading g a t w = Goes On (taken_text s.manner.json) (record s { is_first = false }) v g a t w
GoesOn shows saves s v (Record said line) g a t w = Goes On (said_answer s.manner s.course said) (behind_record s said line) v g a t w
GoesOn shows saves s v (Shown wanted) g a t w =
    (made : Showing) × shows wanted s made × Goes On (showing_answer s.manner wanted made) (behind_showing s made) v g a t w
GoesOn shows saves s v (Reverse reversal) g a t w = Goes On (reversal_answer reversal s) (behind_reversal reversal s) v g a t w
GoesOn shows saves s v (Save file) g a t w = (made : Showing) × shows (Report Script) s made × Saves saves s v file made g a t w
GoesOn shows saves s v Help g a t w = Goes On (shown_text s.manner.json false help_text) s v g a t w
GoesOn shows saves s v Quit g a t w = Goes Ends [] s v g a t w
GoesOn shows saves s v (Bad field text hint) g a t w = Goes On (bad_text s.manner field text hint) (behind_bad s) v g a t w

-- of a last line that lacks its line feed, where whole lines are wanted
abbrev pub no_end_text : List ℕ
no_end_text = codes "it has no line end"

-- a line as it came, without its line feed; where it lacks that and whole lines are wanted, there is none
abbrev pub line_in : Bool → List ℕ → Option (List ℕ)
line_in whole line = if slice_index line (length line - 1) == 10 then Some (take (length line - 1) line) else if whole then None else Some line

-- what it hears of that
abbrev pub heard_in : SessionState → Option (List ℕ) → Heard
heard_in s None = Bad 0 no_end_text []
heard_in s (Some line) = heard s.is_first s.course.progress line

-- what it hears of a line as it came
abbrev pub heard_of : SessionState → List ℕ → Heard
heard_of s line = heard_in s (line_in s.manner.whole line)

-- a line was answered: as what it is, or memory was refused, which is told and changes nothing
abbrev pub AnswersLine : Showings → {S : Type 0} → (S → List ℕ → List ℕ → Bool → S → Type 0) → SessionState → S → List ℕ → Going → List ℕ → SessionState → S → Type 0
AnswersLine shows saves s v line g a t w =
    GoesOn shows saves s v (heard_of s line) g a t w ⊎ Goes On (told_text s.manner.json (codes "out of memory")) s v g a t w

-- what it heard leaves it in mid-change: only a record does
abbrev pub IsLeftAmid : SessionState → Heard → SessionState → Type 0
IsLeftAmid s (Record said line) t = IsAmid s said t
IsLeftAmid s heard t = ⊥

-- a line was not answered, as memory was refused: nothing has changed, or the line was a record that leaves it in mid-change
abbrev pub IsStopped : SessionState → List ℕ → SessionState → Type 0
IsStopped s line t = (t ≡ s) ⊎ IsLeftAmid s (heard_of s line) t
