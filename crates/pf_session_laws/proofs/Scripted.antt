-- Each session is what its script makes.
use Rattle.std.proofs.Common.{◌≡◌, ◌∙◌, ◌+◌, ℕ, Bool, true, false, List, [], ◌∷◌, ◌++◌, Option, None, Some, Result, Ok, Err, codes, append_assoc, append-nil, refl, sym, ap, subst, inl, inr}
use Rattle.std.specs.Prelude.{⊤, ◌⊎◌, ◌&&◌, if◌then◌else◌, is_some, length, nat_lt}
use Rattle.std.specs.Str.Lines.{strip_carriage_return}
use Rattle.pf_desk.specs.Machine.{State}
use Rattle.pf_session_lines.specs.Asked.{asked_at}
use Rattle.pf_session_lines.specs.Faults.{escape_text, too_long_text}
use Rattle.pf_session_lines.specs.Heard.{has_escape, heard, heard_fields, heard_if, heard_record, heard_row, heard_word, is_heading}
use Rattle.pf_session_lines.specs.Lines.{fields_in, line_of}
use Rattle.pf_session_lines.specs.Words.{word_at}
use Rattle.pf_session_lines.specs.declared.showing.Showing.{Showing}
use Rattle.pf_session_lines.specs.declared.showing.Showing.TheVariants as showing
use Rattle.pf_session_lines.specs.declared.asked.Asked.{Asked}
use Rattle.pf_session_lines.specs.declared.asked.Asked.TheVariants as asks
use Rattle.pf_session_lines.specs.declared.fault.LineFault.{LineFault}
use Rattle.pf_session_lines.specs.declared.hear.TheConstants.{LONGEST_LINE}
use Rattle.pf_session_lines.specs.declared.heard.Heard.{Heard}
use Rattle.pf_session_lines.specs.declared.heard.Heard.TheVariants.{Nothing, Heading, Record, Shown, Reverse, Save, Help, Quit, Bad}
use Rattle.pf_session_lines.specs.declared.word.Word.{Word}
use Rattle.pf_journal.specs.Lines.{records_of, script_of}
use Rattle.pf_journal_session.specs.Journaled.{anew, behind_file, session_on}
use Rattle.pf_plain_script.specs.Plain.{Course, course_behind, start}
use Rattle.pf_text.specs.Rows.Rows.{Row, rows as rows_in}
use Rattle.pf_replies.specs.Course.{ScriptCourse}
use Rattle.pf_script.specs.Told.{FaultTold, told}
use Rattle.pf_session.specs.Held.{held_behind}
use Rattle.pf_session.specs.Made.{label_back, taking_back}
use Rattle.pf_session_lines.specs.declared.reversal.Reversal.{Reversal}
use Rattle.pf_session_lines.specs.declared.reversal.Reversal.TheVariants.{Undo, Redo}
use Rattle.pf_session.specs.declared.made.Made.{Made}
use Rattle.pf_answers.specs.declared.manner.Manner.{Manner}
use Rattle.pf_session_turns.specs.Opening.{behind_heading, behind_rows, ended, next, opened, opened_plain, opened_plan, opened_rows}
use Rattle.pf_session_turns.specs.Sitters.{answers}
use Rattle.pf_stream.specs.Dialogue.Answered.{AnswersAll}
use Rattle.pf_stream.specs.declared.dialogue.answers.Going.{Going}
use Rattle.pf_stream.specs.declared.dialogue.answers.Going.TheVariants.{On}
use Rattle.pf_session_turns.specs.Turns.{GoesOn, Saves, behind_showing, heard_in, heard_of, line_in}
use Rattle.pf_session.specs.Session.{SessionState, at_start, back_said, behind_bad, behind_record, behind_reversal, behind_undo, behind_undo_of, exchanged, newest_of}
use Rattle.pf_script.specs.Plan.Heading.{heading_fault, is_plan_heading}
use Rattle.pf_script.specs.Plan.Parsing.{end_fault, said_at}
use Rattle.pf_script.specs.declared.plan.fault.RecordFault.{RecordFault}
use Rattle.pf_script.specs.declared.plan.said.Said.{Said}
use Rattle.pf_script.specs.declared.plan.state.Progress.{Progress}
use Rattle.pf_session_laws.specs.Resumed.{anything, IsBegun, IsBehind, IsSession}
use Rattle.pf_session_laws.proofs.Reading.{AreRead, IsRead, lines_text}
use Rattle.pf_session_laws.proofs.Records.{said_read}
use Rattle.pf_session_laws.proofs.Sound.{IsSound, ShortMade, made_behind_record, newest_short, opened_behind, reversed_short, sound_behind, sound_start, undone_behind_record, undone_short}
use Rattle.pf_session_laws.proofs.Undone.{back_fields, back_says, back_text}

-- good records, one after the other, from one course to another
abbrev pub Runs : Course → List (List (List ℕ)) → Course → Type 0
Runs c [] d = d ≡ c
Runs c (fields ∷ rs) d = (said : Said) × (said_at c.progress fields ≡ Ok said) × Runs (course_behind c said) rs d

-- what they said
abbrev pub saids_in : (c : Course) (rs : List (List (List ℕ))) (d : Course) → Runs c rs d → List Said
saids_in c [] d runs = []
saids_in c (fields ∷ rs) d runs = runs.0 ∷ saids_in (course_behind c runs.0) rs d runs.2

-- how far a desk is after that
abbrev pub held_saids : Option ScriptCourse → List Said → Option ScriptCourse
held_saids held [] = held
held_saids held (said ∷ saids) = held_saids (held_behind held said) saids

-- what holds of each session: its script has records, which are read from it and make its course and its desk
pub record IsScripted (s : SessionState) : Type 0 where
  pub rows : List (List (List ℕ))
  pub read : AreRead rows
  pub script_is : s.script ≡ codes "plan,1\n" ++ lines_text false rows
  pub runs : Runs start rows s.course
  pub held : s.held ≡ held_saids None (saids_in start rows s.course runs)
  pub sound : IsSound s.course
  pub made : ShortMade s.made
  pub undone : ShortMade s.undone
  pub came : (rows ≡ []) ⊎ (s.course.progress.opened ≡ true)
  pub first : s.course.progress.opened ≡ true → s.is_first ≡ false

-- so it is of the next one, which has its records, or one more
abbrev pub IsNext : (s : SessionState) → IsScripted s → SessionState → Type 0
IsNext s is t = (more : IsScripted t) × ((more.rows ≡ is.rows) ⊎ ((fields : List (List ℕ)) × (more.rows ≡ is.rows ++ fields ∷ [])))

runs_more : (rs : List (List (List ℕ))) (c d : Course) (fields : List (List ℕ)) (said : Said) → Runs c rs d → said_at d.progress fields ≡ Ok said
    → Runs c (rs ++ fields ∷ []) (course_behind d said)
runs_more [] c d fields said runs e =
    (said, subst (λ (q : Course). said_at q.progress fields ≡ Ok said) runs e, ap (λ (q : Course). course_behind q said) runs)
runs_more (r ∷ rs) c d fields said runs e = (runs.0, runs.1, runs_more rs (course_behind c runs.0) d fields said runs.2 e)

saids_more : (rs : List (List (List ℕ))) (c d : Course) (fields : List (List ℕ)) (said : Said) (runs : Runs c rs d) (e : said_at d.progress fields ≡ Ok said)
    → saids_in c (rs ++ fields ∷ []) (course_behind d said) (runs_more rs c d fields said runs e) ≡ saids_in c rs d runs ++ said ∷ []
unfolding runs_more
saids_more [] c d fields said runs e = refl
saids_more (r ∷ rs) c d fields said runs e = ap (λ (t : List Said). runs.0 ∷ t) (saids_more rs (course_behind c runs.0) d fields said runs.2 e)

one_held : (held : Option ScriptCourse) (saids : List Said) (said : Said) → held_saids held (saids ++ said ∷ []) ≡ held_behind (held_saids held saids) said
one_held held [] said = refl
one_held held (x ∷ saids) said = one_held (held_behind held x) saids said

held_more : (s : SessionState) (rs : List (List (List ℕ))) (fields : List (List ℕ)) (said : Said) (runs : Runs start rs s.course)
    (e : said_at s.course.progress fields ≡ Ok said) → s.held ≡ held_saids None (saids_in start rs s.course runs)
    → held_behind s.held said ≡ held_saids None (saids_in start (rs ++ fields ∷ []) (course_behind s.course said) (runs_more rs start s.course fields said runs e))
held_more s rs fields said runs e is =
    ap (λ (h : Option ScriptCourse). held_behind h said) is
    ∙ sym (one_held None (saids_in start rs s.course runs) said)
    ∙ sym (ap (held_saids None) (saids_more rs start s.course fields said runs e))

read_more : (rs : List (List (List ℕ))) (fields : List (List ℕ)) → AreRead rs → IsRead fields → AreRead (rs ++ fields ∷ [])
read_more [] fields read one = (one, tt)
read_more (r ∷ rs) fields read one = (read.0, read_more rs fields read.1 one)

text_more : (rs : List (List (List ℕ))) (fields : List (List ℕ)) → lines_text false (rs ++ fields ∷ []) ≡ lines_text false rs ++ line_of fields
text_more [] fields = append-nil (line_of fields)
text_more (r ∷ rs) fields = ap (λ (t : List ℕ). line_of r ++ t) (text_more rs fields) ∙ sym (append_assoc (line_of r) (lines_text false rs) (line_of fields))

script_more : (script : List ℕ) (rs : List (List (List ℕ))) (fields : List (List ℕ)) → script ≡ codes "plan,1\n" ++ lines_text false rs
    → script ++ line_of fields ≡ codes "plan,1\n" ++ lines_text false (rs ++ fields ∷ [])
script_more script rs fields is =
    ap (λ (t : List ℕ). t ++ line_of fields) is ∙ append_assoc (codes "plan,1\n") (lines_text false rs) (line_of fields)
    ∙ ap (λ (t : List ℕ). codes "plan,1\n" ++ t) (sym (text_more rs fields))

-- after a record
record_next : (s : SessionState) (is : IsScripted s) (fields : List (List ℕ)) (said : Said) → said_at s.course.progress fields ≡ Ok said
    → IsNext s is (behind_record s said (line_of fields))
record_next s is fields said e = (
  record {
    rows = is.rows ++ fields ∷ [];
    read = read_more is.rows fields is.read (said_read s.course.progress fields said is.sound.texts e);
    script_is = script_more s.script is.rows fields is.script_is;
    runs = runs_more is.rows start s.course fields said is.runs e;
    held = held_more s is.rows fields said is.runs e is.held;
    sound = sound_behind s.course fields said is.sound e;
    made = made_behind_record s.course fields said s.made is.sound e is.made;
    undone = undone_behind_record s.course.desk said s.undone is.undone;
    came = inr (opened_behind s.course fields said is.sound e);
    first = λ came. refl;
  },
  inr (fields, refl),
)

-- after an undo
undo_next : (s : SessionState) (is : IsScripted s) (desk : Option State) (newest : Option Made) → s.course.desk ≡ desk → newest_of s.made ≡ newest
    → IsNext s is (behind_undo_of s desk newest)
undo_next s is None newest at made = (is, inl refl)
undo_next s is (Some st) None at made = (is, inl refl)
undo_next s is (Some st) (Some m) at made =
    let label = label_back s.course.progress.labels m in
    let fields = back_fields label (taking_back m) in
    let said = back_said s m in
    let short = newest_short s.made m is.made made in
    let opened : s.course.progress.opened ≡ true = is.sound.desk ∙ ap is_some at in
    let e : said_at s.course.progress fields ≡ Ok said = back_says s.course.progress m opened short is.sound.texts.labels in (
      record {
        rows = is.rows ++ fields ∷ [];
        read = read_more is.rows fields is.read (said_read s.course.progress fields said is.sound.texts e);
        script_is = ap (λ (t : List ℕ). s.script ++ t) (sym (back_text label (taking_back m))) ∙ script_more s.script is.rows fields is.script_is;
        runs = runs_more is.rows start s.course fields said is.runs e;
        held = held_more s is.rows fields said is.runs e is.held;
        sound = sound_behind s.course fields said is.sound e;
        made = undone_short s.course st m s.made at is.sound short is.made;
        undone = reversed_short s.course st m s.undone at is.sound short is.undone;
        came = inr (opened_behind s.course fields said is.sound e);
        first = λ came. is.first opened;
      },
      inr (fields, refl),
    )

-- and after a redo
exchanged_scripted : (s : SessionState) → IsScripted s → IsScripted (exchanged s)
exchanged_scripted s is = record {
  rows = is.rows;
  read = is.read;
  script_is = is.script_is;
  runs = is.runs;
  held = is.held;
  sound = is.sound;
  made = is.undone;
  undone = is.made;
  came = is.came;
  first = is.first;
}

reversal_next : (reversal : Reversal) (s : SessionState) (is : IsScripted s) → IsNext s is (behind_reversal reversal s)
unfolding undo_next exchanged_scripted
reversal_next Undo s is = undo_next s is s.course.desk (newest_of s.made) refl refl
reversal_next Redo s is =
    let next = undo_next (exchanged s) (exchanged_scripted s is) s.course.desk (newest_of s.undone) refl refl in
    (exchanged_scripted (behind_undo (exchanged s)) next.0, next.1)

-- after other lines
bad_next : (s : SessionState) (is : IsScripted s) → IsNext s is (behind_bad s)
bad_next s is = (
  record {
    rows = is.rows;
    read = is.read;
    script_is = is.script_is;
    runs = is.runs;
    held = is.held;
    sound = is.sound;
    made = is.made;
    undone = is.undone;
    came = is.came;
    first = is.first;
  },
  inl refl,
)

heading_next : (s : SessionState) (is : IsScripted s) → IsNext s is (record s { is_first = false })
heading_next s is = (
  record {
    rows = is.rows;
    read = is.read;
    script_is = is.script_is;
    runs = is.runs;
    held = is.held;
    sound = is.sound;
    made = is.made;
    undone = is.undone;
    came = is.came;
    first = λ came. refl;
  },
  inl refl,
)

anew_scripted : (s : SessionState) → IsScripted s → IsScripted (anew s)
anew_scripted s is = record {
  rows = is.rows;
  read = is.read;
  script_is = is.script_is;
  runs = is.runs;
  held = is.held;
  sound = is.sound;
  made = tt;
  undone = tt;
  came = is.came;
  first = is.first;
}

showing_next : (s : SessionState) (is : IsScripted s) (made : Showing) → IsNext s is (behind_showing s made)
showing_next s is (showing.Text text) = (is, inl refl)
showing_next s is (showing.Bad words) = bad_next s is

-- what is heard: a record has its line, which says it
abbrev IsSaid : Progress → Heard → Type 0
IsSaid p Nothing = ⊤
IsSaid p Heading = ⊤
IsSaid p (Record said line) = (fields : List (List ℕ)) × (said_at p fields ≡ Ok said) × (line ≡ line_of fields)
IsSaid p (Shown wanted) = ⊤
IsSaid p (Reverse reversal) = ⊤
IsSaid p (Save file) = ⊤
IsSaid p Help = ⊤
IsSaid p Quit = ⊤
IsSaid p (Bad field text hint) = ⊤

either_said : (p : Progress) (first : Bool) (a b : Heard) → IsSaid p a → IsSaid p b → IsSaid p (if first then a else b)
either_said p true a b is other = is
either_said p false a b is other = other

record_said : (p : Progress) (fields : List (List ℕ)) (said : Result Said RecordFault) → said_at p fields ≡ said → IsSaid p (heard_record p fields said)
record_said p fields (Ok said) e = (fields, e, refl)
record_said p fields (Err fault) e = tt

word_said : (p : Progress) (fields : List (List ℕ)) (asked : Result Asked LineFault) → IsSaid p (heard_word p fields asked)
word_said p fields (Ok (asks.Shown wanted)) = tt
word_said p fields (Ok (asks.Reverse reversal)) = tt
word_said p fields (Ok asks.Save) = tt
word_said p fields (Ok asks.Help) = tt
word_said p fields (Ok asks.Quit) = tt
word_said p fields (Err fault) = tt

if_said : (p : Progress) (fields : List (List ℕ)) (word : Option Word) → IsSaid p (heard_if p fields word)
if_said p fields None = record_said p fields (said_at p fields) refl
if_said p fields (Some word) = word_said p fields (asked_at p word fields)

fields_said : (is_first : Bool) (p : Progress) (fields : List (List ℕ)) → IsSaid p (heard_fields is_first p fields)
fields_said is_first p fields = either_said p (is_first && is_heading fields) Heading _ tt (if_said p fields (word_at fields))

row_said : (is_first : Bool) (p : Progress) (line : List ℕ) (fields : Option (List (List ℕ))) → IsSaid p (heard_row is_first p line fields)
row_said is_first p line None = tt
row_said is_first p line (Some fields) = either_said p (has_escape line) (Bad 0 escape_text []) _ tt (fields_said is_first p fields)

heard_said : (is_first : Bool) (p : Progress) (line : List ℕ) → IsSaid p (heard is_first p line)
heard_said is_first p line =
    let text = strip_carriage_return line in
    either_said p (nat_lt LONGEST_LINE (length text)) (Bad 0 too_long_text []) _ tt (row_said is_first p text (fields_in text))

in_said : (s : SessionState) (line : Option (List ℕ)) → IsSaid s.course.progress (heard_in s line)
in_said s None = tt
in_said s (Some line) = heard_said s.is_first s.course.progress line

-- after what was heard
same_next : (s : SessionState) (is : IsScripted s) (q t : SessionState) → t ≡ q → IsNext s is q → IsNext s is t
same_next s is q t e h = subst (λ (u : SessionState). IsNext s is u) (sym e) h

stays : (s : SessionState) (is : IsScripted s) (t : SessionState) → t ≡ s → IsNext s is t
stays s is t e = same_next s is s t e (is, inl refl)

saves_next : {S : Type 0} (saves : S → List ℕ → List ℕ → Bool → S → Type 0) (s : SessionState) (is : IsScripted s) (v : S) (file : List ℕ) (made : Showing)
    (g : Going) (a : List ℕ) (t : SessionState) (w : S) → Saves saves s v file made g a t w → IsNext s is t
saves_next saves s is v file (showing.Bad words) g a t w h = same_next s is (behind_bad s) t h.2 (bad_next s is)
saves_next saves s is v file (showing.Text text) g a t w h = stays s is t h.4

goes_next : {S : Type 0} (saves : S → List ℕ → List ℕ → Bool → S → Type 0) (s : SessionState) (is : IsScripted s) (v : S) (heard : Heard) (g : Going)
    (a : List ℕ) (t : SessionState) (w : S) → IsSaid s.course.progress heard → GoesOn anything saves s v heard g a t w → IsNext s is t
goes_next saves s is v Nothing g a t w said h = stays s is t h.2
goes_next saves s is v Heading g a t w said h = same_next s is (record s { is_first = false }) t h.2 (heading_next s is)
goes_next saves s is v (Record what line) g a t w said h =
    same_next s is (behind_record s what (line_of said.0)) t (h.2 ∙ ap (λ (l : List ℕ). behind_record s what l) said.2) (record_next s is said.0 what said.1)
goes_next saves s is v (Shown wanted) g a t w said h = same_next s is (behind_showing s h.0) t h.2.2 (showing_next s is h.0)
goes_next saves s is v (Reverse reversal) g a t w said h = same_next s is (behind_reversal reversal s) t h.2 (reversal_next reversal s is)
goes_next saves s is v (Save file) g a t w said h = saves_next saves s is v file h.0 g a t w h.2
goes_next saves s is v Help g a t w said h = stays s is t h.2
goes_next saves s is v Quit g a t w said h = stays s is t h.2
goes_next saves s is v (Bad field text hint) g a t w said h = same_next s is (behind_bad s) t h.2 (bad_next s is)

-- Use: after one line.
pub answer_next : (s : SessionState) (is : IsScripted s) (line text : List ℕ) (going : Going) (t : SessionState) → answers anything s line text going t → IsNext s is t
answer_next s is line text going t (inl h) =
    goes_next (λ v file bytes is_saved w. Unit {0}) s is tt (heard_of s line) going text t tt (in_said s (line_in s.manner.whole line)) h
answer_next s is line text going t (inr h) = stays s is t h.2

answers_scripted : (lines : List (List ℕ)) (s : SessionState) (text : List ℕ) (t : SessionState) → AnswersAll (answers anything) s lines text t → IsScripted s → IsScripted t
answers_scripted [] s text t h is = subst (λ (q : SessionState). IsScripted q) (sym h.1) is
answers_scripted (line ∷ lines) s text t h is =
    answers_scripted lines h.2 h.1 t h.4 (answer_next s is line h.0 On h.2 h.3).0

-- after a script
start_scripted : (manner : Manner) → IsScripted (at_start manner)
start_scripted manner = record {
  rows = [];
  read = tt;
  script_is = refl;
  runs = refl;
  held = refl;
  sound = sound_start;
  made = tt;
  undone = tt;
  came = inl refl;
  first = λ came. let bad : false ≡ true = came in cc;
}

rows_scripted : (found : List Row) (s : SessionState) (n : ℕ) (t : SessionState) → IsScripted s → behind_rows s n found ≡ Ok t → IsScripted t
rows_scripted [] s n t is e = by (end_fault s.course.progress) e
  where
    by : (fault : Option RecordFault) → ended s n fault ≡ Ok t → IsScripted t
    by None e = let same : s ≡ t = cc in subst (λ (q : SessionState). IsScripted q) same is
    by (Some fault) e = let bad : Err n ≡ Ok t = e in cc
rows_scripted (row ∷ found) s n t is e =
    by (said_at s.course.progress row.fields) refl e (λ u more next_is. rows_scripted found u (n + 1) t more next_is)
  where
    by : (said : Result Said RecordFault) → said_at s.course.progress row.fields ≡ said
        → next (λ u. behind_rows u (n + 1) found) s n row.fields said ≡ Ok t
        → ((u : SessionState) → IsScripted u → behind_rows u (n + 1) found ≡ Ok t → IsScripted t) → IsScripted t
    by (Ok said) at e rest = rest (behind_record s said (line_of row.fields)) (record_next s is row.fields said at).0 e
    by (Err fault) at e rest = let bad : Err n ≡ Ok t = e in cc

plain_scripted : (s : SessionState) (found : List Row) (fault : Option FaultTold) (t : SessionState) → IsScripted s → opened_plain s found fault ≡ Ok t → IsScripted t
plain_scripted s found None t is e = rows_scripted (behind_heading found) s 1 t is e
plain_scripted s found (Some fault) t is e = let bad : Err fault.bad.number ≡ Ok t = e in cc

under_scripted : (s : SessionState) (fault : Option RecordFault) (found : List Row) (t : SessionState) → IsScripted s → opened_plan s fault found ≡ Ok t → IsScripted t
under_scripted s None found t is e = rows_scripted found (record s { is_first = false }) 2 t (heading_next s is).0 e
under_scripted s (Some fault) found t is e = let bad : Err 1 ≡ Ok t = e in cc

plan_scripted : (s : SessionState) (bytes : List ℕ) (found : List Row) (t : SessionState) → IsScripted s → opened_rows s bytes found ≡ Ok t → IsScripted t
plan_scripted s bytes [] t is e = plain_scripted s [] (told bytes).rest.fault t is e
plan_scripted s bytes (row ∷ found) t is e = by (is_plan_heading row.fields) e
  where
    by : (b : Bool) → (if b then opened_plan s (heading_fault row.fields) found else opened_plain s (row ∷ found) (told bytes).rest.fault) ≡ Ok t → IsScripted t
    by true e = under_scripted s (heading_fault row.fields) found t is e
    by false e = plain_scripted s (row ∷ found) (told bytes).rest.fault t is e

opened_scripted : (manner : Manner) (bytes : List ℕ) (t : SessionState) → opened manner bytes ≡ Ok t → IsScripted t
opened_scripted manner bytes t e = plan_scripted (at_start manner) bytes (rows_in bytes).rows t (start_scripted manner) e

file_scripted : (manner : Manner) (records : List (List ℕ)) (lines : List ℕ) (t : SessionState) → behind_file manner records lines ≡ Ok t → IsScripted t
file_scripted manner [] lines t e = let same : at_start manner ≡ t = cc in subst (λ (q : SessionState). IsScripted q) same (start_scripted manner)
file_scripted manner (first ∷ rest) lines t e = opened_scripted manner lines t e

on_scripted : (manner : Manner) (script : Option (List ℕ)) (bytes : List ℕ) (t : SessionState) → session_on manner script bytes ≡ Ok t → IsScripted t
on_scripted manner None bytes t e = file_scripted manner (records_of bytes) (script_of bytes) t e
on_scripted manner (Some script) bytes t e = opened_scripted manner script t e

begun_scripted : (s : SessionState) → IsBegun s → IsScripted s
begun_scripted s begun = by begun.is
  where
    is : IsScripted begun.session
    is = on_scripted begun.manner begun.script begun.bytes begun.session begun.begun

    by : (s ≡ begun.session) ⊎ (s ≡ anew begun.session) → IsScripted s
    by (inl e) = subst (λ (q : SessionState). IsScripted q) (sym e) is
    by (inr e) = subst (λ (q : SessionState). IsScripted q) (sym e) (anew_scripted begun.session is)

behind_scripted : (before s : SessionState) → IsBehind anything before s → IsScripted before → IsScripted s
behind_scripted before s behind is = answers_scripted behind.lines before behind.text s behind.answered is

-- Use: so it is of each session.
pub session_scripted : (s : SessionState) → IsSession s → IsScripted s
session_scripted s is = behind_scripted is.first s is.behind (begun_scripted is.first is.begun)
