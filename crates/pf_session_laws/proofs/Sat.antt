-- A sitting whose answers are kept in a file.
use Rattle.std.proofs.Common.{◌≡◌, ◌∙◌, ℕ, Bool, false, IsTrue, Option, Some, None, List, [], ◌∷◌, ◌++◌, Result, Ok, Err, codes, map, append_assoc, append-nil, refl, sym, ap, ap₂, subst, inl, inr}
use Rattle.std.specs.Prelude.{◌⊎◌, is_some}
use Rattle.std.proofs.lemmas.List.{append_cancel_left}
use Rattle.pf_session_lines.specs.Lines.{line_of}
use Rattle.pf_session.specs.Showings.{Showings}
use Rattle.pf_session_lines.specs.declared.showing.Showing.TheVariants as showing
use Rattle.pf_session_lines.specs.declared.showing.Showing.{Showing}
use Rattle.pf_session_lines.specs.declared.heard.Heard.{Heard}
use Rattle.pf_session_lines.specs.declared.heard.Heard.TheVariants.{Nothing, Heading, Record, Shown, Reverse, Save, Help, Quit, Bad}
use Rattle.pf_journal.specs.Crash.{IsMixing, IsOpenable, IsWithFront}
use Rattle.pf_journal.specs.Lines.{records_of}
use Rattle.pf_journal.specs.Texts.{whole_lines}
use Rattle.pf_journal.specs.declared.journal_error.JournalError.{JournalError}
use Rattle.pf_journal.specs.Recorder.Recording.{Answers, Keeps, Loses, Recording, Stops as StopsHere}
use Rattle.pf_journal.specs.Recorder.Told.{IsSettled, recorded_talk}
use Rattle.pf_session_turns.specs.Sitters.{answers}
use Rattle.pf_stream.specs.Dialogue.Answered.{AnswersAhead, AnswersAll, AnswersLines, AnswersTo, SomeAnswered, Stops}
use Rattle.pf_stream.specs.Dialogue.Sits.{LastRound}
use Rattle.pf_stream.specs.declared.dialogue.answers.Going.{Going}
use Rattle.pf_stream.specs.declared.dialogue.answers.Going.TheVariants.{On, Ends}
use Rattle.pf_stream.specs.declared.dialogue.fault.SitFault.{SitFault}
use Rattle.pf_stream.specs.declared.dialogue.fault.SitFault.TheVariants.{Deaf, Mute, NoMemory, Unkept}
use Rattle.pf_session_turns.specs.Turns.{GoesOn, Saves, heard_of}
use Rattle.pf_session.specs.Session.{SessionState}
use Rattle.pf_session_laws.specs.Resumed.{anything, HasRecords, IsBehind, IsSession}
use Rattle.pf_session_laws.specs.Crashed.{CrashesLeaveTold, IsKept, IsLeft, ToldAreKept}
use Rattle.pf_session_laws.proofs.Files.{body, records_are, scripted_again, whole_all}
use Rattle.pf_session_laws.proofs.Lists.{Parts, map_both, parts}
use Rattle.pf_session_laws.proofs.Reading.{AreRead, lines_text}
use Rattle.pf_session_laws.proofs.Scripted.{IsScripted, answer_next, session_scripted}

-- texts
text_both : (a b : List (List (List ℕ))) → lines_text false (a ++ b) ≡ lines_text false a ++ lines_text false b
text_both [] b = refl
text_both (r ∷ a) b =
    ap (λ (t : List ℕ). line_of r ++ t) (text_both a b) ∙ sym (append_assoc (line_of r) (lines_text false a) (lines_text false b))

read_right : (a b : List (List (List ℕ))) → AreRead (a ++ b) → AreRead b
read_right [] b read = read
read_right (r ∷ a) b read = read_right a b read.1

-- lines after lines
all_both : (shows : Showings) (lines more : List (List ℕ)) (a : SessionState) (text rest : List ℕ) (m b : SessionState) → AnswersAll (answers shows) a lines text m → AnswersAll (answers shows) m more rest b
    → AnswersAll (answers shows) a (lines ++ more) (text ++ rest) b
all_both shows [] more a text rest m b f g =
    subst (λ (t : List ℕ). AnswersAll (answers shows) a more (t ++ rest) b) (sym f.0) (subst (λ (q : SessionState). AnswersAll (answers shows) q more rest b) f.1 g)
all_both shows (line ∷ lines) more a text rest m b f g =
    (f.0, f.1 ++ rest, f.2, f.3, all_both shows lines more f.2 f.1 rest m b f.4 g, ap (λ (t : List ℕ). t ++ rest) f.5 ∙ append_assoc f.0 f.1 rest)

behind_none : (shows : Showings) (s t : SessionState) → t ≡ s → IsBehind shows s t
behind_none shows s t e = record { lines = []; text = []; answered = (refl, e) }

behind_one : (shows : Showings) (s : SessionState) (line text : List ℕ) (t : SessionState) → answers shows s line text On t → IsBehind shows s t
behind_one shows s line text t h = record { lines = line ∷ []; text = text; answered = (text, [], t, h, (refl, refl), sym (append-nil text)) }

behind_both : (shows : Showings) (a m b : SessionState) → IsBehind shows a m → IsBehind shows m b → IsBehind shows a b
behind_both shows a m b f g = record {
  lines = f.lines ++ g.lines;
  text = f.text ++ g.text;
  answered = all_both shows f.lines g.lines a f.text g.text m b f.answered g.answered;
}

-- only `quit` ends a session, and changes nothing
not_on : {P : Type 0} → Ends ≡ On → P
not_on e = cc

saves_end : {S : Type 0} (saves : S → List ℕ → List ℕ → Bool → S → Type 0) (s : SessionState) (v : S) (file : List ℕ) (made : Showing) (a : List ℕ)
    (t : SessionState) (w : S) → Saves saves s v file made Ends a t w → t ≡ s
saves_end saves s v file (showing.Bad words) a t w h = not_on h.0
saves_end saves s v file (showing.Text text) a t w h = not_on h.2

goes_end : (shows : Showings) {S : Type 0} (saves : S → List ℕ → List ℕ → Bool → S → Type 0) (s : SessionState) (v : S) (heard : Heard) (a : List ℕ)
    (t : SessionState) (w : S) → GoesOn shows saves s v heard Ends a t w → t ≡ s
goes_end shows saves s v Nothing a t w h = not_on h.0
goes_end shows saves s v Heading a t w h = not_on h.0
goes_end shows saves s v (Record said line) a t w h = not_on h.0
goes_end shows saves s v (Shown wanted) a t w h = not_on h.2.0
goes_end shows saves s v (Reverse reversal) a t w h = not_on h.0
goes_end shows saves s v (Save file) a t w h = saves_end saves s v file h.0 a t w h.2
goes_end shows saves s v Help a t w h = not_on h.0
goes_end shows saves s v Quit a t w h = h.2
goes_end shows saves s v (Bad field text hint) a t w h = not_on h.0

answer_ends : (shows : Showings) (s : SessionState) (line text : List ℕ) (t : SessionState) → answers shows s line text Ends t → t ≡ s
answer_ends shows s line text t (inl h) = goes_end shows (λ v file bytes is_saved w. Unit {0}) s tt (heard_of s line) text t tt h
answer_ends shows s line text t (inr h) = not_on h.0

behind_answer : (shows : Showings) (s : SessionState) (line text : List ℕ) (going : Going) (t : SessionState) → answers shows s line text going t → IsBehind shows s t
behind_answer shows s line text On t h = behind_one shows s line text t h
behind_answer shows s line text Ends t h = behind_none shows s t (answer_ends shows s line text t h)

-- what was answered, whatever was shown
goes_anyhow : (shows : Showings) {S : Type 0} (saves : S → List ℕ → List ℕ → Bool → S → Type 0) (s : SessionState) (v : S) (heard : Heard) (g : Going)
    (a : List ℕ) (t : SessionState) (w : S) → GoesOn shows saves s v heard g a t w → GoesOn anything saves s v heard g a t w
goes_anyhow shows saves s v Nothing g a t w h = h
goes_anyhow shows saves s v Heading g a t w h = h
goes_anyhow shows saves s v (Record said line) g a t w h = h
goes_anyhow shows saves s v (Shown wanted) g a t w h = (h.0, tt, h.2)
goes_anyhow shows saves s v (Reverse reversal) g a t w h = h
goes_anyhow shows saves s v (Save file) g a t w h = (h.0, tt, h.2)
goes_anyhow shows saves s v Help g a t w h = h
goes_anyhow shows saves s v Quit g a t w h = h
goes_anyhow shows saves s v (Bad field text hint) g a t w h = h

answers_anyhow : (shows : Showings) (s : SessionState) (line text : List ℕ) (going : Going) (t : SessionState) → answers shows s line text going t
    → answers anything s line text going t
answers_anyhow shows s line text going t (inl h) =
    inl (goes_anyhow shows (λ v file bytes is_saved w. Unit {0}) s tt (heard_of s line) going text t tt h)
answers_anyhow shows s line text going t (inr h) = inr h

all_anyhow : (shows : Showings) (lines : List (List ℕ)) (s : SessionState) (text : List ℕ) (t : SessionState) → AnswersAll (answers shows) s lines text t
    → AnswersAll (answers anything) s lines text t
all_anyhow shows [] s text t h = h
all_anyhow shows (line ∷ lines) s text t h =
    (h.0, h.1, h.2, answers_anyhow shows s line h.0 On h.2 h.3, all_anyhow shows lines h.2 h.1 t h.4, h.5)

session_behind : (shows : Showings) (s t : SessionState) → IsSession s → IsBehind shows s t → IsSession t
session_behind shows s t is h = record {
  first = is.first;
  begun = is.begun;
  behind = behind_both anything is.first s t is.behind (record { lines = h.lines; text = h.text; answered = all_anyhow shows h.lines s h.text t h.answered });
}

-- a session after some front of these records
record HasFront (shows : Showings) (a : SessionState) (is : IsScripted a) (front : List (List ℕ)) : Type 0 where
  pub session : SessionState
  pub behind : IsBehind shows a session
  pub scripted : IsScripted session
  pub rows : map body scripted.rows ≡ map body is.rows ++ front

-- lines were answered one after the other, and wait
record Went (shows : Showings) {D : Type 0} (r : Recording SessionState D) (is : IsScripted r.machine) (t : Recording SessionState D) : Type 0 where
  pub behind : IsBehind shows r.machine t.machine
  pub scripted : IsScripted t.machine
  pub new : List (List (List ℕ))
  pub rows_are : scripted.rows ≡ is.rows ++ new
  pub waiting_is : t.waiting ≡ r.waiting ++ lines_text false new
  pub file_is : t.file ≡ r.file
  pub lost_is : t.lost ≡ r.lost
  pub fronts : (front rest : List (List ℕ)) → map body new ≡ front ++ rest → HasFront shows r.machine is front

front_none : (shows : Showings) (a : SessionState) (is : IsScripted a) → HasFront shows a is []
front_none shows a is = record { session = a; behind = behind_none shows a a refl; scripted = is; rows = sym (append-nil (map body is.rows)) }

fronts_none : (shows : Showings) (a : SessionState) (is : IsScripted a) (front rest : List (List ℕ)) → [] ≡ front ++ rest → HasFront shows a is front
fronts_none shows a is [] rest e = front_none shows a is
fronts_none shows a is (x ∷ front) rest e = cc

fronts_one : (shows : Showings) (a b : SessionState) (is : IsScripted a) (more : IsScripted b) (fields : List (List ℕ)) → IsBehind shows a b → more.rows ≡ is.rows ++ fields ∷ []
    → (front rest : List (List ℕ)) → body fields ∷ [] ≡ front ++ rest → HasFront shows a is front
fronts_one shows a b is more fields behind rows [] rest e = front_none shows a is
fronts_one shows a b is more fields behind rows (x ∷ y ∷ front) rest e = cc
fronts_one shows a b is more fields behind rows (x ∷ []) rest e =
    let same : body fields ≡ x = cc in
    record {
      session = b;
      behind = behind;
      scripted = more;
      rows = ap (map body) rows ∙ map_both body is.rows (fields ∷ []) ∙ ap (λ (l : List ℕ). map body is.rows ++ l ∷ []) same;
    }

-- what waits behind one answer
waits : (a b : SessionState) (is : IsScripted a) (next : IsScripted b) (new : List (List (List ℕ))) (more : List ℕ) → next.rows ≡ is.rows ++ new
    → b.script ≡ a.script ++ more → more ≡ lines_text false new
waits a b is next new more rows script =
    append_cancel_left a.script more (lines_text false new)
    (sym script ∙ next.script_is ∙ ap (λ (rs : List (List (List ℕ))). codes "plan,1\n" ++ lines_text false rs) rows
    ∙ ap (λ (t : List ℕ). codes "plan,1\n" ++ t) (text_both is.rows new)
    ∙ sym (append_assoc (codes "plan,1\n") (lines_text false is.rows) (lines_text false new))
    ∙ ap (λ (t : List ℕ). t ++ lines_text false new) (sym is.script_is))

went_one : (shows : Showings) {D : Type 0} (r : Recording SessionState D) (is : IsScripted r.machine) (line text : List ℕ) (going : Going) (t : Recording SessionState D)
    → Answers (answers shows) (λ s. s.script) r line text going t → Went shows r is t
went_one shows r is line text going t h =
    let next = answer_next r.machine is line text going t.machine anyhow in by next.0 next.1
  where
    anyhow : answers anything r.machine line text going t.machine
    anyhow = answers_anyhow shows r.machine line text going t.machine h.answered

    behind : IsBehind shows r.machine t.machine
    behind = behind_answer shows r.machine line text going t.machine h.answered

    by : (more : IsScripted t.machine) → (more.rows ≡ is.rows) ⊎ ((fields : List (List ℕ)) × (more.rows ≡ is.rows ++ fields ∷ [])) → Went shows r is t
    by more (inl same) =
        let rows : more.rows ≡ is.rows ++ [] = same ∙ sym (append-nil is.rows) in
        record {
          behind = behind;
          scripted = more;
          new = [];
          rows_are = rows;
          waiting_is = h.waiting_is ∙ ap (λ (l : List ℕ). r.waiting ++ l) (waits r.machine t.machine is more [] h.more rows h.script_is);
          file_is = h.file_is;
          lost_is = h.lost_is;
          fronts = fronts_none shows r.machine is;
        }
    by more (inr one) = record {
      behind = behind;
      scripted = more;
      new = one.0 ∷ [];
      rows_are = one.1;
      waiting_is = h.waiting_is ∙ ap (λ (l : List ℕ). r.waiting ++ l) (waits r.machine t.machine is more (one.0 ∷ []) h.more one.1 h.script_is);
      file_is = h.file_is;
      lost_is = h.lost_is;
      fronts = fronts_one shows r.machine t.machine is more one.0 behind one.1;
    }

went_none : (shows : Showings) {D : Type 0} (r : Recording SessionState D) (is : IsScripted r.machine) → Went shows r is r
went_none shows r is = record {
  behind = behind_none shows r.machine r.machine refl;
  scripted = is;
  new = [];
  rows_are = sym (append-nil is.rows);
  waiting_is = sym (append-nil r.waiting);
  file_is = refl;
  lost_is = refl;
  fronts = fronts_none shows r.machine is;
}

fronts_both : (shows : Showings) {D : Type 0} (r m : Recording SessionState D) (is : IsScripted r.machine) (f : Went shows r is m) (t : Recording SessionState D) (g : Went shows m f.scripted t)
    (front rest : List (List ℕ)) → map body (f.new ++ g.new) ≡ front ++ rest → HasFront shows r.machine is front
fronts_both shows r m is f t g front rest e = by (parts (map body f.new) (map body g.new) front rest (sym (map_both body f.new g.new) ∙ e))
  where
    by : Parts (map body f.new) (map body g.new) front rest → HasFront shows r.machine is front
    by (inl p) = f.fronts front p.0 p.1
    by (inr p) =
        let u = g.fronts p.0 rest p.2 in
        record {
          session = u.session;
          behind = behind_both shows r.machine m.machine u.session f.behind u.behind;
          scripted = u.scripted;
          rows = u.rows ∙ ap (λ (rs : List (List (List ℕ))). map body rs ++ p.0) f.rows_are ∙ ap (λ (l : List (List ℕ)). l ++ p.0) (map_both body is.rows f.new)
              ∙ append_assoc (map body is.rows) (map body f.new) p.0 ∙ ap (λ (l : List (List ℕ)). map body is.rows ++ l) (sym p.1);
        }

went_both : (shows : Showings) {D : Type 0} (r m : Recording SessionState D) (is : IsScripted r.machine) (f : Went shows r is m) (t : Recording SessionState D) → Went shows m f.scripted t → Went shows r is t
went_both shows r m is f t g = record {
  behind = behind_both shows r.machine m.machine t.machine f.behind g.behind;
  scripted = g.scripted;
  new = f.new ++ g.new;
  rows_are = g.rows_are ∙ ap (λ (rs : List (List (List ℕ))). rs ++ g.new) f.rows_are ∙ append_assoc is.rows f.new g.new;
  waiting_is = g.waiting_is ∙ ap (λ (l : List ℕ). l ++ lines_text false g.new) f.waiting_is ∙ append_assoc r.waiting (lines_text false f.new) (lines_text false g.new)
      ∙ ap (λ (l : List ℕ). r.waiting ++ l) (sym (text_both f.new g.new));
  file_is = g.file_is ∙ f.file_is;
  lost_is = g.lost_is ∙ f.lost_is;
  fronts = fronts_both shows r m is f t g;
}

went_all : (shows : Showings) {D : Type 0} (lines : List (List ℕ)) (r : Recording SessionState D) (is : IsScripted r.machine) (text : List ℕ) (t : Recording SessionState D)
    → AnswersAll (λ r line text going t. Answers (answers shows) (λ s. s.script) r line text going t) r lines text t → Went shows r is t
went_all shows [] r is text t h = subst (λ (q : Recording SessionState _). Went shows r is q) (sym h.1) (went_none shows r is)
went_all shows (line ∷ lines) r is text t h =
    let f = went_one shows r is line h.0 On h.2 h.3 in
    went_both shows r h.2 is f t (went_all shows lines h.2 f.scripted h.1 t h.4)

went_to : (shows : Showings) {D : Type 0} (lines : List (List ℕ)) (r : Recording SessionState D) (is : IsScripted r.machine) (text : List ℕ) (going : Going) (t : Recording SessionState D)
    → AnswersTo (λ r line text going t. Answers (answers shows) (λ s. s.script) r line text going t) r lines text going t → Went shows r is t
went_to shows lines r is text going t h =
    let f = went_all shows h.done r is h.front h.mid h.answered in
    went_both shows r h.mid is f t (went_one shows h.mid f.scripted h.last h.answer going t h.ended)

went_ahead : (shows : Showings) {D : Type 0} (ahead : List ℕ) (r : Recording SessionState D) (is : IsScripted r.machine) (text : List ℕ) (t : Recording SessionState D) (left : List ℕ)
    → AnswersAhead (λ r line text going t. Answers (answers shows) (λ s. s.script) r line text going t) r ahead text On t left → Went shows r is t
went_ahead shows ahead r is text t left (inl h) = went_all shows _ r is text t h.answered
went_ahead shows ahead r is text t left (inr h) = went_to shows _ r is text On t h.to

went_lines : (shows : Showings) {D : Type 0} (lines : List (List ℕ)) (r : Recording SessionState D) (is : IsScripted r.machine) (text : List ℕ) (going : Going) (t : Recording SessionState D)
    → AnswersLines (λ r line text going t. Answers (answers shows) (λ s. s.script) r line text going t) r lines text going t → Went shows r is t
went_lines shows lines r is text On t h = went_all shows lines r is text t h
went_lines shows lines r is text Ends t h = went_to shows lines r is text Ends t h

-- lines were answered, all of them maybe; of who answers nothing more is said
record Held (shows : Showings) {D : Type 0} (r : Recording SessionState D) (is : IsScripted r.machine) (t : Recording SessionState D) : Type 0 where
  pub mid : Recording SessionState D
  pub went : Went shows r is mid
  pub waiting_is : t.waiting ≡ mid.waiting
  pub file_is : t.file ≡ mid.file
  pub lost_is : t.lost ≡ mid.lost

held : (shows : Showings) {D : Type 0} (r : Recording SessionState D) (is : IsScripted r.machine) (t : Recording SessionState D) → Went shows r is t → Held shows r is t
held shows r is t w = record { mid = t; went = w; waiting_is = refl; file_is = refl; lost_is = refl }

held_stopped : (shows : Showings) {D : Type 0} (r : Recording SessionState D) (is : IsScripted r.machine) (m t : Recording SessionState D) → Went shows r is m
    → Stops (λ r t. StopsHere r t) m t → Held shows r is t
held_stopped shows r is m t w (inl e) =
    record { mid = m; went = w; waiting_is = ap (λ q. q.waiting) e; file_is = ap (λ q. q.file) e; lost_is = ap (λ q. q.lost) e }
held_stopped shows r is m t w (inr s) = record { mid = m; went = w; waiting_is = s.waiting_is; file_is = s.file_is; lost_is = s.lost_is }

held_some : (shows : Showings) {D : Type 0} (lines : List (List ℕ)) (r : Recording SessionState D) (is : IsScripted r.machine) (text : List ℕ) (t : Recording SessionState D)
    → SomeAnswered (λ r line text going t. Answers (answers shows) (λ s. s.script) r line text going t) (λ r t. StopsHere r t) r lines text t → Held shows r is t
held_some shows lines r is text t (inl h) = held_stopped shows r is h.behind t (went_all shows h.done r is text h.behind h.answered) h.stopped
held_some shows lines r is text t (inr h) = held shows r is t (went_to shows lines r is text h.0 t h.1)

-- what the file has
module _ {D : Type 0} (seen : D → List ℕ) (may_leave : D → List ℕ → Type 0) (is_clean is_mixing : D → Bool) where
  records_new : (shows : Showings) (r : Recording SessionState D) (is : IsScripted r.machine) (t : Recording SessionState D) (h : Held shows r is t) → HasRecords (seen r.file) r.machine
      → IsSettled seen may_leave is_clean r → (records_of (seen t.file) ≡ map body is.rows) × (whole_lines t.waiting ≡ map body h.went.new)
  records_new shows r is t h has at = (
    ap (λ (f : D). records_of (seen f)) (h.file_is ∙ h.went.file_is) ∙ has ∙ records_are r.machine is,
    ap whole_lines (h.waiting_is ∙ h.went.waiting_is ∙ ap (λ (l : List ℕ). l ++ lines_text false h.went.new) at.waiting_is)
        ∙ whole_all h.went.new (read_right is.rows h.went.new (subst AreRead h.went.rows_are h.went.scripted.read)),
  )

  clean_still : (shows : Showings) (r : Recording SessionState D) (is : IsScripted r.machine) (t : Recording SessionState D) → Held shows r is t → IsSettled seen may_leave is_clean r → IsTrue (is_clean t.file)
  clean_still shows r is t h at = ap is_clean (h.file_is ∙ h.went.file_is) ∙ at.clean

  -- what waited was put
  kept_records : (shows : Showings) (r : Recording SessionState D) (is : IsScripted r.machine) (m t : Recording SessionState D) (h : Held shows r is m) → HasRecords (seen r.file) r.machine
      → IsSettled seen may_leave is_clean r → Keeps seen may_leave is_clean m t → HasRecords (seen t.file) h.mid.machine
  kept_records shows r is m t h has at k =
      let two = records_new shows r is m h has at in
      k.records_are (clean_still shows r is m h at) ∙ ap₂ (λ (a : List (List ℕ)) (b : List (List ℕ)). a ++ b) two.0 two.1
      ∙ sym (map_both body is.rows h.went.new) ∙ ap (map body) (sym h.went.rows_are) ∙ sym (records_are h.mid.machine h.went.scripted)

  kept_settled : (shows : Showings) (r : Recording SessionState D) (is : IsScripted r.machine) (m t : Recording SessionState D) → Held shows r is m
      → IsSettled seen may_leave is_clean r → Keeps seen may_leave is_clean m t → IsSettled seen may_leave is_clean t
  kept_settled shows r is m t h at k =
      let clean : IsTrue (is_clean t.file) = k.calm ∙ clean_still shows r is m h at in
      record { waiting_is = k.waiting_is; clean = clean; durable = k.durable clean; opens = k.opens clean }

  -- a file that has the records of a session
  left : (shows : Showings) (told : SessionState) (s : SessionState) (file : List ℕ) → IsSession told → IsBehind shows told s → HasRecords file s
      → (IsMixing is_mixing → IsOpenable file) → IsLeft shows is_mixing told file
  left shows told s file is behind has opens = record {
    session = s;
    is = session_behind shows told s is behind;
    behind = behind;
    records = has;
    opens = opens;
    again = λ manner known. scripted_again manner s file (session_scripted s (session_behind shows told s is behind)) has known;
  }

  left_kept : (shows : Showings) (r m t : Recording SessionState D) (session : IsSession r.machine) → Held shows r (session_scripted r.machine session) m → HasRecords (seen r.file) r.machine
      → IsSettled seen may_leave is_clean r → Keeps seen may_leave is_clean m t → (file : List ℕ) → may_leave t.file file → IsLeft shows is_mixing r.machine file
  left_kept shows r m t session h has at k file leaves =
      let is = session_scripted r.machine session in
      let same : file ≡ seen t.file = (kept_settled shows r is m t h at k).durable file leaves in
      left shows r.machine h.mid.machine file session h.went.behind (ap records_of same ∙ kept_records shows r is m t h has at k)
      (λ mixing. subst IsOpenable (sym same) (kept_settled shows r is m t h at k).opens)

  left_same : (shows : Showings) (r t : Recording SessionState D) → t ≡ r → IsKept seen may_leave is_clean r → (file : List ℕ) → may_leave t.file file → IsLeft shows is_mixing r.machine file
  left_same shows r t e kept file leaves =
      let same : file ≡ seen r.file = kept.settled.durable file (subst (λ (q : Recording SessionState D). may_leave q.file file) e leaves) in
      left shows r.machine r.machine file kept.session (behind_none shows r.machine r.machine refl) (ap records_of same ∙ kept.records)
      (λ mixing. subst IsOpenable (sym same) kept.settled.opens)

  -- not all of it was put
  left_lost : (shows : Showings) (r m t : Recording SessionState D) (kept : IsKept seen may_leave is_clean r) → Held shows r (session_scripted r.machine kept.session) m
      → Loses seen may_leave is_clean is_mixing m t → (file : List ℕ) → may_leave t.file file → IsLeft shows is_mixing r.machine file
  left_lost shows r m t kept h l file leaves = by m.lost refl
    where
      is : IsScripted r.machine
      is = session_scripted r.machine kept.session

      some : IsWithFront (records_of (seen m.file)) (whole_lines m.waiting) file → (IsMixing is_mixing → IsOpenable file) → IsLeft shows is_mixing r.machine file
      some w opens =
          let two = records_new shows r is m h kept.records kept.settled in
          let u = h.went.fronts w.0 w.1 (sym two.1 ∙ w.2) in
          left shows r.machine u.session file kept.session u.behind
          (w.3 ∙ ap (λ (a : List (List ℕ)). a ++ w.0) two.0 ∙ sym u.rows ∙ sym (records_are u.session u.scripted))
          opens

      by : (why : Option JournalError) → m.lost ≡ why → IsLeft shows is_mixing r.machine file
      by None was =
          let clean = clean_still shows r is m h kept.settled in
          some (l.front was clean file leaves) (λ mixing. l.opens was clean mixing file leaves)
      by (Some why) was =
          let file_is : t.file ≡ r.file = (l.same (ap (λ (o : Option JournalError). is_some o) was)).0 ∙ h.file_is ∙ h.went.file_is in
          let same : file ≡ seen r.file = kept.settled.durable file (subst (λ (f : D). may_leave f file) file_is leaves) in
          left shows r.machine r.machine file kept.session (behind_none shows r.machine r.machine refl) (ap records_of same ∙ kept.records)
          (λ mixing. subst IsOpenable (sym same) kept.settled.opens)

  -- a round that was kept
  round_kept : (shows : Showings) (r m t : Recording SessionState D) (kept : IsKept seen may_leave is_clean r) → Went shows r (session_scripted r.machine kept.session) m
      → Keeps seen may_leave is_clean m t → IsKept seen may_leave is_clean t × IsBehind shows r.machine t.machine
  unfolding held
  round_kept shows r m t kept w k =
      let is = session_scripted r.machine kept.session in
      let h = held shows r is m w in
      let behind : IsBehind shows r.machine t.machine = subst (λ (s : SessionState). IsBehind shows r.machine s) (sym k.machine_is) w.behind in (
        record {
          session = session_behind shows r.machine t.machine kept.session behind;
          records = subst (λ (s : SessionState). HasRecords (seen t.file) s) (sym k.machine_is) (kept_records shows r is m t h kept.records kept.settled k);
          settled = kept_settled shows r is m t h kept.settled k;
        },
        behind,
      )

  -- Use: rounds.
  pub told_kept : (shows : Showings) {T : Type 0} (hears : T → List ℕ → T → Type 0) (is_deaf : T → T → Type 0) (tells is_mute : T → List ℕ → T → Type 0)
      → ToldAreKept shows seen may_leave is_clean is_mixing hears is_deaf tells is_mute
  told_kept shows hears is_deaf tells is_mute [] r d line t e rest h kept = (
    subst (λ (q : Recording SessionState D). IsKept seen may_leave is_clean q) (sym h.0) kept,
    behind_none shows r.machine t.machine (ap (λ q. q.machine) h.0),
  )
  told_kept shows hears is_deaf tells is_mute (round ∷ rounds) r d line t e rest h kept =
      let is = session_scripted r.machine kept.session in
      let first = round_kept shows r h.2.answered h.0 kept (went_ahead shows _ r is round.text h.2.answered round.left h.2.answers) h.2.keeps in
      let more = told_kept shows hears is_deaf tells is_mute rounds h.0 h.1 _ t e rest h.3 first.0 in
      (more.0, behind_both shows r.machine h.0.machine t.machine first.1 more.1)

  last_left : (shows : Showings) {T : Type 0} (hears : T → List ℕ → T → Type 0) (is_deaf : T → T → Type 0) (tells is_mute : T → List ℕ → T → Type 0)
      (ending : Result Going SitFault) (r : Recording SessionState D) (d : T) (line : List ℕ) (t : Recording SessionState D) (e : T)
      → IsKept seen may_leave is_clean r
      → LastRound (recorded_talk (answers shows) (λ s. s.script) seen may_leave is_clean is_mixing hears is_deaf tells is_mute) r d line ending t e
      → (file : List ℕ) → may_leave t.file file → IsLeft shows is_mixing r.machine file
  last_left shows hears is_deaf tells is_mute (Ok going) r d line t e kept h file leaves =
      let is = session_scripted r.machine kept.session in
      left_kept shows r h.answered t kept.session (held shows r is h.answered (went_lines shows _ r is h.text going h.answered h.answers)) kept.records kept.settled h.keeps file leaves
  last_left shows hears is_deaf tells is_mute (Err Deaf) r d line t e kept h file leaves = left_same shows r t h.0 kept file leaves
  last_left shows hears is_deaf tells is_mute (Err Mute) r d line t e kept h file leaves =
      let is = session_scripted r.machine kept.session in
      left_kept shows r h.answered t kept.session (held_some shows _ r is h.text h.answered h.answers) kept.records kept.settled h.went.0 file leaves
  last_left shows hears is_deaf tells is_mute (Err Unkept) r d line t e kept h file leaves =
      let is = session_scripted r.machine kept.session in
      left_lost shows r h.answered t kept (held_some shows _ r is h.text h.answered h.answers) h.went.0 file leaves
  last_left shows hears is_deaf tells is_mute (Err NoMemory) r d line t e kept (inl h) file leaves =
      let is = session_scripted r.machine kept.session in
      left_kept shows r h.answered t kept.session (held_some shows _ r is h.text h.answered h.answers) kept.records kept.settled h.went.0 file leaves
  last_left shows hears is_deaf tells is_mute (Err NoMemory) r d line t e kept (inr h) file leaves = left_same shows r t h.0 kept file leaves

  -- Use: a whole sitting.
  pub crash_leaves : (shows : Showings) {T : Type 0} (hears : T → List ℕ → T → Type 0) (is_deaf : T → T → Type 0) (tells is_mute : T → List ℕ → T → Type 0)
      → CrashesLeaveTold shows seen may_leave is_clean is_mixing hears is_deaf tells is_mute
  crash_leaves shows hears is_deaf tells is_mute r d ending t e sat kept file leaves =
      let told = told_kept shows hears is_deaf tells is_mute sat.rounds r d [] sat.behind sat.told sat.rest sat.sits kept in
      last_left shows hears is_deaf tells is_mute ending sat.behind sat.told sat.rest t e told.0 sat.last file leaves
