-- What a sitting leaves in the file of its answers.
use Rattle.std.proofs.Common.{◌≡◌, inl, inr, ℕ, Bool, true, false, IsTrue, ◌==◌, if◌then◌else◌, List, [], ◌∷◌, ◌++◌, refl, sym, ◌∙◌, ap, subst, append_assoc}
use Rattle.std.proofs.lemmas.List.{append-nil}
use Rattle.pf_journal.specs.Lines.{records_of}
use Rattle.pf_journal.specs.Texts.{whole_behind, whole_lines}
use Rattle.pf_journal.specs.Recorder.Recording.{Answers, Keeps, Recording}
use Rattle.pf_journal.specs.Recorder.Told.{FilesHaveAll, FilesHaveTold, HasLines, IsSettled}
use Rattle.pf_stream.specs.Dialogue.Answered.{AnswersAhead, AnswersAll, AnswersLines, AnswersTo}
use Rattle.pf_stream.specs.Dialogue.Scripts.{IsOfLines}
use Rattle.pf_stream.specs.declared.dialogue.answers.Going.{Going}
use Rattle.pf_stream.specs.declared.dialogue.answers.Going.TheVariants.{On, Ends}

-- lines after lines
lines_append : (a b : List ℕ) → IsOfLines a → IsOfLines b → IsOfLines (a ++ b)
lines_append a b is (inl none) = subst IsOfLines (sym (ap (λ (t : List ℕ). a ++ t) none ∙ append-nil a)) is
lines_append a b is (inr end) = inr (a ++ end.0, ap (λ (t : List ℕ). a ++ t) end.1 ∙ sym (append_assoc a end.0 (10 ∷ [])))

either_append : (ends : Bool) (line : List ℕ) (a1 a2 b1 b2 w : List (List ℕ)) → a1 ≡ a2 ++ w → b1 ≡ b2 ++ w
    → (if ends then line ∷ a1 else b1) ≡ (if ends then line ∷ a2 else b2) ++ w
either_append true line a1 a2 b1 b2 w a b = ap (λ (l : List (List ℕ)). line ∷ l) a
either_append false line a1 a2 b1 b2 w a b = b

whole_ended : (line front more : List ℕ) → whole_behind line ((front ++ 10 ∷ []) ++ more) ≡ whole_behind line (front ++ 10 ∷ []) ++ whole_lines more
whole_ended line [] more = refl
whole_ended line (byte ∷ front) more =
    either_append (byte == 10) line _ _ _ _ (whole_lines more) (whole_ended [] front more) (whole_ended (line ++ byte ∷ []) front more)

whole_append : (a b : List ℕ) → IsOfLines a → whole_lines (a ++ b) ≡ whole_lines a ++ whole_lines b
whole_append a b (inl none) =
    ap (λ (t : List ℕ). whole_lines (t ++ b)) none ∙ sym (ap (λ (t : List ℕ). whole_lines t ++ whole_lines b) none)
whole_append a b (inr end) =
    ap (λ (t : List ℕ). whole_lines (t ++ b)) end.1 ∙ whole_ended [] end.0 b
    ∙ sym (ap (λ (t : List ℕ). whole_lines t ++ whole_lines b) end.1)

-- the lines that wait after some answers
record IsLonger {S D : Type 0} (script : S → List ℕ) (r t : Recording S D) : Type 0 where
  more : List ℕ
  lines : IsOfLines more
  script_is : script t.machine ≡ script r.machine ++ more
  waiting_is : t.waiting ≡ r.waiting ++ more
  file_is : t.file ≡ r.file

answered_one : {S D : Type 0} (answers : S → List ℕ → List ℕ → Going → S → Type 0) (script : S → List ℕ) (r : Recording S D) (line text : List ℕ)
    (going : Going) (t : Recording S D) → Answers answers script r line text going t → IsLonger script r t
answered_one answers script r line text going t h = record {
  more = h.more;
  lines = h.lines;
  script_is = h.script_is;
  waiting_is = h.waiting_is;
  file_is = h.file_is;
}

answered_none : {S D : Type 0} (script : S → List ℕ) (r t : Recording S D) → t ≡ r → IsLonger script r t
answered_none script r t is = record {
  more = [];
  lines = inl refl;
  script_is = ap (λ q. script q.machine) is ∙ sym (append-nil (script r.machine));
  waiting_is = ap (λ q. q.waiting) is ∙ sym (append-nil r.waiting);
  file_is = ap (λ q. q.file) is;
}

answered_both : {S D : Type 0} (script : S → List ℕ) (r m t : Recording S D) → IsLonger script r m → IsLonger script m t → IsLonger script r t
answered_both script r m t f g = record {
  more = f.more ++ g.more;
  lines = lines_append f.more g.more f.lines g.lines;
  script_is = g.script_is ∙ ap (λ (l : List ℕ). l ++ g.more) f.script_is ∙ append_assoc (script r.machine) f.more g.more;
  waiting_is = g.waiting_is ∙ ap (λ (l : List ℕ). l ++ g.more) f.waiting_is ∙ append_assoc r.waiting f.more g.more;
  file_is = g.file_is ∙ f.file_is;
}

answered_all : {S D : Type 0} (answers : S → List ℕ → List ℕ → Going → S → Type 0) (script : S → List ℕ) (lines : List (List ℕ)) (r : Recording S D)
    (text : List ℕ) (t : Recording S D) → AnswersAll (λ r line text going t. Answers answers script r line text going t) r lines text t → IsLonger script r t
answered_all answers script [] r text t h = answered_none script r t h.1
answered_all answers script (line ∷ lines) r text t h =
    answered_both script r h.2 t (answered_one answers script r line h.0 On h.2 h.3) (answered_all answers script lines h.2 h.1 t h.4)

answered_to : {S D : Type 0} (answers : S → List ℕ → List ℕ → Going → S → Type 0) (script : S → List ℕ) (lines : List (List ℕ)) (r : Recording S D)
    (text : List ℕ) (going : Going) (t : Recording S D)
    → AnswersTo (λ r line text going t. Answers answers script r line text going t) r lines text going t → IsLonger script r t
answered_to answers script lines r text going t h =
    answered_both script r h.mid t (answered_all answers script h.done r h.front h.mid h.answered)
    (answered_one answers script h.mid h.last h.answer going t h.ended)

answered_ahead : {S D : Type 0} (answers : S → List ℕ → List ℕ → Going → S → Type 0) (script : S → List ℕ) (ahead : List ℕ) (r : Recording S D)
    (text : List ℕ) (t : Recording S D) (left : List ℕ)
    → AnswersAhead (λ r line text going t. Answers answers script r line text going t) r ahead text On t left → IsLonger script r t
answered_ahead answers script ahead r text t left (inl h) = answered_all answers script _ r text t h.answered
answered_ahead answers script ahead r text t left (inr h) = answered_to answers script _ r text On t h.to

answered_lines : {S D : Type 0} (answers : S → List ℕ → List ℕ → Going → S → Type 0) (script : S → List ℕ) (lines : List (List ℕ)) (r : Recording S D)
    (text : List ℕ) (going : Going) (t : Recording S D)
    → AnswersLines (λ r line text going t. Answers answers script r line text going t) r lines text going t → IsLonger script r t
answered_lines answers script lines r text On t h = answered_all answers script lines r text t h
answered_lines answers script lines r text Ends t h = answered_to answers script lines r text Ends t h

-- what waited after some answers was put
kept_behind : {S D : Type 0} (script : S → List ℕ) (seen : D → List ℕ) (may_leave : D → List ℕ → Type 0) (is_clean : D → Bool)
    (r m t : Recording S D) → IsSettled seen may_leave is_clean r → IsLonger script r m → Keeps seen may_leave is_clean m t
    → HasLines script seen may_leave is_clean r t
kept_behind script seen may_leave is_clean r m t at h k =
    let clean : IsTrue (is_clean m.file) = ap is_clean h.file_is ∙ at.clean in
    let waits : m.waiting ≡ h.more = h.waiting_is ∙ ap (λ (l : List ℕ). l ++ h.more) at.waiting_is in
    record {
      more = h.more;
      lines = h.lines;
      script_is = ap script k.machine_is ∙ h.script_is;
      records_are = k.records_are clean ∙ ap (λ (f : _). records_of (seen f) ++ whole_lines m.waiting) h.file_is
          ∙ ap (λ (l : List ℕ). records_of (seen r.file) ++ whole_lines l) waits;
      settled = record {
        waiting_is = k.waiting_is;
        clean = k.calm ∙ clean;
        durable = k.durable (k.calm ∙ clean);
        opens = k.opens (k.calm ∙ clean);
      };
    }

has_none : {S D : Type 0} (script : S → List ℕ) (seen : D → List ℕ) (may_leave : D → List ℕ → Type 0) (is_clean : D → Bool)
    (r t : Recording S D) → IsSettled seen may_leave is_clean r → t ≡ r → HasLines script seen may_leave is_clean r t
has_none script seen may_leave is_clean r t at is = record {
  more = [];
  lines = inl refl;
  script_is = ap (λ q. script q.machine) is ∙ sym (append-nil (script r.machine));
  records_are = ap (λ q. records_of (seen q.file)) is ∙ sym (append-nil (records_of (seen r.file)));
  settled = subst (λ q. IsSettled seen may_leave is_clean q) (sym is) at;
}

has_both : {S D : Type 0} (script : S → List ℕ) (seen : D → List ℕ) (may_leave : D → List ℕ → Type 0) (is_clean : D → Bool)
    (r m t : Recording S D) → HasLines script seen may_leave is_clean r m → HasLines script seen may_leave is_clean m t
    → HasLines script seen may_leave is_clean r t
has_both script seen may_leave is_clean r m t f g = record {
  more = f.more ++ g.more;
  lines = lines_append f.more g.more f.lines g.lines;
  script_is = g.script_is ∙ ap (λ (l : List ℕ). l ++ g.more) f.script_is ∙ append_assoc (script r.machine) f.more g.more;
  records_are = g.records_are ∙ ap (λ (l : List (List ℕ)). l ++ whole_lines g.more) f.records_are
      ∙ append_assoc (records_of (seen r.file)) (whole_lines f.more) (whole_lines g.more)
      ∙ ap (λ (l : List (List ℕ)). records_of (seen r.file) ++ l) (sym (whole_append f.more g.more f.lines));
  settled = g.settled;
}

-- Use: rounds of a sitting.
pub told : {S D T : Type 0} (answers : S → List ℕ → List ℕ → Going → S → Type 0) (script : S → List ℕ) (seen : D → List ℕ)
    (may_leave : D → List ℕ → Type 0) (is_clean is_mixing : D → Bool) (hears : T → List ℕ → T → Type 0) (is_deaf : T → T → Type 0)
    (tells is_mute : T → List ℕ → T → Type 0) → FilesHaveTold answers script seen may_leave is_clean is_mixing hears is_deaf tells is_mute
told answers script seen may_leave is_clean is_mixing hears is_deaf tells is_mute [] r d line t e rest h at =
    has_none script seen may_leave is_clean r t at h.0
told answers script seen may_leave is_clean is_mixing hears is_deaf tells is_mute (round ∷ rounds) r d line t e rest h at =
    let first = kept_behind script seen may_leave is_clean r h.2.answered h.0 at (answered_ahead answers script _ r round.text h.2.answered round.left h.2.answers) h.2.keeps in
    has_both script seen may_leave is_clean r h.0 t first
    (told answers script seen may_leave is_clean is_mixing hears is_deaf tells is_mute rounds h.0 h.1 _ t e rest h.3 first.settled)

-- Use: a whole sitting.
pub told_all : {S D T : Type 0} (answers : S → List ℕ → List ℕ → Going → S → Type 0) (script : S → List ℕ) (seen : D → List ℕ)
    (may_leave : D → List ℕ → Type 0) (is_clean is_mixing : D → Bool) (hears : T → List ℕ → T → Type 0) (is_deaf : T → T → Type 0)
    (tells is_mute : T → List ℕ → T → Type 0) → FilesHaveAll answers script seen may_leave is_clean is_mixing hears is_deaf tells is_mute
told_all answers script seen may_leave is_clean is_mixing hears is_deaf tells is_mute r d going t e h at =
    let first = told answers script seen may_leave is_clean is_mixing hears is_deaf tells is_mute h.rounds r d [] h.behind h.told h.rest h.sits at in
    has_both script seen may_leave is_clean r h.behind t first
    (kept_behind script seen may_leave is_clean h.behind h.last.answered t first.settled
    (answered_lines answers script _ h.behind h.last.text going h.last.answered h.last.answers) h.last.keeps)
