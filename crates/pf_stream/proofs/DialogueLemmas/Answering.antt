-- How the bytes of a piece are gone through, line by line.
use Rattle.std.proofs.Common.{◌≡◌, ◌<◌, ◌≤◌, arith, lit≤, subst, ◌∙◌, ℕ, List, [], ◌∷◌, ◌++◌, inl, inr, length, Bool, true, false, Result, Ok, Err, refl, sym, ap, append_assoc}
use Rattle.std.specs.Prelude.{◌==◌, IfOk}
use Rattle.std.proofs.lemmas.List.{append-nil}
use Rattle.pf_stream.specs.declared.dialogue.answers.Going.{Going}
use Rattle.pf_stream.specs.declared.dialogue.answers.Going.TheVariants.{On, Ends}
use Rattle.pf_stream.specs.declared.dialogue.answers.Stopped.{Stopped}
use Rattle.pf_stream.specs.Dialogue.Answered.{AnswersAll, AnswersFront, AnswersFull, AnswersLines, AnswersTo, AnswersWhole, Stops, TakesByte}
use Rattle.pf_stream.specs.Dialogue.Lines.{IsFront, ended, last_line, lines_in, longer, rest_in}
use Rattle.pf_stream.specs.declared.dialogue.lines.TheConstants.{TEXT_HELD}
use Rattle.pf_stream.proofs.DialogueLemmas.Fronts.{front_lines, front_longer, front_none, front_rest}

-- one more line
pub then-one : {A : Type 0} (answers : A → List ℕ → List ℕ → Going → A → Type 0) (a : A) (done : List (List ℕ)) (text : List ℕ) (b : A)
    (line answer : List ℕ) (c : A) → AnswersAll answers a done text b → answers b line answer On c
    → AnswersAll answers a (done ++ line ∷ []) (text ++ answer) c
then-one answers a [] text b line answer c h k =
    let behind : answers a line answer On c = rw h.1 at k in
    (answer, [], c, behind, (refl, refl), ap (λ t. t ++ answer) h.0 ∙ sym (append-nil answer))
then-one answers a (one ∷ done) text b line answer c h k = (
  h.0,
  h.1 ++ answer,
  h.2,
  h.3,
  then-one answers h.2 done h.1 b line answer c h.4 k,
  ap (λ t. t ++ answer) h.5 ∙ append_assoc h.0 h.1 answer,
)

-- part of the bytes were gone through: some lines were answered, and the others are those of what is left after the front of a line
pub record Midway {A : Type 0} (answers : A → List ℕ → List ℕ → Going → A → Type 0) (a : A) (line bytes text front : List ℕ) (b : A) (left : List ℕ) : Type 0 where
  pub done : List (List ℕ)
  pub answered : AnswersAll answers a done text b
  pub lines : lines_in line bytes ≡ done ++ lines_in front left
  pub rest : rest_in line bytes ≡ rest_in front left

pub midway_byte : {A : Type 0} (answers : A → List ℕ → List ℕ → Going → A → Type 0) (a : A) (line bytes text front : List ℕ) (b : A) (left : List ℕ)
    (byte : ℕ) (more next : List ℕ) → Midway answers a line bytes text front b left → left ≡ byte ∷ more → (byte == 10) ≡ false → next ≡ longer front byte
    → Midway answers a line bytes text next b more
midway_byte answers a line bytes text front b left byte more next h is mid_line to = record {
  done = h.done;
  answered = h.answered;
  lines = h.lines ∙ ap (λ t. h.done ++ t) (ap (λ t. lines_in front t) is ∙ rw (mid_line, to) refl);
  rest = h.rest ∙ ap (λ t. rest_in front t) is ∙ rw (mid_line, to) refl;
}

pub midway_line : {A : Type 0} (answers : A → List ℕ → List ℕ → Going → A → Type 0) (a : A) (line bytes text front : List ℕ) (b : A) (left : List ℕ)
    (byte : ℕ) (more answer new : List ℕ) (c : A) → Midway answers a line bytes text front b left → left ≡ byte ∷ more → (byte == 10) ≡ true
    → answers b (ended front) answer On c → new ≡ text ++ answer → Midway answers a line bytes new [] c more
midway_line answers a line bytes text front b left byte more answer new c h is at_end k to = record {
  done = h.done ++ ended front ∷ [];
  answered = rw to (then-one answers a h.done text b (ended front) answer c h.answered k);
  lines = h.lines ∙ ap (λ t. h.done ++ t) (ap (λ t. lines_in front t) is ∙ rw at_end refl) ∙ sym (append_assoc h.done (ended front ∷ []) (lines_in [] more));
  rest = h.rest ∙ ap (λ t. rest_in front t) is ∙ rw at_end refl;
}

pub midway_last : {A : Type 0} (answers : A → List ℕ → List ℕ → Going → A → Type 0) (a : A) (line bytes text front : List ℕ) (b : A) (left : List ℕ)
    (byte : ℕ) (more answer new : List ℕ) (c : A) → Midway answers a line bytes text front b left → left ≡ byte ∷ more → (byte == 10) ≡ true
    → (going : Going) → answers b (ended front) answer going c → new ≡ text ++ answer → length text ≤ TEXT_HELD
    → AnswersTo answers a (lines_in line bytes) new going c
midway_last answers a line bytes text front b left byte more answer new c h is at_end going k to short = record {
  done = h.done;
  last = ended front;
  left = lines_in [] more;
  parts = h.lines ∙ ap (λ t. h.done ++ t) (ap (λ t. lines_in front t) is ∙ rw at_end refl);
  mid = b;
  front = text;
  answer = answer;
  answered = h.answered;
  short = short;
  ended = k;
  text_is = to;
}

pub midway_front : {A : Type 0} (answers : A → List ℕ → List ℕ → Going → A → Type 0) (stops : A → A → Type 0) (a : A) (line bytes text front : List ℕ) (b : A)
    (left new : List ℕ) (c : A) → Midway answers a line bytes text front b left → Stops stops b c → new ≡ text → length text ≤ TEXT_HELD
    → AnswersFront answers stops a (lines_in line bytes) new c
midway_front answers stops a line bytes text front b left new c h k to short = record {
  done = h.done;
  left = lines_in front left;
  parts = h.lines;
  behind = b;
  answered = rw to h.answered;
  short = rw to short;
  stopped = k;
}

-- one more byte
pub midway_step : {A : Type 0} (answers : A → List ℕ → List ℕ → Going → A → Type 0) (a : A) (line bytes text front : List ℕ) (b : A) (left : List ℕ)
    (byte : ℕ) (more new next : List ℕ) (c : A) → Midway answers a line bytes text front b left → left ≡ byte ∷ more
    → TakesByte answers b front byte text On c next new → Midway answers a line bytes new next c more
midway_step answers a line bytes text front b left byte more new next c h is (inl long) =
    rw (long.2, long.4) (midway_byte answers a line bytes text front b left byte more next h is long.0 long.3)
midway_step answers a line bytes text front b left byte more new next c h is (inr whole) =
    rw whole.2 (midway_line answers a line bytes text front b left byte more whole.1.0 new c h is whole.0 whole.1.1 whole.1.2)

pub midway_stop : {A : Type 0} (answers : A → List ℕ → List ℕ → Going → A → Type 0) (a : A) (line bytes text front : List ℕ) (b : A) (left : List ℕ)
    (byte : ℕ) (more new next : List ℕ) (c : A) → Midway answers a line bytes text front b left → left ≡ byte ∷ more
    → TakesByte answers b front byte text Ends c next new → length text ≤ TEXT_HELD → AnswersTo answers a (lines_in line bytes) new Ends c
midway_stop answers a line bytes text front b left byte more new next c h is (inl long) short = let never : Ends ≡ On = long.1 in cc
midway_stop answers a line bytes text front b left byte more new next c h is (inr whole) short =
    midway_last answers a line bytes text front b left byte more whole.1.0 new c h is whole.0 Ends whole.1.1 whole.1.2 short

-- the text is longer than what is held back
pub midway_full : {A : Type 0} (answers : A → List ℕ → List ℕ → Going → A → Type 0) (a : A) (line bytes text front : List ℕ) (b : A) (left : List ℕ)
    (byte : ℕ) (more new next : List ℕ) (c : A) → Midway answers a line bytes text front b left → left ≡ byte ∷ more
    → TakesByte answers b front byte text On c next new → length text ≤ TEXT_HELD → TEXT_HELD < length new → IsFront line
    → AnswersFull answers a (line ++ bytes) new c (next ++ more)
midway_full answers a line bytes text front b left byte more new next c h is (inl long) short over at =
    let same : length new ≡ length text = ap length long.4 in absurd (omega (arith, same, short, over))
midway_full answers a line bytes text front b left byte more new next c h is (inr whole) short over at = record {
  to = record {
    done = h.done;
    last = ended front;
    left = lines_in [] more;
    parts = front_lines line bytes at ∙ h.lines ∙ ap (λ ls. h.done ++ ls) (ap (λ t. lines_in front t) is ∙ rw whole.0 refl);
    mid = b;
    front = text;
    answer = whole.1.0;
    answered = h.answered;
    short = short;
    ended = whole.1.1;
    text_is = whole.1.2;
  };
  long = over;
  others = ap (λ (l : List ℕ). lines_in [] (l ++ more)) whole.2;
  rest = ap (λ (l : List ℕ). rest_in [] (l ++ more)) whole.2
      ∙ sym (front_rest line bytes at ∙ h.rest ∙ ap (λ t. rest_in front t) is ∙ rw whole.0 refl);
}

-- all bytes were gone through
pub midway_whole : {A : Type 0} (answers : A → List ℕ → List ℕ → Going → A → Type 0) (a : A) (line bytes text front : List ℕ) (b : A) (left after : List ℕ)
    → Midway answers a line bytes text front b left → left ≡ [] → after ≡ [] → length text ≤ TEXT_HELD → IsFront line → IsFront front
    → AnswersWhole answers a (line ++ bytes) text b (front ++ after)
midway_whole answers a line bytes text front b left after h none empty short at is = record {
  answered = subst (λ (ls : List (List ℕ)). AnswersAll answers a ls text b)
      (sym (front_lines line bytes at ∙ h.lines ∙ ap (λ t. h.done ++ lines_in front t) none ∙ append-nil h.done)) h.answered;
  short = short;
  none = ap (λ t. lines_in [] (front ++ t)) empty ∙ ap (λ t. lines_in [] t) (append-nil front) ∙ is.lines;
  rest = ap (λ t. rest_in [] (front ++ t)) empty ∙ ap (λ t. rest_in [] t) (append-nil front) ∙ is.rest
      ∙ sym (front_rest line bytes at ∙ h.rest ∙ ap (λ t. rest_in front t) none);
}

-- the last line
pub one_line : {A : Type 0} (answers : A → List ℕ → List ℕ → Going → A → Type 0) (a : A) (line text answer : List ℕ) (going : Going) (b : A)
    → text ≡ answer → answers a line answer going b → AnswersLines answers a (line ∷ []) text going b
one_line answers a line text answer On b is k = (answer, [], b, k, (refl, refl), is ∙ sym (append-nil answer))
one_line answers a line text answer Ends b is k = record {
  done = [];
  last = line;
  left = [];
  parts = refl;
  mid = a;
  front = [];
  answer = answer;
  answered = (refl, refl);
  short = lit≤ tt;
  ended = k;
  text_is = is;
}

pub last_taken : {A : Type 0} (answers : A → List ℕ → List ℕ → Going → A → Type 0) (a : A) (line old new : List ℕ) (b : A) (taken : Result Going Stopped)
    (none : Bool) → old ≡ [] → none ≡ (length line == 0) → none ≡ false
    → IfOk taken (λ going. (answer : List ℕ) × answers a line answer going b × (new ≡ old ++ answer))
    → IfOk taken (λ going. AnswersLines answers a (last_line line) new going b)
last_taken answers a [] old new b (Ok going) none empty is some h = let never : true ≡ false = sym is ∙ some in cc
last_taken answers a (byte ∷ bytes) old new b (Ok going) none empty is some h =
    one_line answers a (byte ∷ bytes) new h.0 going b (h.2 ∙ ap (λ t. t ++ h.0) empty) h.1
last_taken answers a line old new b (Err stopped) none empty is some h = tt

-- what is kept of a line stays the front of one
pub front_byte : {A : Type 0} (answers : A → List ℕ → List ℕ → Going → A → Type 0) (a : A) (line : List ℕ) (byte : ℕ) (text : List ℕ) (going : Going) (b : A)
    (next new : List ℕ) → TakesByte answers a line byte text going b next new → IsFront line → IsFront next
front_byte answers a line byte text going b next new (inl long) at = subst IsFront (sym long.3) (front_longer line byte at long.0)
front_byte answers a line byte text going b next new (inr whole) at = subst IsFront (sym whole.2) front_none
