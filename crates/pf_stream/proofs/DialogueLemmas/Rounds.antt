-- How rounds follow one another.
use Rattle.std.proofs.Common.{◌≡◌, ◌≢◌, ◌∙◌, ◌≤◌, length, inl, inr, lit≤, ap, sym, subst, ℕ, List, [], ◌∷◌, ◌++◌, Option, Some, None, Result, Ok, Err, refl}
use Rattle.std.specs.Prelude.{IfOk, OnErr}
use Rattle.std.proofs.lemmas.List.{append-nil}
use Rattle.pf_stream.specs.declared.dialogue.answers.Going.{Going}
use Rattle.pf_stream.specs.declared.dialogue.answers.Going.TheVariants.{On, Ends}
use Rattle.pf_stream.specs.declared.dialogue.answers.Stopped.{Stopped}
use Rattle.pf_stream.specs.declared.dialogue.fault.SitFault.{SitFault}
use Rattle.pf_stream.specs.declared.dialogue.fault.SitFault.TheVariants.{Deaf, Mute, NoMemory, Unkept}
use Rattle.pf_stream.specs.Dialogue.Answered.{AnswersAhead, AnswersAll, AnswersFront, AnswersLines, AnswersTo, AnswersWhole, SomeAnswered}
use Rattle.pf_stream.specs.declared.dialogue.lines.TheConstants.{TEXT_HELD}
use Rattle.pf_stream.specs.Dialogue.Lines.{ahead_with, last_line, lines_at, lines_in}
use Rattle.pf_stream.specs.Dialogue.Sits.{CutsRound, HasRound, HasSat, HearsMore, IsTold, LastRound, Round, Sits, Talk}

-- one more round
pub sits_more : {A D : Type 0} (talk : Talk A D) (rounds : List Round) (a : A) (d : D) (ahead : List ℕ) (b : A) (e : D) (rest : List ℕ)
    (round : Round) (c : A) (f : D) → Sits talk rounds a d ahead b e rest → HasRound talk b e rest round c f
    → Sits talk (rounds ++ round ∷ []) a d ahead c f round.left
sits_more talk [] a d ahead b e rest round c f h k =
    let here : HasRound talk a d ahead round c f = rw (h.0, h.1, h.2) at k in
    (c, f, here, (refl, refl, refl))
sits_more talk (first ∷ rounds) a d ahead b e rest round c f h k =
    (h.0, h.1, h.2, sits_more talk rounds h.0 h.1 first.left b e rest round c f h.3 k)

-- rounds so far
pub record SatSoFar {A D : Type 0} (talk : Talk A D) (a : A) (d : D) (b : A) (e : D) (rest : List ℕ) : Type 0 where
  pub rounds : List Round
  pub sits : Sits talk rounds a d [] b e rest

pub sat_more : {A D : Type 0} (talk : Talk A D) (a : A) (d : D) (b : A) (e : D) (rest : List ℕ) (round : Round) (c : A) (f : D) (next : List ℕ)
    → SatSoFar talk a d b e rest → HasRound talk b e rest round c f → next ≡ round.left → SatSoFar talk a d c f next
sat_more talk a d b e rest round c f next h k is =
    rw is (record { rounds = h.rounds ++ round ∷ []; sits = sits_more talk h.rounds a d [] b e rest round c f h.sits k })

pub sat_ends : {A D : Type 0} (talk : Talk A D) (a : A) (d : D) (b : A) (e : D) (rest : List ℕ) (ending : Result Going SitFault) (c : A) (f : D)
    → SatSoFar talk a d b e rest → LastRound talk b e rest ending c f → HasSat talk a d ending c f
sat_ends talk a d b e rest ending c f h k = record { rounds = h.rounds; behind = b; told = e; rest = rest; sits = h.sits; last = k }

-- memory was refused at once
pub sat_not : {A D : Type 0} (talk : Talk A D) (a : A) (d : D) → HasSat talk a d (Err NoMemory) a d
sat_not talk a d = record { rounds = []; behind = a; told = d; rest = []; sits = (refl, refl, refl); last = inr (refl, refl) }

-- the lines that are at their end
pub at_end : (ahead now : List ℕ) (came : Option (List ℕ)) → now ≡ ahead_with ahead came → came ≡ Some [] → lines_at ahead came ≡ last_line now
at_end ahead now came is end =
    ap (lines_at ahead) end ∙ ap last_line (sym (is ∙ ap (ahead_with ahead) end ∙ append-nil ahead))

pub at_more : (ahead now : List ℕ) (came : Option (List ℕ)) → now ≡ ahead_with ahead came → came ≢ Some [] → lines_at ahead came ≡ lines_in [] now
at_more ahead now None is more = ap (lines_in []) (sym is)
at_more ahead now (Some []) is more = absurd (more refl)
at_more ahead now (Some (byte ∷ bytes)) is more = ap (lines_in []) (sym is)

-- however the last line was answered, or what was ahead, some of its lines were
one_some : {A : Type 0} (answers : A → List ℕ → List ℕ → Going → A → Type 0) (a : A) (last text : List ℕ) (b : A)
    → AnswersAll answers a (last ∷ []) text b → AnswersTo answers a (last ∷ []) text On b
one_some answers a last text b h = record {
  done = [];
  last = last;
  left = [];
  parts = refl;
  mid = a;
  front = [];
  answer = h.0;
  answered = (refl, refl);
  short = lit≤ tt;
  ended = subst (λ (q : _). answers a last h.0 On q) (sym h.4.1) h.3;
  text_is = h.5 ∙ ap (λ (t : List ℕ). h.0 ++ t) h.4.0 ∙ append-nil h.0;
}

none_some : {A : Type 0} (answers : A → List ℕ → List ℕ → Going → A → Type 0) (stops : A → A → Type 0) (a : A) (text : List ℕ) (b : A)
    → AnswersAll answers a [] text b → AnswersFront answers stops a [] text b
none_some answers stops a text b h = record {
  done = [];
  left = [];
  parts = refl;
  behind = a;
  answered = (h.0, refl);
  short = subst (λ (t : List ℕ). length t ≤ TEXT_HELD) (sym h.0) (lit≤ tt);
  stopped = inl h.1;
}

pub last_some : {A : Type 0} (answers : A → List ℕ → List ℕ → Going → A → Type 0) (stops : A → A → Type 0) (a : A) (line text : List ℕ)
    (b : A) (going : Result Going Stopped) → IfOk going (λ g. AnswersLines answers a (last_line line) text g b)
    → OnErr going (AnswersFront answers stops a (last_line line) text b) → SomeAnswered answers stops a (last_line line) text b
last_some answers stops a [] text b (Ok On) ok err = inl (none_some answers stops a text b ok)
last_some answers stops a (byte ∷ bytes) text b (Ok On) ok err = inr (On, one_some answers a (byte ∷ bytes) text b ok)
last_some answers stops a line text b (Ok Ends) ok err = inr (Ends, ok)
last_some answers stops a line text b (Err stopped) ok err = inl err

whole_some : {A : Type 0} (answers : A → List ℕ → List ℕ → Going → A → Type 0) (stops : A → A → Type 0) (a : A) (ahead text : List ℕ)
    (b : A) (left : List ℕ) → AnswersWhole answers a ahead text b left → AnswersFront answers stops a (lines_in [] ahead) text b
whole_some answers stops a ahead text b left h = record {
  done = lines_in [] ahead;
  left = [];
  parts = sym (append-nil (lines_in [] ahead));
  behind = b;
  answered = h.answered;
  short = h.short;
  stopped = inl refl;
}

pub ahead_some : {A : Type 0} (answers : A → List ℕ → List ℕ → Going → A → Type 0) (stops : A → A → Type 0) (a : A) (ahead text : List ℕ)
    (b : A) (left : List ℕ) (going : Result Going Stopped) → IfOk going (λ g. AnswersAhead answers a ahead text g b left)
    → OnErr going (AnswersFront answers stops a (lines_in [] ahead) text b) → SomeAnswered answers stops a (lines_in [] ahead) text b
ahead_some answers stops a ahead text b left (Ok On) (inl ok) err = inl (whole_some answers stops a ahead text b left ok)
ahead_some answers stops a ahead text b left (Ok On) (inr ok) err = inr (On, ok.to)
ahead_some answers stops a ahead text b left (Ok Ends) ok err = inr (Ends, ok)
ahead_some answers stops a ahead text b left (Err stopped) ok err = inl err

-- a round that was cut short
cut_so : {A D : Type 0} (talk : Talk A D) (a : A) (d : D) (ahead : List ℕ) (came : Option (List ℕ)) (heard : D) (lines : List (List ℕ)) (text : List ℕ) (b : A)
    (out : A → D → List ℕ → A → D → Type 0) (c : A) (e : D) → HearsMore talk.hears d ahead came heard → lines_at ahead came ≡ lines
    → SomeAnswered talk.answers talk.stops a lines text b → out b heard text c e → CutsRound talk a d ahead out c e
cut_so talk a d ahead came heard lines text b out c e hears is some told = record {
  came = came;
  text = text;
  heard = heard;
  hears = hears;
  answered = b;
  answers = rw is some;
  went = told;
}

pub cut_round : {A D : Type 0} (talk : Talk A D) (a : A) (d : D) (ahead : List ℕ) (came : Option (List ℕ)) (heard : D) (lines : List (List ℕ)) (text : List ℕ)
    (b : A) (going : Result Going Stopped) (fault : SitFault) (c : A) (e : D) → HearsMore talk.hears d ahead came heard → lines_at ahead came ≡ lines
    → SomeAnswered talk.answers talk.stops a lines text b → IsTold talk going b heard text (Err fault) c e → LastRound talk a d ahead (Err fault) c e
cut_round talk a d ahead came heard lines text b going Deaf c e hears is some told = absurd told
cut_round talk a d ahead came heard lines text b going Mute c e hears is some told =
    cut_so talk a d ahead came heard lines text b _ c e hears is some told
cut_round talk a d ahead came heard lines text b going Unkept c e hears is some told =
    cut_so talk a d ahead came heard lines text b _ c e hears is some told
cut_round talk a d ahead came heard lines text b going NoMemory c e hears is some told =
    inl (cut_so talk a d ahead came heard lines text b _ c e hears is some told)

-- a round after which it goes on
pub go_round : {A D : Type 0} (talk : Talk A D) (a : A) (d : D) (ahead : List ℕ) (came : Option (List ℕ)) (heard : D) (now text : List ℕ) (b : A) (left : List ℕ)
    (going : Result Going Stopped) (c : A) (e : D) → HearsMore talk.hears d ahead came heard → now ≡ ahead_with ahead came
    → IfOk going (λ g. AnswersAhead talk.answers a now text g b left) → IsTold talk going b heard text (Ok On) c e
    → HasRound talk a d ahead (record { came = came; text = text; left = left }) c e
go_round talk a d ahead came heard now text b left going c e hears is ok told = record {
  heard = heard;
  hears = hears;
  answered = b;
  answers = subst (λ (q : List ℕ). AnswersAhead talk.answers a q text On b left) is (rw told.0 at ok);
  keeps = told.1.0;
  tells = told.1.1;
}
