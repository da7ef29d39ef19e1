-- A sitting over streams, by what is seen of them.
use Rattle.std.proofs.Common.{◌∙◌, ℕ, ap, List, [], ◌∷◌, inl, inr, refl, Option, None, Some, Result, Ok, Err}
use Rattle.pf_stream.specs.declared.dialogue.answers.Going.{Going}
use Rattle.pf_stream.specs.declared.dialogue.fault.SitFault.{SitFault}
use Rattle.pf_stream.specs.declared.dialogue.fault.SitFault.TheVariants.{Deaf, Mute, NoMemory, Unkept}
use Rattle.pf_stream.specs.Dialogue.Sits.{CutsRound, HasRound, HasSat, HearsMore, LastRound, Round, Sits, Talk, talk_of}
use Rattle.pf_stream.specs.HeldAnswers.Held.{AreSame}
use Rattle.pf_stream.specs.HeldAnswers.Streams.{Hears, IsDeaf, IsMute, Streams, Tells}
use Rattle.pf_stream.specs.declared.held_answers.held.Held.{Held}

same_again : {R W F : Type 0} (d e f : Held R W F) → AreSame d e → AreSame e f → AreSame d f
same_again d e f h k = record { reader = k.reader ∙ h.reader; writer = k.writer ∙ h.writer; prompted = k.prompted ∙ h.prompted }

same_self : {R W F : Type 0} (d : Held R W F) → AreSame d d
same_self d = record { reader = refl; writer = refl; prompted = refl }

-- how what answers goes on and keeps what it answered
pub record Voice (A : Type 0) : Type 1 where
  pub answers : A → List ℕ → List ℕ → Going → A → Type 0
  pub stops : A → A → Type 0
  pub keeps : A → A → Type 0
  pub loses : A → A → Type 0

-- with whom it is held, and with what is seen of that
abbrev pub with_held : {A R W F : Type 0} → Voice A → (Held R W F → Streams) → Talk A (Held R W F)
with_held v see =
    talk_of v.answers v.stops v.keeps v.loses (λ d bytes e. AreSame d e × Hears (see d) bytes (see e)) (λ d e. AreSame d e × IsDeaf (see d) (see e))
    (λ d text e. AreSame d e × Tells (see d) text (see e)) (λ d text e. AreSame d e × IsMute (see d) text (see e))

abbrev pub with_streams : {A : Type 0} → Voice A → Talk A Streams
with_streams v = talk_of v.answers v.stops v.keeps v.loses Hears IsDeaf Tells IsMute

-- where more was asked for, or nothing was
more_same : {R W F : Type 0} (see : Held R W F → Streams) (d : Held R W F) (line : List ℕ) (came : Option (List ℕ)) (heard : Held R W F)
    → HearsMore (λ d bytes e. AreSame d e × Hears (see d) bytes (see e)) d line came heard → AreSame d heard
more_same see d line None heard is = rw is (same_self d)
more_same see d line (Some bytes) heard h = h.1.0

more_seen : {R W F : Type 0} (see : Held R W F → Streams) (d : Held R W F) (line : List ℕ) (came : Option (List ℕ)) (heard : Held R W F)
    → HearsMore (λ d bytes e. AreSame d e × Hears (see d) bytes (see e)) d line came heard → HearsMore Hears (see d) line came (see heard)
more_seen see d line None heard is = ap see is
more_seen see d line (Some bytes) heard h = (h.0, h.1.1)

round_same : {A R W F : Type 0} (v : Voice A) (see : Held R W F → Streams) (a : A) (d : Held R W F)
    (line : List ℕ) (round : Round) (b : A) (e : Held R W F) → HasRound (with_held v see) a d line round b e → AreSame d e
round_same v see a d line round b e h = same_again d h.heard e (more_same see d line round.came h.heard h.hears) h.tells.0

round_seen : {A R W F : Type 0} (v : Voice A) (see : Held R W F → Streams) (a : A) (d : Held R W F)
    (line : List ℕ) (round : Round) (b : A) (e : Held R W F) → HasRound (with_held v see) a d line round b e
    → HasRound (with_streams v) a (see d) line round b (see e)
round_seen v see a d line round b e h =
    record { heard = see h.heard; hears = more_seen see d line round.came h.heard h.hears; answered = h.answered; answers = h.answers; keeps = h.keeps; tells = h.tells.1 }

sits_same : {A R W F : Type 0} (v : Voice A) (see : Held R W F → Streams) (rounds : List Round) (a : A)
    (d : Held R W F) (line : List ℕ) (b : A) (e : Held R W F) (rest : List ℕ) → Sits (with_held v see) rounds a d line b e rest → AreSame d e
sits_same v see [] a d line b e rest h = rw h.1 (same_self d)
sits_same v see (round ∷ rounds) a d line b e rest h =
    same_again d h.1 e (round_same v see a d line round h.0 h.1 h.2)
    (sits_same v see rounds h.0 h.1 round.left b e rest h.3)

sits_seen : {A R W F : Type 0} (v : Voice A) (see : Held R W F → Streams) (rounds : List Round) (a : A)
    (d : Held R W F) (line : List ℕ) (b : A) (e : Held R W F) (rest : List ℕ) → Sits (with_held v see) rounds a d line b e rest
    → Sits (with_streams v) rounds a (see d) line b (see e) rest
sits_seen v see [] a d line b e rest h = (h.0, ap see h.1, h.2)
sits_seen v see (round ∷ rounds) a d line b e rest h = (
  h.0,
  see h.1,
  round_seen v see a d line round h.0 h.1 h.2,
  sits_seen v see rounds h.0 h.1 round.left b e rest h.3,
)

-- a round that was cut short
cut_same : {A R W F : Type 0} (v : Voice A) (see : Held R W F → Streams) (a : A) (d : Held R W F) (line : List ℕ)
    (out : A → Held R W F → List ℕ → A → Held R W F → Type 0) (b : A) (e : Held R W F)
    → ((m : A) (heard : Held R W F) (text : List ℕ) → out m heard text b e → AreSame heard e) → CutsRound (with_held v see) a d line out b e → AreSame d e
cut_same v see a d line out b e same h =
    same_again d h.heard e (more_same see d line h.came h.heard h.hears) (same h.answered h.heard h.text h.went)

cut_seen : {A R W F : Type 0} (v : Voice A) (see : Held R W F → Streams) (a : A) (d : Held R W F) (line : List ℕ)
    (out : A → Held R W F → List ℕ → A → Held R W F → Type 0) (to : A → Streams → List ℕ → A → Streams → Type 0) (b : A) (e : Held R W F)
    → ((m : A) (heard : Held R W F) (text : List ℕ) → out m heard text b e → to m (see heard) text b (see e))
    → CutsRound (with_held v see) a d line out b e → CutsRound (with_streams v) a (see d) line to b (see e)
cut_seen v see a d line out to b e same h = record {
  came = h.came;
  text = h.text;
  heard = see h.heard;
  hears = more_seen see d line h.came h.heard h.hears;
  answered = h.answered;
  answers = h.answers;
  went = same h.answered h.heard h.text h.went;
}

last_same : {A R W F : Type 0} (v : Voice A) (see : Held R W F → Streams) (a : A) (d : Held R W F)
    (line : List ℕ) (ending : Result Going SitFault) (b : A) (e : Held R W F) → LastRound (with_held v see) a d line ending b e → AreSame d e
last_same v see a d line (Ok going) b e h = same_again d h.heard e (more_same see d line h.came h.heard h.hears) h.tells.0
last_same v see a d line (Err Deaf) b e h = h.1.0
last_same v see a d line (Err Mute) b e h = cut_same v see a d line _ b e (λ m heard text o. o.1.0) h
last_same v see a d line (Err Unkept) b e h = cut_same v see a d line _ b e (λ m heard text o. rw o.1 (same_self heard)) h
last_same v see a d line (Err NoMemory) b e (inl h) = cut_same v see a d line _ b e (λ m heard text o. o.1.0) h
last_same v see a d line (Err NoMemory) b e (inr is) = rw is.1 (same_self d)

last_seen : {A R W F : Type 0} (v : Voice A) (see : Held R W F → Streams) (a : A) (d : Held R W F)
    (line : List ℕ) (ending : Result Going SitFault) (b : A) (e : Held R W F) → LastRound (with_held v see) a d line ending b e
    → LastRound (with_streams v) a (see d) line ending b (see e)
last_seen v see a d line (Ok going) b e h = record {
  came = h.came;
  text = h.text;
  heard = see h.heard;
  hears = more_seen see d line h.came h.heard h.hears;
  answered = h.answered;
  answers = h.answers;
  keeps = h.keeps;
  tells = h.tells.1;
  all = h.all;
}
last_seen v see a d line (Err Deaf) b e h = (h.0, h.1.1)
last_seen v see a d line (Err Mute) b e h = cut_seen v see a d line _ _ b e (λ m heard text o. (o.0, o.1.1)) h
last_seen v see a d line (Err Unkept) b e h = cut_seen v see a d line _ _ b e (λ m heard text o. (o.0, ap see o.1)) h
last_seen v see a d line (Err NoMemory) b e (inl h) = inl (cut_seen v see a d line _ _ b e (λ m heard text o. (o.0, o.1.1)) h)
last_seen v see a d line (Err NoMemory) b e (inr is) = inr (is.0, ap see is.1)

-- it is held over the same streams to its end
pub sat_same : {A R W F : Type 0} (v : Voice A) (see : Held R W F → Streams) (a : A) (d : Held R W F)
    (ending : Result Going SitFault) (b : A) (e : Held R W F) → HasSat (with_held v see) a d ending b e → AreSame d e
sat_same v see a d ending b e h =
    same_again d h.told e (sits_same v see h.rounds a d [] h.behind h.told h.rest h.sits)
    (last_same v see h.behind h.told h.rest ending b e h.last)

pub sat_seen : {A R W F : Type 0} (v : Voice A) (see : Held R W F → Streams) (a : A) (d : Held R W F)
    (ending : Result Going SitFault) (b : A) (e : Held R W F) → HasSat (with_held v see) a d ending b e
    → HasSat (with_streams v) a (see d) ending b (see e)
sat_seen v see a d ending b e h = record {
  rounds = h.rounds;
  behind = h.behind;
  told = see h.told;
  rest = h.rest;
  sits = sits_seen v see h.rounds a d [] h.behind h.told h.rest h.sits;
  last = last_seen v see h.behind h.told h.rest ending b e h.last;
}
