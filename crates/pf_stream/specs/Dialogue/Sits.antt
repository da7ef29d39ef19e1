-- A sitting: what was heard, kept and told, one after the other.
use Rattle.std.specs.Prelude.{ℕ, ◌≡◌, ◌⊎◌, List, [], ◌∷◌, Option, None, Some, Result, Ok, Err}
use Rattle.pf_stream.specs.declared.dialogue.answers.Going.{Going}
use Rattle.pf_stream.specs.declared.dialogue.answers.Going.TheVariants.{On}
use Rattle.pf_stream.specs.declared.dialogue.answers.Stopped.{Stopped}
use Rattle.pf_stream.specs.declared.dialogue.fault.SitFault.{SitFault}
use Rattle.pf_stream.specs.declared.dialogue.fault.SitFault.TheVariants.{Deaf, Mute, NoMemory, Unkept}
use Rattle.pf_stream.specs.Dialogue.Answered.{AnswersAhead, AnswersLines, SomeAnswered}
use Rattle.pf_stream.specs.Dialogue.Lines.{ahead_with, lines_at, lines_in}

-- how what answers (A) goes on and keeps what it answered, and whom it talks with (D)
pub record Talk (A D : Type 0) : Type 1 where
  pub answers : A → List ℕ → List ℕ → Going → A → Type 0
  pub stops : A → A → Type 0
  pub keeps : A → A → Type 0
  pub loses : A → A → Type 0
  pub hears : D → List ℕ → D → Type 0
  pub is_deaf : D → D → Type 0
  pub tells : D → List ℕ → D → Type 0
  pub is_mute : D → List ℕ → D → Type 0

abbrev pub talk_of : {A D : Type 0} → (A → List ℕ → List ℕ → Going → A → Type 0) → (A → A → Type 0) → (A → A → Type 0) → (A → A → Type 0)
    → (D → List ℕ → D → Type 0) → (D → D → Type 0) → (D → List ℕ → D → Type 0) → (D → List ℕ → D → Type 0) → Talk A D
talk_of answers stops keeps loses hears is_deaf tells is_mute = record {
  answers = answers;
  stops = stops;
  keeps = keeps;
  loses = loses;
  hears = hears;
  is_deaf = is_deaf;
  tells = tells;
  is_mute = is_mute;
}

-- what came in a round, where more was asked for; what was told then; and what was left of what had come
pub record Round : Type 0 where
  pub came : Option (List ℕ)
  pub text : List ℕ
  pub left : List ℕ

-- more is asked for only where no line that is at its end is ahead; else nothing is heard
abbrev pub HearsMore : {D : Type 0} → (D → List ℕ → D → Type 0) → D → List ℕ → Option (List ℕ) → D → Type 0
HearsMore hears d ahead None heard = heard ≡ d
HearsMore hears d ahead (Some bytes) heard = (lines_in [] ahead ≡ []) × hears d bytes heard

-- a round, with what came and is not answered ahead of it, the front of a line at most or lines too: more was asked for where no line
-- was ahead, lines were answered, what was answered was kept, and then the answers were told
pub record HasRound {A D : Type 0} (talk : Talk A D) (a : A) (d : D) (ahead : List ℕ) (round : Round) (b : A) (e : D) : Type 0 where
  pub heard : D
  pub hears : HearsMore talk.hears d ahead round.came heard
  pub answered : A
  pub answers : AnswersAhead talk.answers a (ahead_with ahead round.came) round.text On answered round.left
  pub keeps : talk.keeps answered b
  pub tells : talk.tells heard round.text e

-- rounds, one after the other, and nothing else
abbrev pub Sits : {A D : Type 0} → Talk A D → List Round → A → D → List ℕ → A → D → List ℕ → Type 0
Sits talk [] a d ahead b e rest = (b ≡ a) × (e ≡ d) × (rest ≡ ahead)
Sits talk (round ∷ rounds) a d ahead b e rest =
    (mid : _) × (told : _) × HasRound talk a d ahead round mid told × Sits talk rounds mid told round.left b e rest

-- the last round: nothing more came, and the last line was answered, or the lines up to one that ended it; what was answered was
-- kept, and then told
pub record EndsRound {A D : Type 0} (talk : Talk A D) (a : A) (d : D) (ahead : List ℕ) (going : Going) (b : A) (e : D) : Type 0 where
  pub came : Option (List ℕ)
  pub text : List ℕ
  pub heard : D
  pub hears : HearsMore talk.hears d ahead came heard
  pub answered : A
  pub answers : AnswersLines talk.answers a (lines_at ahead came) text going answered
  pub keeps : talk.keeps answered b
  pub tells : talk.tells heard text e
  pub all : going ≡ On → came ≡ Some []

-- or a round in which some lines were answered, all of them maybe, and then what `out` says of these answers
pub record CutsRound {A D : Type 0} (talk : Talk A D) (a : A) (d : D) (ahead : List ℕ) (out : A → D → List ℕ → A → D → Type 0) (b : A) (e : D) : Type 0 where
  pub came : Option (List ℕ)
  pub text : List ℕ
  pub heard : D
  pub hears : HearsMore talk.hears d ahead came heard
  pub answered : A
  pub answers : SomeAnswered talk.answers talk.stops a (lines_at ahead came) text answered
  pub went : out answered heard text b e

-- they were kept and then told, ..
abbrev pub IsOut : {A D : Type 0} → Talk A D → A → D → List ℕ → A → D → Type 0
IsOut talk a d text b e = talk.keeps a b × talk.tells d text e

-- .. or kept, but could not be told, ..
abbrev pub IsUntold : {A D : Type 0} → Talk A D → A → D → List ℕ → A → D → Type 0
IsUntold talk a d text b e = talk.keeps a b × talk.is_mute d text e

-- .. or could not be kept, and nothing was told
abbrev pub IsLost : {A D : Type 0} → Talk A D → A → D → List ℕ → A → D → Type 0
IsLost talk a d text b e = talk.loses a b × (e ≡ d)

-- how the last round went
abbrev pub LastRound : {A D : Type 0} → Talk A D → A → D → List ℕ → Result Going SitFault → A → D → Type 0
LastRound talk a d ahead (Ok going) b e = EndsRound talk a d ahead going b e
LastRound talk a d ahead (Err Deaf) b e = (b ≡ a) × talk.is_deaf d e
LastRound talk a d ahead (Err Mute) b e = CutsRound talk a d ahead (IsUntold talk) b e
LastRound talk a d ahead (Err Unkept) b e = CutsRound talk a d ahead (IsLost talk) b e
LastRound talk a d ahead (Err NoMemory) b e = CutsRound talk a d ahead (IsOut talk) b e ⊎ ((b ≡ a) × (e ≡ d))

-- a sitting from its beginning: rounds, and the last one
pub record HasSat {A D : Type 0} (talk : Talk A D) (a : A) (d : D) (ending : Result Going SitFault) (b : A) (e : D) : Type 0 where
  pub rounds : List Round
  pub behind : A
  pub told : D
  pub rest : List ℕ
  pub sits : Sits talk rounds a d [] behind told rest
  pub last : LastRound talk behind told rest ending b e

-- the answers to a piece were kept and told, or were not; how the piece was answered tells whether more is wanted
abbrev pub IsTold : {A D : Type 0} → Talk A D → Result Going Stopped → A → D → List ℕ → Result Going SitFault → A → D → Type 0
IsTold talk going a d text (Ok g) b e = (going ≡ Ok g) × IsOut talk a d text b e
IsTold talk going a d text (Err Mute) b e = IsUntold talk a d text b e
IsTold talk going a d text (Err Unkept) b e = IsLost talk a d text b e
IsTold talk going a d text (Err NoMemory) b e = IsOut talk a d text b e
IsTold talk going a d text (Err Deaf) b e = ⊥

-- how one round went: more is to be asked for, or it was the last
abbrev pub NextRound : {A D : Type 0} → Talk A D → A → D → List ℕ → Result (Option Going) SitFault → A → D → List ℕ → Type 0
NextRound talk a d ahead (Ok None) b e rest = (round : Round) × HasRound talk a d ahead round b e × (rest ≡ round.left)
NextRound talk a d ahead (Ok (Some going)) b e rest = LastRound talk a d ahead (Ok going) b e
NextRound talk a d ahead (Err fault) b e rest = LastRound talk a d ahead (Err fault) b e
