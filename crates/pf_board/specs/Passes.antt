-- What contracts see of a board, its keeper, a turn and a pass.
use Rattle.std.specs.Prelude.{ℕ, zero, suc, ◌≡◌, ◌≢◌, ◌+◌, ◌==◌, if◌then◌else◌, Bool, true, List, [], ◌∷◌, ◌++◌}
use mathlib.Core.Option.{some}
use lib.ListN.{get_elem?}
use Rattle.atomic_table.specs.Seated.{TableId}
use Rattle.pf_board.specs.declared.quantum.Quantum.{Quantum}

-- a board: which one it is, its terms, and how many processors and passes it has
pub record Boarding (T : Type 0) : Type 0 where
  pub id : TableId
  pub terms : T
  pub processors : ℕ
  pub passes : ℕ

-- a pass: which board it is of, that board's terms as a list of one, its number, what it has seen, its own entries there, what it took, and what its loads found
pub record Passing (E T : Type 0) : Type 0 where
  pub board : TableId
  pub terms : List T
  pub me : ℕ
  pub seen : List (ℕ × E)
  pub mine : List E
  pub taken : List Quantum
  pub loads : List (ℕ × ℕ)

-- the keeper: its board and terms likewise, the whole history, what its checks found, whether no turn is out, and then: the processors whose words are empty, and what is left to issue
pub record Keeping (E T : Type 0) : Type 0 where
  pub board : TableId
  pub terms : List T
  pub seen : List (ℕ × E)
  pub loads : List (ℕ × ℕ)
  pub has_turn : Bool
  pub empty : List ℕ
  pub left : List Quantum

-- a turn: the whole history, and what the keeper knew of the words
pub record Turning (E : Type 0) : Type 0 where
  pub board : TableId
  pub whole : List (ℕ × E)
  pub empty : List ℕ
  pub left : List Quantum

-- x is in the list
abbrev pub IsIn : List ℕ → ℕ → Type 0
IsIn xs x = (k : ℕ) × (get_elem? xs k ≡ some x)

-- the numbers below n
abbrev pub below : ℕ → List ℕ
below zero = []
below (suc n) = below n ++ n ∷ []

-- so many loads of processors' words, from the first one on, which found 0
abbrev pub empty_loads : ℕ → List (ℕ × ℕ)
empty_loads zero = []
empty_loads (suc n) = empty_loads n ++ (1 + n, 0) ∷ []

-- the list but for each p in it
abbrev pub but : ℕ → List ℕ → List ℕ
but p [] = []
but p (x ∷ xs) = if x == p then but p xs else x ∷ but p xs

module _ {E : Type 0} where
  -- the entries that the pass of this number noted, in order
  abbrev pub calls_by : ℕ → List (ℕ × E) → List E
  calls_by me [] = []
  calls_by me (x ∷ xs) = if x.0 == me then x.1 ∷ calls_by me xs else calls_by me xs

module _ {E T : Type 0} where
  -- a pass that did nothing yet
  abbrev pub new_pass : TableId → T → ℕ → Passing E T
  new_pass board terms me = record { board = board; terms = terms ∷ []; me = me; seen = []; mine = []; taken = []; loads = [] }

  -- so many, numbered from 0
  abbrev pub new_passes : TableId → T → ℕ → List (Passing E T)
  new_passes board terms zero = []
  new_passes board terms (suc n) = new_passes board terms n ++ new_pass board terms n ∷ []

  -- a keeper of the empty history
  abbrev pub new_keeper : TableId → T → Keeping E T
  new_keeper board terms = record { board = board; terms = terms ∷ []; seen = []; loads = []; has_turn = true; empty = []; left = [] }

  -- what the pass has seen is legal, and its own entries are exactly those of its number there
  pub record IsFront (legal : T → List (ℕ × E) → Type 0) (p : Passing E T) : Type 0 where
    pub is_legal : (t : T) → p.terms ≡ t ∷ [] → legal t p.seen
    pub mine : p.mine ≡ calls_by p.me p.seen

  -- the keeper after its check found the words of the processors below n empty
  abbrev pub checked : ℕ → Keeping E T → Keeping E T
  checked n k = record k { loads = k.loads ++ empty_loads n; empty = k.empty ++ below n }

  -- and then the word of processor n not
  pub record Finds (n : ℕ) (k k' : Keeping E T) : Type 0 where
    pub word : ℕ
    pub some_word : word ≢ 0
    pub keeper : k' ≡ record (checked n k) { loads = (k.loads ++ empty_loads n) ++ (1 + n, word) ∷ [] }

  -- all quanta that these passes took
  abbrev pub all_taken : List (Passing E T) → List Quantum
  all_taken [] = []
  all_taken (p ∷ ps) = p.taken ++ all_taken ps

  -- each pass is of the board
  abbrev pub AreOf : TableId → List (Passing E T) → Type 0
  AreOf board ps = (k : ℕ) (p : Passing E T) → get_elem? ps k ≡ some p → p.board ≡ board
