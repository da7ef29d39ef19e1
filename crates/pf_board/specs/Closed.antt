-- What `close` gives.
use Rattle.std.specs.Prelude.{ℕ, suc, ◌≡◌, ◌≤◌, ◌<◌, Bool, List, [], ◌∷◌, ◌++◌, length}
use mathlib.Core.List.{IsPrefix}
use mathlib.Core.Option.{some}
use lib.ListN.{get_elem?}
use Rattle.pf_board.specs.declared.quantum.Quantum.{Quantum}
use Rattle.pf_board.specs.declared.hand.Hand.{Hand}
use Rattle.pf_board.specs.Quanta.{times, issues, last_issues, HasSame, IsOnceEach}
use Rattle.pf_board.specs.Passes.{Passing, calls_by, all_taken}
use Rattle.pf_board.specs.Machine.{Machine, IsReached}

-- the quanta's processors rise, from p to below m
abbrev pub RisesFrom : (p m : ℕ) → List Quantum → Type 0
RisesFrom p m [] = Unit {0}
RisesFrom p m (q ∷ qs) = (p ≤ q.processor) × (q.processor < m) × RisesFrom (suc q.processor) m qs

module _ {E T : Type 0} where
  -- the hands of passes
  abbrev pub hand_in : Passing E T → Hand E
  hand_in p = record { me = p.me; seen = p.seen; mine = p.mine; taken = p.taken }

  abbrev pub hands_in : List (Passing E T) → List (Hand E)
  hands_in [] = []
  hands_in (p ∷ ps) = hand_in p ∷ hands_in ps

-- the quanta on words
abbrev pub together : List (List Quantum) → List Quantum
together [] = []
together (qs ∷ words) = qs ++ together words

module _ {E T : Type 0} (quanta : E → List Quantum) (steps : E → Bool) (legal : List (ℕ × E) → Type 0) where
  -- the shared machine reaches a state with this history, in which these quanta lie on the words and these passes took what they did
  pub record IsAtEnd (m passes : ℕ) (history : List (ℕ × E)) (ps : List (Passing E T)) (left : List Quantum) : Type 0 where
    pub state : Machine E
    pub issued : List Quantum
    pub reached : IsReached quanta steps legal m passes state issued
    pub history_is : state.history ≡ history
    pub left_is : together state.words ≡ left
    pub taken : (k : ℕ) (p : Passing E T) → get_elem? ps k ≡ some p → get_elem? state.taken p.me ≡ some p.taken

  -- what is left of a board of m processors, whose history this is, when these of its passes are handed in
  pub record Closes (m passes : ℕ) (history : List (ℕ × E)) (ps : List (Passing E T)) (left : List Quantum) : Type 0 where
    -- what is left is by processor, and of the last step
    pub by_processor : RisesFrom 0 m left
    pub of_last : (q : Quantum) → times q left ≤ times q (last_issues quanta steps history)
    -- each quantum is left or taken once at most, and was issued by the history
    pub once : IsOnceEach (left ++ all_taken ps)
    pub issued : (q : Quantum) → times q (left ++ all_taken ps) ≤ times q (issues quanta history)
    -- where each pass is handed in, all that was issued is left or taken
    pub all : length ps ≡ passes → HasSame (issues quanta history) (left ++ all_taken ps)
    -- so the shared machine may end
    pub machine : IsAtEnd m passes history ps left
    -- what each has seen begins the history, in which its own entries are exactly those of its number
    pub fronts : (k : ℕ) (p : Passing E T) → get_elem? ps k ≡ some p → IsPrefix p.seen history × (p.mine ≡ calls_by p.me history)
