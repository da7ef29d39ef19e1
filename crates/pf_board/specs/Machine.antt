-- The shared machine: what planners and dispatchers do to one history and its quanta, one action after another.
use Rattle.std.specs.Prelude.{ℕ, ◌≡◌, ◌+◌, ◌<◌, ◌≤◌, ◌⊎◌, if◌then◌else◌, slice_set, Bool, true, List, [], ◌∷◌, ◌++◌, replicate}
use mathlib.Core.List.{IsPrefix}
use mathlib.Core.Option.{some}
use lib.ListN.{get_elem?}
use Rattle.pf_board.specs.declared.quantum.Quantum.{Quantum}
use Rattle.pf_board.specs.Quanta.{total, times, issues, is_step, last_issues, IsOnceEach}

-- the history, what is published, what lies on each processor's word (nothing, or one quantum), and what each pass took
pub record Machine (E : Type 0) : Type 0 where
  pub history : List (ℕ × E)
  pub published : List (ℕ × E)
  pub words : List (List Quantum)
  pub taken : List (List Quantum)

-- an entry beside its pass's number; what is published; a quantum; a processor and a pass
pub data Action (E : Type 0) : Type 0 where
  publish : ℕ × E → Action E
  enter : Action E
  issue : Quantum → Action E
  take : ℕ → ℕ → Action E

-- how often a quantum stands in these lists
abbrev pub times_in : Quantum → List (List Quantum) → ℕ
times_in q lists = total (times q) lists

module _ {E : Type 0} where
  abbrev pub opening : ℕ → ℕ → Machine E
  opening processors passes = record { history = []; published = []; words = replicate processors []; taken = replicate passes [] }

  -- the quanta that these actions issued
  abbrev pub issued_by : List (Action E) → List Quantum
  issued_by [] = []
  issued_by (issue q ∷ actions) = q ∷ issued_by actions
  issued_by (a ∷ actions) = issued_by actions

module _ {E : Type 0} (quanta : E → List Quantum) (steps : E → Bool) where
  -- the quanta of the entries before the last step, where those of all so far are `all`, and of those before the last step so far are `old`
  abbrev pub issues_until : (all old : List Quantum) → List (ℕ × E) → List Quantum
  issues_until all old [] = old
  issues_until all old (x ∷ xs) = issues_until (all ++ quanta x.1) (if is_step quanta steps x.1 then all else old) xs

  abbrev pub issues_before : List (ℕ × E) → List Quantum
  issues_before log = issues_until [] [] log

  -- each word is empty, and nothing is left to issue
  pub record IsIdle (s : Machine E) : Type 0 where
    pub empty : (q : Quantum) → times_in q s.words ≡ 0
    pub all : (q : Quantum) → times q (issues quanta s.history) ≤ times_in q s.words + times_in q s.taken

  module _ (legal : List (ℕ × E) → Type 0) where
    -- what an action needs of s, and what it makes of it
    abbrev pub Acts : Machine E → Action E → Machine E → Type 0
    Acts s (publish x) t = (s.published ≡ s.history) × legal (s.history ++ x ∷ []) × (is_step quanta steps x.1 ≡ true → IsIdle s) × (t ≡ record s { published = s.history ++ x ∷ [] })
    Acts s enter t = (x : ℕ × E) × (s.published ≡ s.history ++ x ∷ []) × (t ≡ record s { history = s.history ++ x ∷ [] })
    Acts s (issue q) t =
        (0 < times q (last_issues quanta steps s.history)) × (times_in q s.words + times_in q s.taken ≡ 0) × (get_elem? s.words q.processor ≡ some [])
        × (t ≡ record s { words = slice_set s.words q.processor (q ∷ []) })
    Acts s (take p pass) t =
        (q : Quantum) × (before : List Quantum) × (get_elem? s.words p ≡ some (q ∷ [])) × (get_elem? s.taken pass ≡ some before)
        × (t ≡ record s { words = slice_set s.words p []; taken = slice_set s.taken pass (before ++ q ∷ []) })

    abbrev pub Reaches : Machine E → List (Action E) → Machine E → Type 0
    Reaches s [] t = s ≡ t
    Reaches s (a ∷ actions) t = (u : Machine E) × Acts s a u × Reaches u actions t

    -- from the opening some list of actions leads to s, and issues these quanta
    pub record IsReached (processors passes : ℕ) (s : Machine E) (issued : List Quantum) : Type 0 where
      pub actions : List (Action E)
      pub reaches : Reaches (opening processors passes) actions s
      pub issues_them : issued_by actions ≡ issued

    -- the quanta issued are those on the words and those taken, each once, all of them issues of the history; each issue before its last step was taken
    pub record IsConserved (issued : List Quantum) (s : Machine E) : Type 0 where
      pub issued_are : (q : Quantum) → times q issued ≡ times_in q s.words + times_in q s.taken
      pub once : IsOnceEach issued
      pub of_history : (q : Quantum) → times q issued ≤ times q (issues quanta s.history)
      pub before : (q : Quantum) → times q (issues_before s.history) ≤ times_in q s.taken
      pub published : (s.published ≡ s.history) ⊎ ((x : ℕ × E) × (s.published ≡ s.history ++ x ∷ []))

    -- so it is after every list of actions, and none shortens what is published
    pub record QuantaAreConserved : Type 0 where
      pub conserved : (processors passes : ℕ) (actions : List (Action E)) (t : Machine E) → Reaches (opening processors passes) actions t → IsConserved (issued_by actions) t
      pub grows : (s : Machine E) (a : Action E) (t : Machine E) → Acts s a t → IsPrefix s.published t.published
