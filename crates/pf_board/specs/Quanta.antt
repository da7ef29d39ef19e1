-- Lists of quanta: how often each stands there, and which ones a history issues.
use Rattle.std.specs.Prelude.{ℕ, ◌≡◌, ◌+◌, ◌<◌, ◌==◌, ◌&&◌, ◌||◌, if◌then◌else◌, Bool, true, false, List, [], ◌∷◌, ◌++◌}
use Rattle.pf_board.specs.declared.quantum.Quantum.{Quantum}

abbrev pub one_if : Bool → ℕ
one_if b = if b then 1 else 0

-- f of each, added up
abbrev pub total : {A : Type 0} → (A → ℕ) → List A → ℕ
total f [] = 0
total f (x ∷ xs) = f x + total f xs

abbrev pub is_same : Quantum → Quantum → Bool
is_same q r = (q.slot == r.slot) && (q.processor == r.processor) && (q.task == r.task) && (q.sub == r.sub)

-- the weights of these quanta, added up
abbrev pub weigh : (Quantum → ℕ) → List Quantum → ℕ
weigh h [] = 0
weigh h (q ∷ qs) = h q + weigh h qs

-- how often q stands in the list
abbrev pub times : Quantum → List Quantum → ℕ
times q qs = weigh (λ r. one_if (is_same q r)) qs

-- the list without the first q in it
abbrev pub quanta_without : Quantum → List Quantum → List Quantum
quanta_without q [] = []
quanta_without q (r ∷ rs) = if is_same q r then rs else r ∷ quanta_without q rs

-- the two lists have the same quanta, each as often
abbrev pub HasSame : List Quantum → List Quantum → Type 0
HasSame xs ys = (q : Quantum) → times q xs ≡ times q ys

-- no quantum stands in the list twice
abbrev pub IsOnceEach : List Quantum → Type 0
IsOnceEach qs = (q : Quantum) → times q qs < 2

-- no quantum stands in both lists, or twice in one
abbrev pub AreApartQuanta : List Quantum → List Quantum → Type 0
AreApartQuanta xs ys = IsOnceEach (xs ++ ys)

module _ {E : Type 0} (quanta : E → List Quantum) where
  -- the quanta of these entries, in order
  abbrev pub issues : List (ℕ × E) → List Quantum
  issues [] = []
  issues (x ∷ xs) = quanta x.1 ++ issues xs

abbrev pub is_some_list : List Quantum → Bool
is_some_list [] = false
is_some_list (q ∷ qs) = true

module _ {E : Type 0} (quanta : E → List Quantum) (steps : E → Bool) where
  -- whether the entry is a step: one with quanta always is
  abbrev pub is_step : E → Bool
  is_step e = steps e || is_some_list (quanta e)

  -- the quanta of the last step after those before it were `sofar`
  abbrev pub issues_after : List Quantum → List (ℕ × E) → List Quantum
  issues_after sofar [] = sofar
  issues_after sofar (x ∷ xs) = issues_after (if is_step x.1 then quanta x.1 else sofar) xs

  -- the quanta of the history's last step, or none
  abbrev pub last_issues : List (ℕ × E) → List Quantum
  last_issues log = issues_after [] log
