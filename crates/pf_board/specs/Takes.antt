-- What `take` answers.
use Rattle.std.specs.Prelude.{ℕ, ◌≡◌, ◌≢◌, ◌+◌, ◌<◌, ◌≤◌, List, [], ◌∷◌, ◌++◌, length}
use Rattle.pf_board.specs.declared.quantum.Quantum.{Quantum}
use Rattle.pf_board.specs.declared.take.Take.{Take}
use Rattle.pf_board.specs.declared.take.Take.TheVariants.{Got, Empty, Gone, NoProcessor}
use Rattle.pf_board.specs.Quanta.{times, issues}
use Rattle.pf_board.specs.Words.{word_of, quantum_at}
use Rattle.pf_board.specs.Passes.{Passing, IsFront}

module _ {E T : Type 0} where
  -- the pass took the quantum of processor p's word, which it had not taken before
  pub record Grabs (p word : ℕ) (v w : Passing E T) : Type 0 where
    pub fresh : times (quantum_at p word) v.taken ≡ 0
    pub pass : w ≡ record v { taken = v.taken ++ quantum_at p word ∷ [] }

  -- the word was another
  pub record Misses (p word : ℕ) (v w : Passing E T) : Type 0 where
    pub later : ℕ
    pub is_later : later ≢ word
    pub pass : w ≡ record v { loads = v.loads ++ (1 + p, later) ∷ [] }

module _ {E T : Type 0} (legal : T → List (ℕ × E) → Type 0) (quanta : E → List Quantum) where
  -- the quantum is the processor's, the history that the pass has now seen issues it, and the pass had not taken it before. The loads are of its word and of the history's length
  pub record Gets (p : ℕ) (v : Passing E T) (q : Quantum) (w : Passing E T) : Type 0 where
    pub processor : q.processor ≡ p
    pub issued : 0 < times q (issues quanta w.seen)
    pub fresh : times q v.taken ≡ 0
    pub some_word : word_of q ≢ 0
    pub front : IsFront legal w
    pub pass : w ≡ record v { seen = w.seen; taken = v.taken ++ q ∷ []; loads = (v.loads ++ (1 + p, word_of q) ∷ []) ++ (0, length w.seen) ∷ [] }

  -- what a take of processor p of m answers, and what it leaves of the pass
  abbrev pub Takes : (m p : ℕ) → Passing E T → Take → Passing E T → Type 0
  Takes m p v (Got q) w = (p < m) × Gets p v q w
  Takes m p v Empty w = (p < m) × (w ≡ record v { loads = v.loads ++ (1 + p, 0) ∷ [] })
  Takes m p v Gone w = (p < m) × ((found later : ℕ) × (found ≢ 0) × (later ≢ found) × (w ≡ record v { loads = (v.loads ++ (1 + p, found) ∷ []) ++ (1 + p, later) ∷ [] }))
  Takes m p v NoProcessor w = (m ≤ p) × (w ≡ v)
