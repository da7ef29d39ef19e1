-- What the entries of the tests' histories issue.
use Rattle.std.specs.Prelude.{ℕ, ◌≡◌, ◌≤◌, if◌then◌else◌, true, List, [], ◌∷◌}
use Rattle.pf_board.specs.declared.quantum.Quantum.{Quantum}
use Rattle.pf_board.specs.Quanta.{times, issues}
use Rattle.thread_tests.specs.declared.entry.Entry.{Entry}

abbrev pub quanta_of : Entry → List Quantum
quanta_of e = if e.is_step then e.quantum ∷ [] else []

-- a step that issues this quantum
abbrev pub step_of : Quantum → Entry
step_of q = record { is_step = true; quantum = q }

-- the quanta of the race
abbrev pub race_quantum : ℕ → Quantum
race_quantum n = record { slot = 0; processor = 0; task = 1; sub = n }

-- the history issues none of these from n on
abbrev pub IsFreshFrom : ℕ → List (ℕ × Entry) → Type 0
IsFreshFrom n log = (m : ℕ) → n ≤ m → times (race_quantum m) (issues quanta_of log) ≡ 0
