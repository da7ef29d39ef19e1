-- Processors' words: 0, or a quantum's slot, task and subtask.
use Rattle.std.specs.Prelude.{ℕ, suc, ◌*◌, ◌/◌, ◌%◌, ◌≡◌, ◌+◌, ◌<◌, ◌≤◌, ◌==◌, if◌then◌else◌, List, [], ◌∷◌, ◌++◌}
use Rattle.pf_board.specs.declared.quantum.Quantum.{Quantum}

-- slot below 2^22, task from 1 to 4,095, subtask from 1 to 2^22
pub record FitsWord (q : Quantum) : Type 0 where
  pub slot : q.slot < 4194304
  pub some_task : 1 ≤ q.task
  pub task : q.task ≤ 4095
  pub some_sub : 1 ≤ q.sub
  pub sub : q.sub ≤ 4194304

-- 2^12 tasks to a slot, 2^23 subtasks to a task
abbrev pub word_of : Quantum → ℕ
word_of q = (q.slot * 4096 + q.task) * 8388608 + q.sub

-- the quantum on the processor's word n, where n isn't 0
abbrev pub quantum_at : ℕ → ℕ → Quantum
quantum_at processor n = record { slot = n / 34359738368; processor = processor; task = n / 8388608 % 4096; sub = n % 8388608 }

-- reading a word gives the quantum that was written, and writing a quantum that was read gives the word
pub record AreInverse : Type 0 where
  pub read : (q : Quantum) → FitsWord q → quantum_at q.processor (word_of q) ≡ q
  pub written : (processor n : ℕ) → word_of (quantum_at processor n) ≡ n

-- what lies on the processor's word n
abbrev pub on_word : ℕ → ℕ → List Quantum
on_word processor n = if n == 0 then [] else quantum_at processor n ∷ []

-- what lies on the words of the processors from p on, together, and on each of them
abbrev pub on_words : ℕ → List ℕ → List Quantum
on_words p [] = []
on_words p (n ∷ ns) = on_word p n ++ on_words (suc p) ns

abbrev pub on_each_word : ℕ → List ℕ → List (List Quantum)
on_each_word p [] = []
on_each_word p (n ∷ ns) = on_word p n ∷ on_each_word (suc p) ns
