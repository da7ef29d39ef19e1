-- Processors' words and the quanta on them.
use Rattle.std.proofs.Common.{◌≡◌, ℕ, ◌/◌, ◌%◌, ◌<◌, arith}
use Rattle.pf_board.specs.declared.quantum.Quantum.{Quantum}
use Rattle.pf_board.specs.Words.{FitsWord, word_of, quantum_at}

pub some_word : (q : Quantum) → FitsWord q → 0 < word_of q
some_word q fits = let t = fits.some_sub in omega arith

pub written_back : (processor n : ℕ) → word_of (quantum_at processor n) ≡ n
written_back processor n = omega arith

pub read_back : (q : Quantum) → FitsWord q → quantum_at q.processor (word_of q) ≡ q
read_back q fits =
    let a : word_of q / 34359738368 ≡ q.slot = let t = fits.task in let s = fits.sub in omega arith in
    let b : word_of q / 8388608 % 4096 ≡ q.task = let t = fits.task in let s = fits.sub in omega arith in
    let d : word_of q % 8388608 ≡ q.sub = let s = fits.sub in omega arith in
    λ i. record { slot = a i; processor = q.processor; task = b i; sub = d i }
