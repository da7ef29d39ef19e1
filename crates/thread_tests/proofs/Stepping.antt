-- What steps of one quantum leave of a history.
use Rattle.std.proofs.Common.{◌≡◌, ◌≢◌, ℕ, ◌+◌, ◌≤◌, List, [], ◌∷◌, ◌++◌, length, sym, ap, subst, arith, length-append}
use Rattle.std.proofs.lemmas.Grind.{common_steps}
use Rattle.std.proofs.lemmas.Bool.Decides.{nat_tests}
use Rattle.pf_board.specs.declared.quantum.Quantum.{Quantum}
use Rattle.pf_board.specs.Quanta.{one_if, is_same, times, issues}
use Rattle.pf_board.proofs.Weights.{weigh_push}
use Rattle.thread_tests.specs.declared.entry.Entry.{Entry}
use Rattle.thread_tests.specs.Entries.{quanta_of, step_of, race_quantum, IsFreshFrom}

-- its own quantum is left as often as the history issues it
pub issues_one : (q : Quantum) (log : List (ℕ × Entry)) (me : ℕ) → times q (issues quanta_of log) ≡ 0 → times q (issues quanta_of (log ++ (me, step_of q) ∷ [])) ≡ times q (q ∷ [])
issues_one q log me none = let p = weigh_push quanta_of (λ e. e.is_step) (λ r. one_if (is_same q r)) log (me, step_of q) in omega arith

others : (m n : ℕ) → m ≢ n → times (race_quantum m) (race_quantum n ∷ []) ≡ 0
others m n apart = grind (arith, common_steps, nat_tests)

-- the numbers after it are fresh still
pub fresh_next : (n : ℕ) (log : List (ℕ × Entry)) (me : ℕ) → IsFreshFrom n log → IsFreshFrom (n + 1) (log ++ (me, step_of (race_quantum n)) ∷ [])
fresh_next n log me fresh m le =
    let p = weigh_push quanta_of (λ e. e.is_step) (λ r. one_if (is_same (race_quantum m) r)) log (me, step_of (race_quantum n)) in
    let f = fresh m (omega arith) in
    let o = others m n (λ e. absurd (omega arith)) in
    omega arith

pub fresh_after : (n : ℕ) (log log' : List (ℕ × Entry)) (me : ℕ) → log' ≡ log ++ (me, step_of (race_quantum n)) ∷ [] → IsFreshFrom n log → IsFreshFrom (n + 1) log'
fresh_after n log log' me e fresh = subst (λ (l : List (ℕ × Entry)). IsFreshFrom (n + 1) l) (sym e) (fresh_next n log me fresh)

pub fresh_same : (n : ℕ) (log log' : List (ℕ × Entry)) → log' ≡ log → IsFreshFrom n log → IsFreshFrom n log'
fresh_same n log log' e fresh = subst (λ (l : List (ℕ × Entry)). IsFreshFrom n l) (sym e) fresh

pub longer_after : (n : ℕ) (log log' : List (ℕ × Entry)) (x : ℕ × Entry) → log' ≡ log ++ x ∷ [] → length log + 1 ≤ n → length log' + 1 ≤ n + 1
longer_after n log log' x e le = let l = ap length e in let a = length-append log (x ∷ []) in omega arith

pub longer_same : (n : ℕ) (log log' : List (ℕ × Entry)) → log' ≡ log → length log + 1 ≤ n → length log' + 1 ≤ n
longer_same n log log' e le = let l = ap length e in omega arith
