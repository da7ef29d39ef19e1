-- The last slot in which a task ran.
use Rattle.std.proofs.Common.{◌≡◌, ℕ, zero, suc, ◌+◌, ◌<◌, ◌≤◌, true, false, Option, None, Some, List, refl, sym, ap, ◌∙◌, ⊎_elim, arith}
use Rattle.std.specs.Prelude.{nat_lt}
use Rattle.std.proofs.lemmas.Bool.{cases_lt, cond-true, cond-false, lt-ltb}
use Rattle.std.proofs.lemmas.Bool.Decides.{nat_tests}
use Rattle.pf_run.specs.Record.{Slot, done}
use Rattle.pf_tally.proofs.Delays.{done_rises}
use Rattle.pf_notes.specs.Grounds.{last_ran}
use Rattle.pf_notes.specs.Walk.{IsLast, ran_of}
use Rattle.pf_notes.specs.declared.quantum.Quantum.{Quantum}

none_ran : (r : List Slot) (task t : ℕ) → done r task t ≡ 0 → 0 ≡ last_ran r task t
none_ran r task zero none = refl
none_ran r task (suc t) none =
    let low : done r task t ≤ done r task (suc t) = done_rises r task t (suc t) (omega arith) in
    let stays : nat_lt (done r task t) (done r task (suc t)) ≡ false = grind (arith, nat_tests, low, none) in
    none_ran r task t (omega (arith, low, none)) ∙ sym (cond-false (nat_lt (done r task t) (done r task (suc t))) t (last_ran r task t) stays)

some_ran : (r : List Slot) (task t : ℕ) (q : Quantum) → IsLast r task t (Some q) → q.slot ≡ last_ran r task t
some_ran r task zero q last = absurd (omega (arith, last.0))
some_ran r task (suc t) q last = ⊎_elim
    (λ (below : q.slot < t).
    let low : done r task t ≤ done r task (suc t) = done_rises r task t (suc t) (omega arith) in
    let high : done r task (q.slot + 1) ≤ done r task t = done_rises r task (q.slot + 1) t (omega (arith, below)) in
    let same : done r task t ≡ q.sub = omega (arith, low, high, last.2, last.3) in
    let stays : nat_lt (done r task t) (done r task (suc t)) ≡ false = grind (arith, nat_tests, same, last.3) in
    some_ran r task t q (below, last.1, last.2, same) ∙ sym (cond-false (nat_lt (done r task t) (done r task (suc t))) t (last_ran r task t) stays))
    (λ (above : t ≤ q.slot).
    let is : q.slot ≡ t = omega (arith, above, last.0) in
    let before : done r task t + 1 ≡ q.sub = ap (λ u. done r task u + 1) (sym is) ∙ last.1 in
    let grows : nat_lt (done r task t) (done r task (suc t)) ≡ true = lt-ltb (done r task t) (done r task (suc t)) (omega (arith, before, last.3)) in
    is ∙ sym (cond-true (nat_lt (done r task t) (done r task (suc t))) t (last_ran r task t) grows))
    (cases_lt q.slot t)

-- Use: it is that of the last quantum.
pub ran_is : (r : List Slot) (task t : ℕ) (o : Option Quantum) → IsLast r task t o → ran_of o ≡ last_ran r task t
ran_is r task t None last = none_ran r task t last
ran_is r task t (Some q) last = some_ran r task t q last
