-- What the gate said to the workers.
use Rattle.std.proofs.Common.{◌≡◌, ℕ, zero, suc, ◌<◌, Bool, true, false, Option, None, Some, List, [], ◌∷◌, ◌++◌, length, refl, ap, sym, subst, ◌∙◌, arith, inl, inr}
use Rattle.std.specs.Prelude.{All, IfSome, slice_index_or, not, ◌||◌, ◌⊎◌}
use Rattle.std.specs.List.{list_any}
use Rattle.pf_lemmas.proofs.Lists.{at_any}
use Rattle.pf_board.specs.declared.quantum.Quantum.{Quantum}
use Rattle.pf_drill.specs.declared.worker.Worker.{Worker}
use Rattle.pf_drill.specs.declared.shift.Shift.{Shift}
use Rattle.pf_drill.specs.Gates.{Arrived, Arrives, HasTaken, IsToldOf, SomeArrived}
use Rattle.pf_drill.specs.Rounds.{Grabs}
use Rattle.pf_board.specs.Passes.{Passing}
use Rattle.pf_board.specs.Quanta.{times}
use Rattle.pf_board.proofs.Weights.{times_own}
use Rattle.pf_scenario.specs.System.{System}
use Rattle.pf_desk.specs.declared.entry.Entry.{Entry}

-- Use: all of two lists, one after the other.
pub all_append : {X : Type 0} (P : X → Type 0) (xs ys : List X) → All P xs → All P ys
    → (k : ℕ) (d : X) → k < length (xs ++ ys) → P (slice_index_or (xs ++ ys) k d)
all_append P [] ys of_xs of_ys k d lt = of_ys k d lt
all_append P (x ∷ xs) ys of_xs of_ys zero d lt = of_xs zero d (omega arith)
all_append P (x ∷ xs) ys of_xs of_ys (suc k) d lt =
    all_append P xs ys (λ n e less. of_xs (suc n) e (omega arith)) of_ys k d (omega arith)

-- Use: one more at the end.
pub all_snoc : {X : Type 0} (P : X → Type 0) (xs ys : List X) (x : X) → ys ≡ xs ++ x ∷ [] → All P xs → P x
    → (k : ℕ) (d : X) → k < length ys → P (slice_index_or ys k d)
all_snoc {X} P xs ys x is of_xs of_x k d lt =
    subst (λ (l : List X). P (slice_index_or l k d)) (sym is)
    (all_append P xs (x ∷ []) of_xs (λ j e less. let none : j ≡ 0 = omega arith in rw none of_x) k d (omega (arith, lt, ap length is)))

-- Use: the first, and the others.
pub first_all : {X : Type 0} (P : X → Type 0) (x : X) (xs all : List X) → all ≡ x ∷ xs → All P all → P x × All P xs
first_all {X} P x xs all is of =
    let these : All P (x ∷ xs) = subst (λ (l : List X). All P l) is of in
    (these zero x (omega arith), λ k d lt. these (suc k) d (omega arith))

of_not : (a b : Bool) → not a ≡ b → a ≡ not b
of_not true b e = ap not e
of_not false b e = ap not e

either : (a b : Bool) → (a || b) ≡ true → (a ≡ true) ⊎ (b ≡ true)
either true b e = inl refl
either false b e = inr e

-- Use: where the gate was shut to one of these, it was shut to one that arrived.
pub one_shut : (lets_in shuts_out : Worker → Quantum → Type 0) (ss : List Shift)
    → ((k : ℕ) (d : Shift) → k < length ss → IsToldOf lets_in shuts_out (slice_index_or ss k d)) → list_any (λ s. s.is_shut) ss ≡ true
    → SomeArrived shuts_out
one_shut lets_in shuts_out [] told some = absurd cc
one_shut lets_in shuts_out (s ∷ ss) told some = elim (either s.is_shut (list_any (λ x. x.is_shut) ss) some) [
  | inl here ↦ (told zero s (omega arith)).shut_out here
  | inr there ↦ one_shut lets_in shuts_out ss (λ n e less. told (suc n) e (omega arith)) there
]

-- Use: a quantum that stands in what a worker tells.
pub has_taken : (shifts : List Shift) (worker at : ℕ) (d : Shift) (taken : List Quantum) (q : Quantum) → worker < length shifts
    → taken ≡ (slice_index_or shifts worker d).taken.items → (at < length taken) × (slice_index_or taken at q ≡ q) → HasTaken shifts q
has_taken shifts worker at d taken q is_worker are stands = record {
  worker = worker;
  is_worker = is_worker;
  shift = slice_index_or shifts worker d;
  is_shift = at_any shifts worker (slice_index_or shifts worker d) d is_worker;
  at = at;
  is_at = omega (arith, stands.0, ap length are);
  quantum = ap (λ (l : List Quantum). slice_index_or l at q) (sym are) ∙ stands.1;
}

-- Use: the worker arrived with what it took.
pub arrived : (lets_in shuts_out : Worker → Quantum → Type 0) (v pass : Passing Entry System) (got : Option Quantum) (before shut answer : Bool) (q : Quantum)
    → got ≡ Some q → IfSome got (λ r. Grabs v r pass) → shut ≡ not answer
    → (answer ≡ true → lets_in (record { pass = pass; got = got; is_shut = before }) q) → (answer ≡ false → shuts_out (record { pass = pass; got = got; is_shut = before }) q)
    → Arrives lets_in shuts_out (record { pass = pass; got = got; is_shut = shut })
arrived lets_in shuts_out v pass None before shut answer q some grabs is if_open if_shut = absurd cc
arrived lets_in shuts_out v pass (Some r) before shut answer q some grabs is if_open if_shut =
    let same : r ≡ q = cc in
    let at_gate : Worker = record { pass = pass; got = Some r; is_shut = before } in
    let taken : times r pass.taken ≡ times r (v.taken ++ r ∷ []) = ap (λ p. times r p.taken) grabs.pass in
    let took : 0 < times r pass.taken = omega (arith, taken, times_own r v.taken) in
    let processor : pass.me ≡ r.processor = ap (λ p. p.me) grabs.pass ∙ sym grabs.processor in
    record {
      let_in = λ clear. record {
        worker = at_gate;
        processor = processor;
        took = took;
        answer = subst (λ (x : Quantum). lets_in at_gate x) (sym same) (if_open (of_not answer false (sym is ∙ clear)));
      };
      shut_out = λ shut_is. (
        r,
        record {
          worker = at_gate;
          processor = processor;
          took = took;
          answer = subst (λ (x : Quantum). shuts_out at_gate x) (sym same) (if_shut (of_not answer true (sym is ∙ shut_is)));
        },
      );
    }

-- and where it took nothing
pub arrived_not : (lets_in shuts_out : Worker → Quantum → Type 0) (pass : Passing Entry System) (got : Option Quantum) (shut : Bool) → got ≡ None → shut ≡ false
    → Arrives lets_in shuts_out (record { pass = pass; got = got; is_shut = shut })
arrived_not lets_in shuts_out pass None shut none clear = record { let_in = λ is. tt; shut_out = λ is. absurd cc }
arrived_not lets_in shuts_out pass (Some q) shut none clear = absurd cc
