-- What a closed board has left.
use Rattle.std.proofs.Common.{◌≡◌, ◌≢◌, ℕ, zero, suc, ◌+◌, ◌<◌, ◌≤◌, ◌==◌, Bool, true, false, List, [], ◌∷◌, ◌++◌, length, refl, sym, ap, subst, ◌∙◌, arith}
use Rattle.std.specs.Prelude.{if◌then◌else◌}
use mathlib.Core.List.{IsPrefix}
use mathlib.Core.Option.{some, some-injective}
use lib.ListN.{get_elem?}
use Rattle.pf_board.specs.declared.quantum.Quantum.{Quantum}
use Rattle.pf_board.specs.declared.hand.Hand.{Hand}
use Rattle.pf_board.specs.declared.view.View.{View}
use Rattle.pf_board.specs.declared.charter.Charter.{Charter}
use Rattle.pf_board.specs.Quanta.{total, one_if, is_same, weigh, times, issues, last_issues}
use Rattle.pf_board.specs.Words.{on_word, on_words, on_each_word, quantum_at}
use Rattle.pf_board.specs.Passes.{Passing, calls_by, all_taken}
use Rattle.pf_board.specs.Closed.{RisesFrom, hand_in, hands_in, together, Closes}
use Rattle.pf_board.specs.Kept.{hand_count, held, machine_of, Kept}
use Rattle.pf_board.proofs.Sums.{total_at, total_two}
use Rattle.pf_board.proofs.Weights.{weigh-append}

rises_less : (p m : ℕ) (qs : List Quantum) → RisesFrom (suc p) m qs → RisesFrom p m qs
rises_less p m [] r = tt
rises_less p m (q ∷ qs) r = (let a = r.0 in omega arith, r.1, r.2)

rises_word : (p m n : ℕ) (b : Bool) (qs : List Quantum) → p < m → RisesFrom (suc p) m qs → RisesFrom p m ((if b then [] else quantum_at p n ∷ []) ++ qs)
rises_word p m n true qs lt r = rises_less p m qs r
rises_word p m n false qs lt r = (omega arith, lt, r)

words_together : (p : ℕ) (cells : List ℕ) → together (on_each_word p cells) ≡ on_words p cells
words_together p [] = refl
words_together p (n ∷ cells) = ap (λ qs. on_word p n ++ qs) (words_together (suc p) cells)

-- the quanta on words stand by processor
words_rise : (p m : ℕ) (cells : List ℕ) → p + length cells ≡ m → RisesFrom p m (on_words p cells)
words_rise p m [] e = tt
words_rise p m (n ∷ cells) e = rises_word p m n (n == 0) (on_words (suc p) cells) (omega arith) (words_rise (suc p) m cells (omega arith))

total_only : {A : Type 0} (f : A → ℕ) (xs : List A) (k : ℕ) (v : A) → get_elem? xs k ≡ some v → ((j : ℕ) (u : A) → j ≢ k → get_elem? xs j ≡ some u → f u ≡ 0) → total f xs ≡ f v
total_only f [] k v e none = absurd (cc)
total_only {A} f (x ∷ xs) zero v e none = let same : x ≡ v = some-injective _ _ e in let g = ap f same in let t = total_none f xs (λ j u there. none (suc j) u (λ z. absurd (omega arith)) there) in omega arith where
  total_none : (f : A → ℕ) (xs : List A) → ((j : ℕ) (u : A) → get_elem? xs j ≡ some u → f u ≡ 0) → total f xs ≡ 0
  total_none f [] none = refl
  total_none f (x ∷ xs) none = let t = total_none f xs (λ j u there. none (suc j) u there) in let z = none zero x refl in omega arith
total_only f (x ∷ xs) (suc k) v e none = let t = total_only f xs k v e (λ j u apart there. none (suc j) u (λ z. apart (omega arith)) there) in let z = none zero x (λ y. absurd (omega arith)) refl in omega arith

module _ {E T : Type 0} where
  taken_in : (h : Quantum → ℕ) (ps : List (Passing E T)) → total (λ g. weigh h g.taken) (hands_in ps) ≡ weigh h (all_taken ps)
  taken_in h [] = refl
  taken_in h (p ∷ ps) = let t = taken_in h ps in let a = weigh-append h p.taken (all_taken ps) in omega arith

  count_in : (ps : List (Passing E T)) → total (λ g. 1) (hands_in ps) ≡ length ps
  count_in [] = refl
  count_in (p ∷ ps) = let t = count_in ps in omega arith

  hand_at : (ps : List (Passing E T)) (k : ℕ) (p : Passing E T) → get_elem? ps k ≡ some p → get_elem? (hands_in ps) k ≡ some (hand_in p)
  hand_at [] k p e = absurd (cc)
  hand_at (x ∷ ps) zero p e = ap (λ (y : Passing E T). some (hand_in y)) (some-injective _ _ e)
  hand_at (x ∷ ps) (suc k) p e = hand_at ps k p e

  -- a seat with no hand holds no quantum
  holds_none : (h : Quantum → ℕ) (v : View E T) → (v.named ≡ false → v.taken ≡ []) → hand_count v ≡ 0 → held h v ≡ 0
  holds_none h v idle none = by_name v.named refl where
    no_guests : (gs : List (Hand E)) → total (λ g. 1) gs ≡ 0 → total (λ g. weigh h g.taken) gs ≡ 0
    no_guests [] e = refl
    no_guests (g ∷ gs) e = absurd (omega arith)

    by_name : (b : Bool) → v.named ≡ b → held h v ≡ 0
    by_name true is = let a = ap one_if is in absurd (omega arith)
    by_name false is = let a = ap one_if is in let t = ap (weigh h) (idle is) in let g = no_guests v.guests (omega arith) in omega arith

  -- the keeper with these passes' hands, where nothing is left to issue
  pub record IsLast (ps : List (Passing E T)) (v : View E T) : Type 0 where
    pub unnamed : v.named ≡ false
    pub none : v.taken ≡ []
    pub on : v.turn ≡ true
    pub whole : v.whole ≡ v.seen
    pub left : v.left ≡ []
    pub guests : v.guests ≡ hands_in ps

module _ {E T : Type 0} (legal : T → List (ℕ × E) → Type 0) (quanta : E → List Quantum) (steps : E → Bool) (charter : Charter T) where
  pub closes : (words : List ℕ) (views : List (View E T)) (id : ℕ) (v : View E T) (ps : List (Passing E T)) → (k : Kept quanta steps legal charter words views) → get_elem? views id ≡ some v → IsLast ps v
      → Closes quanta steps (legal charter.terms.value) charter.processors charter.passes v.seen ps (on_words 0 k.core.cells)
  closes words views id v ps k at l =
      let f = k.fits id v at in
      let all = f.whole l.on in
      let log : k.core.log ≡ v.seen = sym all.whole ∙ l.whole in
      let left : k.core.left ≡ [] = sym all.left ∙ l.left in
      let cells = k.core.cells in
      let b = k.balances in
      let mine : (h : Quantum → ℕ) → held h v ≡ weigh h (all_taken ps) = λ h. let a = ap (weigh h) l.none in let g = ap (total (λ (x : Hand E). weigh h x.taken)) l.guests in let t = taken_in h ps in omega arith in
      let most : (q : Quantum) → times q (on_words 0 cells ++ all_taken ps) ≤ times q k.core.issued = λ q.
      let h : Quantum → ℕ = λ r. one_if (is_same q r) in
      let t = total_at (held h) views id v at in let m = mine h in let i = b.issued_are h in let a = weigh-append h (on_words 0 cells) (all_taken ps) in omega arith in
      let issues_is : (q : Quantum) → times q (issues quanta v.seen) ≡ times q k.core.issued = λ q. let i = b.issues_are (λ r. one_if (is_same q r)) in let e = ap (λ (x : List (ℕ × E)). times q (issues quanta x)) log in let z = ap (times q) left in omega arith in
      let count : hand_count v ≡ length ps = let a = ap one_if l.unnamed in let g = ap (total (λ (x : Hand E). 1)) l.guests in let t = count_in ps in omega arith in
      record {
        by_processor = words_rise 0 charter.processors cells (omega (arith, k.wide));
        of_last = λ q. let i = b.last (λ r. one_if (is_same q r)) in let e = ap (λ (x : List (ℕ × E)). times q (last_issues quanta steps x)) log in omega arith;
        once = λ q. let m = most q in let o = b.once q in omega arith;
        issued = λ q. let m = most q in let i = issues_is q in omega arith;
        all = λ every q.
            let h : Quantum → ℕ = λ r. one_if (is_same q r) in
            let others : (j : ℕ) (u : View E T) → j ≢ id → get_elem? views j ≡ some u → held h u ≡ 0 = λ j u apart there.
            let t = total_two hand_count views id j v u apart at there in let n = k.hands.all in let r = k.room in
            holds_none h u (k.fits j u there).idle (omega arith) in
            let only = total_only (held h) views id v at others in
            let m = mine h in let i = issues_is q in let e = b.issued_are h in let a = weigh-append h (on_words 0 cells) (all_taken ps) in
            omega arith;
        machine = record {
          state = machine_of k.core;
          issued = k.core.issued;
          reached = k.reached;
          history_is = log;
          left_is = words_together 0 cells;
          taken = λ i p there. (f.guests i (hand_in p) (ap (λ gs. get_elem? gs i) l.guests ∙ hand_at ps i p there)).2;
        };
        fronts = λ i p there.
            let g = f.guests i (hand_in p) (ap (λ gs. get_elem? gs i) l.guests ∙ hand_at ps i p there) in
            (subst (λ x. IsPrefix p.seen x) log g.0, g.1 ∙ ap (calls_by p.me) log);
      }
