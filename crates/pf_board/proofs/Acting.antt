-- The shared machine goes along with the board's steps.
use Rattle.std.proofs.Common.{◌≡◌, ℕ, zero, suc, ◌+◌, ◌<◌, Bool, true, List, [], ◌∷◌, ◌++◌, length, refl, sym, ap, subst, ◌∙◌, arith, append_assoc}
use Rattle.std.specs.Prelude.{slice_index, slice_set, replicate}
use Rattle.std.proofs.lemmas.List.{append-nil}
use mathlib.Core.Option.{some}
use lib.ListN.{get_elem?}
use Rattle.pf_board.specs.declared.quantum.Quantum.{Quantum}
use Rattle.pf_board.specs.Quanta.{total, weigh, times, one_if, is_same, issues, is_step, last_issues}
use Rattle.pf_board.specs.Words.{quantum_at, on_word, on_words, on_each_word}
use Rattle.pf_board.specs.Machine.{Machine, Action, publish, enter, issue, take, times_in, opening, issued_by, IsIdle, Acts, Reaches, IsReached, IsConserved}
use Rattle.pf_board.specs.Kept.{Core, machine_of}
use Rattle.pf_board.proofs.Conserving.{first_then, quanta_conserved}
use Rattle.pf_board.proofs.Weights.{weigh-append, clear_words, full_word}

-- how often a quantum lies on the words
times_words : (q : Quantum) (b : ℕ) (cells : List ℕ) → times_in q (on_each_word b cells) ≡ times q (on_words b cells)
times_words q b [] = refl
times_words q b (n ∷ cells) = let t = times_words q (suc b) cells in let a = weigh-append (λ r. one_if (is_same q r)) (on_word b n) (on_words (suc b) cells) in omega arith

word_at : (b : ℕ) (cells : List ℕ) (p i : ℕ) → i ≡ b + p → p < length cells → get_elem? (on_each_word b cells) p ≡ some (on_word i (slice_index cells p))
word_at b [] p i e lt = absurd (omega (arith, lt))
word_at b (n ∷ cells) zero i e lt = let same : b ≡ i = omega arith in ap (λ (k : ℕ). some (on_word k n)) same
word_at b (n ∷ cells) (suc p) i e lt = word_at (suc b) cells p i (omega arith) (omega arith)

word_set : (b : ℕ) (cells : List ℕ) (p i n : ℕ) → i ≡ b + p → on_each_word b (slice_set cells p n) ≡ slice_set (on_each_word b cells) p (on_word i n)
word_set b [] p i n e = refl
word_set b (c ∷ cells) zero i n e = let same : b ≡ i = omega arith in ap (λ (k : ℕ). on_word k n ∷ on_each_word (suc b) cells) same
word_set b (c ∷ cells) (suc p) i n e = ap (λ ws. on_word b c ∷ ws) (word_set (suc b) cells p i n (omega arith))

pub empty_words : (b n : ℕ) → on_each_word b (replicate n 0) ≡ replicate n []
empty_words b zero = refl
empty_words b (suc n) = ap (λ ws. [] ∷ ws) (empty_words (suc b) n)

pub each_same : {A : Type 0} (n m : ℕ) (x : A) → m < n → get_elem? (replicate n x) m ≡ some x
each_same zero m x lt = absurd (omega arith)
each_same (suc n) zero x lt = refl
each_same (suc n) (suc m) x lt = each_same n m x (omega arith)

module _ {E : Type 0} where
  issued_more : (actions : List (Action E)) (a : Action E) → issued_by (actions ++ a ∷ []) ≡ issued_by actions ++ issued_by (a ∷ [])
  issued_more [] a = refl
  issued_more (b ∷ actions) a =
      sym (first_then b (actions ++ a ∷ []))
      ∙ (ap (λ l. issued_by (b ∷ []) ++ l) (issued_more actions a)
      ∙ (sym (append_assoc (issued_by (b ∷ [])) (issued_by actions) (issued_by (a ∷ []))) ∙ ap (λ l. l ++ issued_by (a ∷ [])) (first_then b actions)))

module _ {E : Type 0} (quanta : E → List Quantum) (steps : E → Bool) (legal : List (ℕ × E) → Type 0) where
  reach_more : (s : Machine E) (actions : List (Action E)) (t u : Machine E) (a : Action E) → Reaches quanta steps legal s actions t → Acts quanta steps legal t a u → Reaches quanta steps legal s (actions ++ a ∷ []) u
  reach_more s [] t u a e d = (u, subst (λ (x : Machine E). Acts quanta steps legal x a u) (sym e) d, refl)
  reach_more s (b ∷ actions) t u a r d = (r.0, r.1, reach_more r.0 actions t u a r.2 d)

  -- one action more
  acts : (m n : ℕ) (s t : Machine E) (issued : List Quantum) (a : Action E) → IsReached quanta steps legal m n s issued → Acts quanta steps legal s a t → IsReached quanta steps legal m n t (issued ++ issued_by (a ∷ []))
  acts m n s t issued a r d = record {
    actions = r.actions ++ a ∷ [];
    reaches = reach_more (opening m n) r.actions s t a r.reaches d;
    issues_them = issued_more r.actions a ∙ ap (λ l. l ++ issued_by (a ∷ [])) r.issues_them;
  }

  -- one that issues nothing
  acts_still : (m n : ℕ) (s t : Machine E) (issued : List Quantum) (a : Action E) → issued_by (a ∷ []) ≡ [] → IsReached quanta steps legal m n s issued → Acts quanta steps legal s a t → IsReached quanta steps legal m n t issued
  acts_still m n s t issued a none r d = subst (λ l. IsReached quanta steps legal m n t l) (ap (λ l. issued ++ l) none ∙ append-nil issued) (acts m n s t issued a r d)

  -- the quanta of a state that is reached are conserved
  pub conserved : (m n : ℕ) (s : Machine E) (issued : List Quantum) → IsReached quanta steps legal m n s issued → IsConserved quanta steps legal issued s
  conserved m n s issued r = subst (λ l. IsConserved quanta steps legal l s) r.issues_them ((quanta_conserved quanta steps legal).conserved m n r.actions s r.reaches)

  -- an entry is published and entered
  pub enters : (m n : ℕ) (c : Core E) (x : ℕ × E) → IsReached quanta steps legal m n (machine_of c) c.issued → ((h : Quantum → ℕ) → weigh h (issues quanta c.log) ≡ weigh h c.issued + weigh h c.left) → legal (c.log ++ x ∷ [])
      → (is_step quanta steps x.1 ≡ true → (c.left ≡ []) × ((p : ℕ) → p < length c.cells → slice_index c.cells p ≡ 0))
      → IsReached quanta steps legal m n (machine_of (record c { log = c.log ++ x ∷ []; left = c.left ++ quanta x.1 })) c.issued
  enters m n c x r all may clear =
      let s = machine_of c in
      let t : Machine E = record s { published = c.log ++ x ∷ [] } in
      let u : Machine E = record t { history = c.log ++ x ∷ [] } in
      let idle : is_step quanta steps x.1 ≡ true → IsIdle quanta steps s = λ step. let e = clear step in record {
        empty = λ q. times_words q 0 c.cells ∙ clear_words (λ r. one_if (is_same q r)) 0 c.cells e.1;
        all = λ q. let a = all (λ r. one_if (is_same q r)) in let l = ap (times q) e.0 in let i = (conserved m n s c.issued r).issued_are q in omega arith;
      } in
      acts_still m n t u c.issued enter refl (acts_still m n s t c.issued (publish x) refl r (refl, may, idle, refl)) (x, refl, refl)

  -- a quantum is issued
  pub issues_one : (m n : ℕ) (c : Core E) (q : Quantum) (x : ℕ) → IsReached quanta steps legal m n (machine_of c) c.issued → 0 < times q (last_issues quanta steps c.log) → times q c.issued ≡ 0
      → slice_index c.cells q.processor ≡ 0 → q.processor < length c.cells → 0 < x → quantum_at q.processor x ≡ q
      → IsReached quanta steps legal m n (machine_of (record c { cells = slice_set c.cells q.processor x; issued = c.issued ++ q ∷ []; left = Rattle.pf_board.specs.Quanta.quanta_without q c.left })) (c.issued ++ q ∷ [])
  issues_one m n c q x r last fresh none inside some_word is =
      let s = machine_of c in
      let p = q.processor in
      let i = (conserved m n s c.issued r).issued_are q in
      let after : on_each_word 0 (slice_set c.cells p x) ≡ slice_set (on_each_word 0 c.cells) p (q ∷ []) = word_set 0 c.cells p p x (omega arith) ∙ ap (slice_set (on_each_word 0 c.cells) p) (full_word p x some_word ∙ ap (λ r. r ∷ []) is) in
      acts m n s (record s { words = on_each_word 0 (slice_set c.cells p x) }) c.issued (issue q) r (
        last,
        sym i ∙ fresh,
        word_at 0 c.cells p p (omega arith) inside ∙ ap (λ (k : ℕ). some (on_word p k)) none,
        ap (λ (ws : List (List Quantum)). record s { words = ws }) after,
      )

  -- a pass takes a quantum
  pub takes_one : (m n : ℕ) (c : Core E) (p old me : ℕ) (before : List Quantum) → IsReached quanta steps legal m n (machine_of c) c.issued → slice_index c.cells p ≡ old → p < length c.cells → 0 < old → get_elem? c.taken me ≡ some before
      → IsReached quanta steps legal m n (machine_of (record c { cells = slice_set c.cells p 0; taken = slice_set c.taken me (before ++ quantum_at p old ∷ []) })) c.issued
  takes_one m n c p old me before r there inside some_word took =
      let s = machine_of c in
      let taken = slice_set c.taken me (before ++ quantum_at p old ∷ []) in
      acts_still m n s (record s { words = on_each_word 0 (slice_set c.cells p 0); taken = taken }) c.issued (take p me) refl r (
        quantum_at p old,
        before,
        word_at 0 c.cells p p (omega arith) inside ∙ (ap (λ (k : ℕ). some (on_word p k)) there ∙ ap some (full_word p old some_word)),
        took,
        ap (λ (ws : List (List Quantum)). record s { words = ws; taken = taken }) (word_set 0 c.cells p p 0 (omega arith)),
      )
