-- What a take leaves of a pass.
use Rattle.std.proofs.Common.{◌≡◌, ◌≢◌, ℕ, ◌+◌, ◌≤◌, ◌==◌, Bool, true, false, List, [], ◌∷◌, ◌++◌, length, refl, sym, ap, ◌∙◌, arith}
use Rattle.std.specs.Prelude.{MatchBool}
use Rattle.std.proofs.lemmas.Bool.Decides.{nat_tests}
use Rattle.atomic_table.specs.Seated.{TableId}
use Rattle.pf_board.specs.declared.view.View.{View}
use Rattle.pf_board.specs.declared.quantum.Quantum.{Quantum}
use Rattle.pf_board.specs.Passes.{Passing, IsFront}
use Rattle.pf_board.specs.Quanta.{times, issues}
use Rattle.pf_board.specs.Takes.{Grabs, Misses, Gets}
use Rattle.pf_board.specs.Told.{Taken, after_take}
use Rattle.pf_board.specs.Views.{passing}
use Rattle.pf_board.specs.Words.{word_of, quantum_at}
use Rattle.pf_board.proofs.Digits.{written_back}
use Rattle.pf_board.proofs.Weights.{times_own}

differs : (n word : ℕ) → (n == word) ≡ false → n ≢ word
differs n word is e = grind (arith, nat_tests)

equals : (n word : ℕ) → (n == word) ≡ true → n ≡ word
equals n word is = grind (arith, nat_tests)

module _ {E T : Type 0} where
  by_word : (i j : TableId) (old : Passing E T) (p word n : ℕ) (v w : View E T) (b : Bool) → (n == word) ≡ b → passing i v ≡ old → j ≡ i → w ≡ after_take b p word v n → (n ≡ word → times (quantum_at p word) v.taken ≡ 0)
      → MatchBool b (Grabs p word old (passing j w)) (Misses p word old (passing j w))
  by_word i j old p word n v w true is before here same fresh = record {
    fresh = ap (λ (o : Passing E T). times (quantum_at p word) o.taken) (sym before) ∙ fresh (equals n word is);
    pass = ap (passing j) same ∙ (ap (λ (k : TableId). record (passing k v) { taken = v.taken ++ quantum_at p word ∷ [] }) here ∙ ap (λ (o : Passing E T). record o { taken = o.taken ++ quantum_at p word ∷ [] }) before);
  }
  by_word i j old p word n v w false is before here same fresh = record {
    later = n;
    is_later = differs n word is;
    pass = ap (passing j) same ∙ (ap (λ (k : TableId). record (passing k v) { loads = v.loads ++ (1 + p, n) ∷ [] }) here ∙ ap (λ (o : Passing E T). record o { loads = o.loads ++ (1 + p, n) ∷ [] }) before);
  }

  -- an exchange, as contracts see it
  pub grabbed : (i j : TableId) (old : Passing E T) (p word n : ℕ) (v w : View E T) → passing i v ≡ old → j ≡ i → Taken p word v n w → MatchBool (n == word) (Grabs p word old (passing j w)) (Misses p word old (passing j w))
  grabbed i j old p word n v w before here made = by_word i j old p word n v w (n == word) refl before here made.same made.fresh

  -- a load, an exchange and a look together
  pub gets : (legal : T → List (ℕ × E) → Type 0) (quanta : E → List Quantum) (p bits n : ℕ) (q : Quantum) (v v1 v2 w : Passing E T) → v1 ≡ record v { loads = v.loads ++ (1 + p, bits) ∷ [] } → Grabs p bits v1 v2
      → w ≡ record v2 { seen = w.seen; loads = v2.loads ++ (0, n) ∷ [] } → n ≡ length w.seen → ((r : Quantum) → times r w.taken ≤ times r (issues quanta w.seen)) → IsFront legal w → bits ≢ 0 → q ≡ quantum_at p bits → Gets legal quanta p v q w
  gets legal quanta p bits n q v v1 v2 w peeked grab looked found issued front some is =
      let word : bits ≡ word_of q = sym (written_back p bits) ∙ ap word_of (sym is) in
      let fresh : times q v.taken ≡ 0 = ap (λ (r : Quantum). times r v.taken) is ∙ (ap (λ (o : Passing E T). times (quantum_at p bits) o.taken) (sym peeked) ∙ grab.fresh) in
      let whole : w ≡ record v { seen = w.seen; taken = v.taken ++ quantum_at p bits ∷ []; loads = (v.loads ++ (1 + p, bits) ∷ []) ++ (0, n) ∷ [] } =
      looked
      ∙ (ap (λ (x : Passing E T). record x { seen = w.seen; loads = x.loads ++ (0, n) ∷ [] }) grab.pass
      ∙ ap (λ (x : Passing E T). record x { seen = w.seen; taken = x.taken ++ quantum_at p bits ∷ []; loads = x.loads ++ (0, n) ∷ [] }) peeked) in
      let pass : w ≡ record v { seen = w.seen; taken = v.taken ++ q ∷ []; loads = (v.loads ++ (1 + p, word_of q) ∷ []) ++ (0, length w.seen) ∷ [] } = whole ∙ (λ i. record v { seen = w.seen; taken = v.taken ++ sym is i ∷ []; loads = (v.loads ++ (1 + p, word i) ∷ []) ++ (0, found i) ∷ [] }) in
      let taken = ap (λ (x : Passing E T). times q x.taken) pass in
      record {
        processor = ap (λ (r : Quantum). r.processor) is;
        issued = let t = times_own q v.taken in let m = issued q in omega arith;
        fresh = fresh;
        some_word = λ e. some (word ∙ e);
        front = front;
        pass = pass;
      }
