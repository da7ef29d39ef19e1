-- The turn goes from seat to seat, new passes are made, and the rule is kept.
use Rattle.std.proofs.Common.{◌≡◌, ◌≢◌, ℕ, ◌+◌, ◌<◌, ◌==◌, Bool, true, false, List, [], ◌∷◌, ◌++◌, length, set, refl, sym, ap, ◌∙◌, arith}
use Rattle.std.specs.Prelude.{if◌then◌else◌, replicate}
use Rattle.std.proofs.lemmas.List.{length-replicate}
use mathlib.Core.Option.{some}
use lib.ListN.{get_elem?}
use Rattle.atomic_table.specs.Table.{State, Splits, Joins}
use Rattle.pf_board.specs.declared.quantum.Quantum.{Quantum}
use Rattle.pf_board.specs.declared.view.View.{View}
use Rattle.pf_board.specs.declared.charter.Charter.{Charter}
use Rattle.pf_board.specs.Quanta.{total, weigh, one_if}
use Rattle.pf_board.specs.Passes.{calls_by}
use Rattle.pf_board.specs.Views.{spent, opening, made_pass, maker, without_turn, turn_of, with_turn}
use Rattle.pf_board.specs.Kept.{one_below, hands_of, hand_count, held, Core, machine_of, Fits, IsOneEach, Kept}
use Rattle.pf_board.proofs.Acting.{empty_words, each_same}
use Rattle.pf_board.proofs.Weights.{none_on_words}
use Rattle.pf_board.proofs.Sums.{set_all, snoc_all, before_set, total_set, total_snoc, one_below_next, none_below}
use Rattle.pf_board.proofs.Seats.{off, HasHands, hands_set, hands_snoc, spent_fits}

module _ {E T : Type 0} (legal : T → List (ℕ × E) → Type 0) (quanta : E → List Quantum) (steps : E → Bool) (charter : Charter T) where
  abbrev Holds : State (Unit {0}) (View E T) → Type 0
  Holds s = Kept quanta steps legal charter s.words s.views

  -- a seat that hasn't the turn fits whoever has it
  turned : (c : Core E) (n j : ℕ) (u : View E T) → (u.turn ≡ true → ⊥) → Fits charter.terms.value c j u → Fits charter.terms.value (record c { turn = n }) j u
  turned c n j u none g = record { of_terms = g.of_terms; seen = g.seen; mine = g.mine; took = g.took; idle = g.idle; guests = g.guests; whole = λ on. absurd (none on) }

  pub turns_off : (id : ℕ) (v : View E T) → v.turn ≡ true → Splits Holds id v (without_turn v) (turn_of v)
  turns_off id v on s k at =
      let f = k.fits id v at in
      let all = f.whole on in
      let xs = set s.views id (without_turn v) in
      let core : Core E = record k.core { turn = length xs } in
      let F : ℕ → View E T → Type 0 = Fits charter.terms.value core in
      let others : (j : ℕ) (u : View E T) → j ≢ id → get_elem? s.views j ≡ some u → F j u = λ j u apart there.
      let g = k.fits j u there in turned k.core (length xs) j u (λ is_on. apart (sym (g.whole is_on).here ∙ all.here)) g in
      let mine : F id (without_turn v) = record { of_terms = f.of_terms; seen = f.seen; mine = f.mine; took = f.took; idle = f.idle; guests = f.guests; whole = λ is_on. absurd (off is_on) } in
      let new : F (length xs) (turn_of v) = record { of_terms = f.of_terms; seen = (k.core.log, refl); mine = λ named. absurd (off named); took = λ named. absurd (off named); idle = λ _. refl; guests = λ i g e. absurd (cc); whole = λ _. record { here = refl; whole = all.whole; next = all.next; empty = all.empty; issued = all.issued; left = all.left } } in record {
        core = core;
        words_are = k.words_are;
        wide = k.wide;
        legal_log = k.legal_log;
        fits = snoc_all F xs (turn_of v) (set_all F s.views id (without_turn v) others mine) new;
        hands = hands_snoc k.core.next xs (turn_of v) (λ m. refl) refl (hands_set k.core.next s.views id v (without_turn v) at (record { each = λ m. refl; all = refl }) k.hands);
        room = k.room;
        unmade = k.unmade;
        reached = k.reached;
        balances = record {
          issues_are = k.balances.issues_are;
          issued_are = λ h. let t = total_set (held h) s.views id v (without_turn v) at in let u = total_snoc (held h) xs (turn_of v) in let b = k.balances.issued_are h in omega arith;
          once = k.balances.once;
          last = k.balances.last;
        };
      }

  -- the turn goes to another seat
  pub turns_on : (id : ℕ) (v : View E T) (other : ℕ) (w : View E T) → w.turn ≡ true → w.named ≡ false → w.guests ≡ [] → w.taken ≡ [] → Joins Holds id v other w (with_turn v w) spent
  turns_on id v other w on unnamed no_guests none s k at apart there =
      let both = with_turn v w in
      let theirs = before_set s.views id other both w apart there in
      let f = k.fits id v at in
      let h = k.fits other w theirs in
      let all = h.whole on in
      let core : Core E = record k.core { turn = id } in
      let F : ℕ → View E T → Type 0 = Fits charter.terms.value core in
      let mine : F id both = record { of_terms = f.of_terms; seen = f.seen; mine = f.mine; took = f.took; idle = f.idle; guests = f.guests; whole = λ _. record { here = refl; whole = all.whole; next = all.next; empty = all.empty; issued = all.issued; left = all.left } } in
      let rest : (j : ℕ) (u : View E T) → j ≢ other → get_elem? (set s.views id both) j ≡ some u → F j u = λ j u far e.
      set_all (λ i x. i ≢ other → F i x) s.views id both
      (λ i x away there'. λ far'.
      let g = k.fits i x there' in turned k.core id i x (λ is_on. far' (sym (g.whole is_on).here ∙ all.here)) g)
      (λ _. mine) j u e far in
      let empty_hands : HasHands w spent = record {
        each = λ m. let a = ap (λ (b : Bool). (if b then one_if (w.me == m) else 0)) unnamed in let b = ap (total (λ g. one_if (g.me == m))) no_guests in omega arith;
        all = let a = ap one_if unnamed in let b = ap (total (λ g. 1)) no_guests in omega arith;
      } in record {
        core = core;
        words_are = k.words_are;
        wide = k.wide;
        legal_log = k.legal_log;
        fits = set_all F (set s.views id both) other spent rest (spent_fits charter.terms.value core other);
        hands = hands_set k.core.next (set s.views id both) other w spent there empty_hands (hands_set k.core.next s.views id v both at (record { each = λ m. refl; all = refl }) k.hands);
        room = k.room;
        unmade = k.unmade;
        reached = k.reached;
        balances = record {
          issues_are = k.balances.issues_are;
          issued_are = λ h. let t = total_set (held h) s.views id v both at in let u = total_set (held h) (set s.views id both) other w spent there in let a = ap (weigh h) none in let c = ap (total (λ g. weigh h g.taken)) no_guests in let b = k.balances.issued_are h in omega arith;
          once = k.balances.once;
          last = k.balances.last;
        };
      }

  -- the seat with the turn makes a pass, while the history is empty
  pub makes_pass : (id : ℕ) (v : View E T) → v.turn ≡ true → v.whole ≡ [] → v.next < charter.passes → Splits Holds id v (maker v) (made_pass v)
  makes_pass id v on none room s k at =
      let f = k.fits id v at in
      let all = f.whole on in
      let xs = set s.views id (maker v) in
      let core : Core E = record k.core { next = v.next + 1 } in
      let F : ℕ → View E T → Type 0 = Fits charter.terms.value core in
      let empty : k.core.log ≡ [] = sym all.whole ∙ none in
      let others : (j : ℕ) (u : View E T) → j ≢ id → get_elem? s.views j ≡ some u → F j u = λ j u apart there.
      let g = k.fits j u there in
      record { of_terms = g.of_terms; seen = g.seen; mine = g.mine; took = g.took; idle = g.idle; guests = g.guests; whole = λ is_on. absurd (apart (sym (g.whole is_on).here ∙ all.here)) } in
      let mine : F id (maker v) = record { of_terms = f.of_terms; seen = f.seen; mine = f.mine; took = f.took; idle = f.idle; guests = f.guests; whole = λ _. record { here = all.here; whole = all.whole; next = refl; empty = all.empty; issued = all.issued; left = all.left } } in
      let new : F (length xs) (made_pass v) = record { of_terms = f.of_terms; seen = (k.core.log, refl); mine = λ _. ap (calls_by v.next) (sym empty); took = λ _. k.unmade v.next (omega (arith, all.next)) room; idle = λ _. refl; guests = λ i g e. absurd (cc); whole = λ is_on. absurd (off is_on) } in
      let more : IsOneEach (v.next + 1) (xs ++ made_pass v ∷ []) = record {
        each = λ m. let t = total_set (hands_of m) s.views id v (maker v) at in let u = total_snoc (hands_of m) xs (made_pass v) in let o = k.hands.each m in let n = one_below_next v.next m in let same = ap (λ n. one_below n m) all.next in omega arith;
        all = let t = total_set hand_count s.views id v (maker v) at in let u = total_snoc hand_count xs (made_pass v) in let o = k.hands.all in let n = all.next in omega arith;
      } in record {
        core = core;
        words_are = k.words_are;
        wide = k.wide;
        legal_log = k.legal_log;
        fits = snoc_all F xs (made_pass v) (set_all F s.views id (maker v) others mine) new;
        hands = more;
        room = omega (arith, room);
        unmade = λ m le lt. k.unmade m (omega (arith, le, all.next)) lt;
        reached = k.reached;
        balances = record {
          issues_are = k.balances.issues_are;
          issued_are = λ h. let t = total_set (held h) s.views id v (maker v) at in let u = total_snoc (held h) xs (made_pass v) in let b = k.balances.issued_are h in omega arith;
          once = k.balances.once;
          last = k.balances.last;
        };
      }

  pub begins : legal charter.terms.value [] → Kept quanta steps legal charter (0 ∷ replicate charter.processors 0) (opening charter ∷ [])
  begins may =
      let cells : List ℕ = replicate charter.processors 0 in
      let core : Core E = record { log = []; cells = cells; taken = replicate charter.passes []; issued = []; left = []; turn = 0; next = 0 } in record {
        core = core;
        words_are = refl;
        wide = length-replicate charter.processors 0;
        legal_log = may;
        fits = snoc_all (Fits charter.terms.value core) [] (opening charter) (λ j u e. absurd (cc)) (record {
          of_terms = λ t e. cc;
          seen = ([], refl);
          mine = λ named. absurd (off named);
          took = λ named. absurd (off named);
          idle = λ _. refl;
          guests = λ i g e. absurd (cc);
          whole = λ _. record { here = refl; whole = refl; next = refl; empty = λ p e. absurd (cc (e.1)); issued = refl; left = refl };
        });
        hands = record { each = λ m. sym (none_below m); all = refl };
        room = omega arith;
        unmade = λ m _ lt. each_same charter.passes m [] lt;
        reached = record { actions = []; reaches = ap (λ (ws : List (List Quantum)). record (machine_of core) { words = ws }) (sym (empty_words 0 charter.processors)); issues_them = refl };
        balances = record { issues_are = λ h. refl; issued_are = λ h. let n = none_on_words h 0 charter.processors in omega arith; once = λ q. omega arith; last = λ h. let n = none_on_words h 0 charter.processors in omega arith };
      }
