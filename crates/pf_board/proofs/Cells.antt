-- Steps on processors' words keep the rule.
use Rattle.std.proofs.Common.{◌≡◌, ◌≢◌, ℕ, zero, suc, ◌+◌, ◌<◌, ◌==◌, Bool, true, false, true≢false, List, [], ◌∷◌, ◌++◌, length, refl, sym, ap, subst, ◌∙◌, ⊎_elim, arith}
use Rattle.std.specs.Prelude.{slice_index, slice_set, if◌then◌else◌}
use Rattle.std.proofs.lemmas.Grind.{common_steps}
use Rattle.std.proofs.lemmas.Bool.Decides.{nat_tests}
use mathlib.Core.List.{IsPrefix}
use mathlib.Core.Option.{some, some-injective}
use prog.Atomic.{either}
use lib.ListN.{get_elem?}
use Rattle.atomic_table.specs.Table.{State, keeps, Allows}
use Rattle.pf_board.specs.declared.quantum.Quantum.{Quantum}
use Rattle.pf_board.specs.declared.hand.Hand.{Hand}
use Rattle.pf_board.specs.declared.view.View.{View}
use Rattle.pf_board.specs.declared.charter.Charter.{Charter}
use Rattle.pf_board.specs.Quanta.{total, weigh, times, one_if, is_same, issues, quanta_without}
use Rattle.pf_board.specs.Words.{quantum_at, on_word, on_words}
use Rattle.pf_board.specs.Passes.{IsIn, but, calls_by}
use Rattle.pf_board.specs.Kept.{held, AreEmpty, Core, Fits, Balances, Kept}
use Rattle.pf_board.specs.Told.{Peeked, Checked, Put, Taken, after_take}
use Rattle.pf_board.proofs.Sums.{set_all, set_at, at_end, total_set, total_at}
use Rattle.atomic_table.proofs.Lists.{set_else}
use Rattle.pf_board.proofs.Weights.{weigh_snoc, weigh_without, times_own, once_snoc, on_words_set, full_word}
use Rattle.pf_board.proofs.Acting.{issues_one, takes_one}
use Rattle.pf_board.proofs.Seats.{set_own, hands_set, quiet, no_other, no_guest, differs, guest_differs, number_below}

word_at : (words : List ℕ) (l : ℕ) (cells : List ℕ) (p : ℕ) → words ≡ l ∷ cells → slice_index words (p + 1) ≡ slice_index cells p
word_at words l cells p e = let n : p + 1 ≡ suc p = omega arith in ap (λ ws. slice_index ws (p + 1)) e ∙ ap (λ k. slice_index (l ∷ cells) k) n

word_set : (words : List ℕ) (l : ℕ) (cells : List ℕ) (p n : ℕ) → words ≡ l ∷ cells → slice_set words (p + 1) n ≡ l ∷ slice_set cells p n
word_set words l cells p n e = let m : p + 1 ≡ suc p = omega arith in ap (λ ws. slice_set ws (p + 1) n) e ∙ ap (λ k. slice_set (l ∷ cells) k n) m

cleared : (cells : List ℕ) (p x : ℕ) → slice_index cells x ≡ 0 → slice_index (slice_set cells p 0) x ≡ 0
cleared [] p x e = e
cleared (c ∷ cells) zero zero e = refl
cleared (c ∷ cells) zero (suc x) e = e
cleared (c ∷ cells) (suc p) zero e = e
cleared (c ∷ cells) (suc p) (suc x) e = cleared cells p x e

untouched : (cells : List ℕ) (p x n : ℕ) → x ≢ p → slice_index (slice_set cells p n) x ≡ slice_index cells x
untouched [] p x n apart = refl
untouched (c ∷ cells) zero zero n apart = absurd (apart refl)
untouched (c ∷ cells) zero (suc x) n apart = refl
untouched (c ∷ cells) (suc p) zero n apart = refl
untouched (c ∷ cells) (suc p) (suc x) n apart = untouched cells p x n (λ e. apart (ap suc e))

within : (cells : List ℕ) (p : ℕ) → 0 < slice_index cells p → p < length cells
within [] p lt = absurd (omega (arith, lt))
within (c ∷ cells) zero lt = omega arith
within (c ∷ cells) (suc p) lt = let r = within cells p lt in omega arith

length_set : (cells : List ℕ) (p n : ℕ) → length (slice_set cells p n) ≡ length cells
length_set [] p n = refl
length_set (c ∷ cells) zero n = refl
length_set (c ∷ cells) (suc p) n = ap suc (length_set cells p n)

same_test : (a b : ℕ) → a ≡ b → (a == b) ≡ true
same_test a b e = grind (arith, common_steps)

but_step : (p y : ℕ) (ys : List ℕ) (b : Bool) → (y == p) ≡ b → ((x : ℕ) → IsIn (but p ys) x → (x ≢ p) × IsIn ys x) → (x : ℕ) → IsIn (if b then but p ys else y ∷ but p ys) x → (x ≢ p) × IsIn (y ∷ ys) x
but_step p y ys true is rec x there = let r = rec x there in (r.0, (suc r.1.0, r.1.1))
but_step p y ys false is rec x there = by_place there.0 there.1 where
  by_place : (k : ℕ) → get_elem? (y ∷ but p ys) k ≡ some x → (x ≢ p) × IsIn (y ∷ ys) x
  by_place zero e =
      let same : y ≡ x = some-injective _ _ e in
      ((λ s. true≢false (sym (same_test y p (same ∙ s)) ∙ is)), (zero, e))
  by_place (suc k) e = let r = rec x (k, e) in (r.0, (suc r.1.0, r.1.1))

-- what is in the list but for p is no p, and was in it
in_but : (p : ℕ) (xs : List ℕ) (x : ℕ) → IsIn (but p xs) x → (x ≢ p) × IsIn xs x
in_but p [] x there = absurd (cc (there.1))
in_but p (y ∷ ys) x there = but_step p y ys (y == p) refl (in_but p ys) x there

known_empty : (cells xs : List ℕ) (n p : ℕ) (b : Bool) → (n == 0) ≡ b → slice_index cells p ≡ n → AreEmpty cells xs → AreEmpty cells (if b then xs ++ p ∷ [] else xs)
known_empty cells xs n p false is at all x there = all x there
known_empty cells xs n p true is at all x there =
    ⊎_elim
    (λ (e : get_elem? xs there.0 ≡ some x). all x (there.0, e))
    (λ (t : (there.0 ≡ length xs) × (p ≡ x)). let zero_is : n ≡ 0 = grind (arith, nat_tests) in ap (slice_index cells) (sym t.1) ∙ (at ∙ zero_is))
    (at_end xs p x there.0 there.1)

module _ {E T : Type 0} (legal : T → List (ℕ × E) → Type 0) (quanta : E → List Quantum) (steps : E → Bool) (charter : Charter T) where
  abbrev Holds : State (Unit {0}) (View E T) → Type 0
  Holds s = Kept quanta steps legal charter s.words s.views

  -- a pass loads a processor's word
  pub peeks : (slots id p : ℕ) (me : View E T × List (ℕ × Unit {0})) → Allows Holds slots id me (p + 1) (λ n. n) (λ n m'. ((p' : ℕ) → p + 1 ≡ p' + 1 → Peeked p' me.0 n m'.0) × (m'.1 ≡ me.1))
  peeks slots id p me s k sized at fits =
      let v = me.0 in
      let f = k.fits id v at in
      let n = slice_index s.words (p + 1) in
      let w : View E T = record v { loads = v.loads ++ (1 + p, n) ∷ [] } in
      let mine : Fits charter.terms.value k.core id w = record { of_terms = f.of_terms; seen = f.seen; mine = f.mine; took = f.took; idle = f.idle; guests = f.guests; whole = λ on. let x = f.whole on in record { here = x.here; whole = x.whole; next = x.next; empty = x.empty; issued = x.issued; left = x.left } } in (
        w,
        keeps,
        tt,
        quiet legal quanta steps charter s.words (slice_set s.words (p + 1) n) s.views id v w k at (record { each = λ m. refl; all = refl }) (λ h. refl) mine (set_own s.words (p + 1)),
        (λ p' e. let same : p ≡ p' = omega arith in subst (λ (i : ℕ). Peeked i v n w) same (record { same = refl }), refl),
      )

  -- the keeper does
  pub checks : (slots id p : ℕ) (me : View E T × List (ℕ × Unit {0})) → Allows Holds slots id me (p + 1) (λ n. n) (λ n m'. ((p' : ℕ) → p + 1 ≡ p' + 1 → Checked p' me.0 n m'.0) × (m'.1 ≡ me.1))
  checks slots id p me s k sized at fits =
      let v = me.0 in
      let f = k.fits id v at in
      let n = slice_index s.words (p + 1) in
      let there : slice_index k.core.cells p ≡ n = sym (word_at s.words (length k.core.log) k.core.cells p k.words_are) in
      let w : View E T = record v { loads = v.loads ++ (1 + p, n) ∷ []; empty = if n == 0 then v.empty ++ p ∷ [] else v.empty } in
      let mine : Fits charter.terms.value k.core id w = record { of_terms = f.of_terms; seen = f.seen; mine = f.mine; took = f.took; idle = f.idle; guests = f.guests; whole = λ on. let x = f.whole on in record { here = x.here; whole = x.whole; next = x.next; empty = known_empty k.core.cells v.empty n p (n == 0) refl there x.empty; issued = x.issued; left = x.left } } in (
        w,
        keeps,
        tt,
        quiet legal quanta steps charter s.words (slice_set s.words (p + 1) n) s.views id v w k at (record { each = λ m. refl; all = refl }) (λ h. refl) mine (set_own s.words (p + 1)),
        (λ p' e. let same : p ≡ p' = omega arith in subst (λ (i : ℕ). Checked i v n w) same (record { same = refl }), refl),
      )

  -- the balance after a quantum was put onto its empty word
  put_balance : (c : Core E) (views : List (View E T)) (q : Quantum) (x : ℕ) → slice_index c.cells q.processor ≡ 0 → q.processor < length c.cells → 0 < x → quantum_at q.processor x ≡ q → 0 < times q c.left → times q c.issued ≡ 0 → Balances quanta steps c views
      → Balances quanta steps (record c { cells = slice_set c.cells q.processor x; issued = c.issued ++ q ∷ []; left = quanta_without q c.left }) views
  put_balance c views q x none inside some_word is there fresh b =
      let p = q.processor in
      let moved : (h : Quantum → ℕ) → weigh h (on_words 0 (slice_set c.cells p x)) ≡ weigh h (on_words 0 c.cells) + h q = λ h.
      let a = on_words_set h 0 c.cells p p x (omega arith) inside in
      let before = ap (λ (m : ℕ). weigh h (on_word p m)) none in
      let after = ap (weigh h) (full_word p x some_word) in
      let same = ap h is in
      omega arith in record {
        issues_are = λ h. let e = b.issues_are h in let l = weigh_without h q c.left there in let i = weigh_snoc h c.issued q in omega arith;
        issued_are = λ h. let e = b.issued_are h in let m = moved h in let i = weigh_snoc h c.issued q in omega arith;
        once = once_snoc q c.issued fresh b.once;
        last = λ h. let e = b.last h in let m = moved h in let l = weigh_without h q c.left there in omega arith;
      }

  -- the seat with the turn puts a quantum that is left to issue onto its empty word
  pub puts : (slots id : ℕ) (q : Quantum) (x : ℕ) (me : View E T × List (ℕ × Unit {0})) → me.0.turn ≡ true → 0 < times q me.0.left → times q (issues quanta me.0.whole) ≡ times q me.0.left → IsIn me.0.empty q.processor
      → q.processor < charter.processors → 0 < x → quantum_at q.processor x ≡ q
      → Allows Holds slots id me (q.processor + 1) (λ _. x) (λ _ m'. ((p : ℕ) → q.processor + 1 ≡ p + 1 → Put (quantum_at p x) me.0 m'.0) × (m'.1 ≡ me.1))
  puts slots id q x me on there all_left free below some_word is s k sized at fits =
      let v = me.0 in
      let p = q.processor in
      let f = k.fits id v at in
      let all = f.whole on in
      let none : slice_index k.core.cells p ≡ 0 = all.empty p free in
      let core : Core E = record k.core { cells = slice_set k.core.cells p x; issued = k.core.issued ++ q ∷ []; left = quanta_without q k.core.left } in
      let w : View E T = record v { left = quanta_without q v.left; issued = v.issued ++ q ∷ []; empty = but p v.empty } in
      let left_is = ap (times q) all.left in
      let whole_is = ap (λ (l : List (ℕ × E)). times q (issues quanta l)) all.whole in
      let fresh : times q k.core.issued ≡ 0 = let e = k.balances.issues_are (λ r. one_if (is_same q r)) in omega arith in
      let mine : Fits charter.terms.value core id w = record {
        of_terms = f.of_terms;
        seen = f.seen;
        mine = f.mine;
        took = f.took;
        idle = f.idle;
        guests = f.guests;
        whole = λ _. record {
          here = all.here;
          whole = all.whole;
          next = all.next;
          empty = λ y in_it. let r = in_but p v.empty y in_it in untouched k.core.cells p y x r.0 ∙ all.empty y r.1;
          issued = ap (λ l. l ++ q ∷ []) all.issued;
          left = ap (quanta_without q) all.left;
        };
      } in
      let others : (i : ℕ) (u : View E T) → i ≢ id → get_elem? s.views i ≡ some u → Fits charter.terms.value core i u = λ i u apart e.
      let g = k.fits i u e in
      record { of_terms = g.of_terms; seen = g.seen; mine = g.mine; took = g.took; idle = g.idle; guests = g.guests; whole = λ is_on. absurd (apart (sym (g.whole is_on).here ∙ all.here)) } in (
        w,
        keeps,
        tt,
        record {
          core = core;
          words_are = word_set s.words (length k.core.log) k.core.cells p x k.words_are;
          wide = length_set k.core.cells p x ∙ k.wide;
          legal_log = k.legal_log;
          fits = set_all (Fits charter.terms.value core) s.views id w others mine;
          hands = hands_set k.core.next s.views id v w at (record { each = λ m. refl; all = refl }) k.hands;
          room = k.room;
          unmade = k.unmade;
          reached = issues_one quanta steps (legal charter.terms.value) charter.processors charter.passes k.core q x k.reached (let l = k.balances.last (λ r. one_if (is_same q r)) in omega arith) fresh none (omega (arith, k.wide, below)) some_word is;
          balances =
              let b = put_balance k.core s.views q x none (omega (arith, k.wide, below)) some_word is (omega arith) fresh k.balances in record {
                issues_are = b.issues_are;
                issued_are = λ h. let t = total_set (held h) s.views id v w at in let e = b.issued_are h in omega arith;
                once = b.once;
                last = b.last;
              };
        },
        (λ p' e. let same : p ≡ p' = omega arith in subst (λ (r : Quantum). Put r v w) (sym is ∙ ap (λ (i : ℕ). quantum_at i x) same) (record { same = refl }), refl),
      )

  -- the word holds what was expected, and its quantum is taken
  takes_own : (id p old : ℕ) (v : View E T) (s : State (Unit {0}) (View E T)) (k : Holds s) → v.named ≡ true → 0 < old → get_elem? s.views id ≡ some v → slice_index s.words (p + 1) ≡ old
      → Kept quanta steps legal charter (slice_set s.words (p + 1) 0) (slice_set s.views id (after_take true p old v 0)) × (times (quantum_at p old) v.taken ≡ 0)
  takes_own id p old v s k named some_word at found =
      let f = k.fits id v at in
      let q = quantum_at p old in
      let there : slice_index k.core.cells p ≡ old = sym (word_at s.words (length k.core.log) k.core.cells p k.words_are) ∙ found in
      let inside : p < length k.core.cells = within k.core.cells p (rw there some_word) in
      let took = f.took named in
      let core : Core E = record k.core { cells = slice_set k.core.cells p 0; taken = slice_set k.core.taken v.me (v.taken ++ q ∷ []) } in
      let w : View E T = record v { taken = v.taken ++ q ∷ [] } in
      let theirs : (m : ℕ) → m ≢ v.me → get_elem? core.taken m ≡ get_elem? k.core.taken m = λ m apart. set_else k.core.taken v.me m (v.taken ++ q ∷ []) apart in
      let guests : (u : View E T) → total (λ y. one_if (y.me == v.me)) u.guests ≡ 0 → (j : ℕ) → Fits charter.terms.value k.core j u → (i : ℕ) (y : Hand E) → get_elem? u.guests i ≡ some y → IsPrefix y.seen core.log × (y.mine ≡ calls_by y.me core.log) × (get_elem? core.taken y.me ≡ some y.taken) = λ u none j g i y e.
      let z = g.guests i y e in (z.0, z.1, theirs y.me (λ s. guest_differs v.me u.guests i y e none (sym s)) ∙ z.2) in
      let still : (j : ℕ) (u : View E T) → j ≢ id → get_elem? s.views j ≡ some u → Fits charter.terms.value core j u = λ j u apart e.
      let g = k.fits j u e in
      let none = no_other s.views k.core.next id j v u named k.hands apart at e in record {
        of_terms = g.of_terms;
        seen = g.seen;
        mine = g.mine;
        took = λ is_named. theirs u.me (λ s. differs v.me u is_named none (sym s)) ∙ g.took is_named;
        idle = g.idle;
        guests = guests u (omega arith) j g;
        whole = λ on. let x = g.whole on in record { here = x.here; whole = x.whole; next = x.next; empty = λ y e. cleared k.core.cells p y (x.empty y e); issued = x.issued; left = x.left };
      } in
      let mine : Fits charter.terms.value core id w = record {
        of_terms = f.of_terms;
        seen = f.seen;
        mine = f.mine;
        took = λ _. set_at k.core.taken v.me v.taken (v.taken ++ q ∷ []) took;
        idle = λ unnamed. absurd (true≢false (sym named ∙ unnamed));
        guests = guests v (no_guest s.views k.core.next id v named k.hands at) id f;
        whole = λ on. let x = f.whole on in record { here = x.here; whole = x.whole; next = x.next; empty = λ y e. cleared k.core.cells p y (x.empty y e); issued = x.issued; left = x.left };
      } in
      let moved : (h : Quantum → ℕ) → weigh h (on_words 0 core.cells) + h q ≡ weigh h (on_words 0 k.core.cells) = λ h.
      let a = on_words_set h 0 k.core.cells p p 0 (omega arith) inside in
      let before = ap (λ (m : ℕ). weigh h (on_word p m)) there in
      let full = ap (weigh h) (full_word p old some_word) in
      omega arith in
      let balances : Balances quanta steps core (slice_set s.views id w) = record {
        issues_are = k.balances.issues_are;
        issued_are = λ h. let t = total_set (held h) s.views id v w at in let e = k.balances.issued_are h in let m = moved h in let l = weigh_snoc h v.taken q in omega arith;
        once = k.balances.once;
        last = λ h. let e = k.balances.last h in let m = moved h in omega arith;
      } in
      let one : Quantum → ℕ = λ r. one_if (is_same q r) in (
        record {
          core = core;
          words_are = word_set s.words (length k.core.log) k.core.cells p 0 k.words_are;
          wide = length_set k.core.cells p 0 ∙ k.wide;
          legal_log = k.legal_log;
          fits = set_all (Fits charter.terms.value core) s.views id w still mine;
          hands = hands_set k.core.next s.views id v w at (record { each = λ m. refl; all = refl }) k.hands;
          room = k.room;
          unmade = λ m le lt. theirs m (λ e. let b = number_below s.views k.core.next id v named k.hands at in absurd (omega arith)) ∙ k.unmade m le lt;
          reached = takes_one quanta steps (legal charter.terms.value) charter.processors charter.passes k.core p old v.me v.taken k.reached there inside some_word took;
          balances = balances;
        },
        (let t = total_set (held one) s.views id v w at in let a = total_at (held one) s.views id v at in let e = k.balances.issued_are one in let o = k.balances.once q in let m = moved one in let l = times_own q v.taken in let w' = weigh_snoc one v.taken q in omega arith),
      )

  takes_if : (b : Bool) (id p old : ℕ) (v : View E T) (s : State (Unit {0}) (View E T)) (k : Holds s) → v.named ≡ true → 0 < old → get_elem? s.views id ≡ some v → (slice_index s.words (p + 1) == old) ≡ b
      → Kept quanta steps legal charter (slice_set s.words (p + 1) (either b 0 (slice_index s.words (p + 1)))) (slice_set s.views id (after_take b p old v (slice_index s.words (p + 1)))) × (slice_index s.words (p + 1) ≡ old → times (quantum_at p old) v.taken ≡ 0)
  takes_if true id p old v s k named some_word at is =
      let found : slice_index s.words (p + 1) ≡ old = grind (arith, nat_tests) in
      let r = takes_own id p old v s k named some_word at found in (r.0, λ _. r.1)
  takes_if false id p old v s k named some_word at is =
      let f = k.fits id v at in
      let n = slice_index s.words (p + 1) in
      let w : View E T = record v { loads = v.loads ++ (1 + p, n) ∷ [] } in
      let mine : Fits charter.terms.value k.core id w = record { of_terms = f.of_terms; seen = f.seen; mine = f.mine; took = f.took; idle = f.idle; guests = f.guests; whole = λ on. let x = f.whole on in record { here = x.here; whole = x.whole; next = x.next; empty = x.empty; issued = x.issued; left = x.left } } in (
        quiet legal quanta steps charter s.words (slice_set s.words (p + 1) n) s.views id v w k at (record { each = λ m. refl; all = refl }) (λ h. refl) mine (set_own s.words (p + 1)),
        λ e. absurd (true≢false (sym (same_test n old e) ∙ is)),
      )

  -- a pass takes the quantum of a word, where the word still holds the number that was found
  pub takes : (slots id p old : ℕ) (me : View E T × List (ℕ × Unit {0})) → me.0.named ≡ true → 0 < old → Allows Holds slots id me (p + 1) (λ n. either (n == old) 0 n) (λ n m'. ((p' : ℕ) → p + 1 ≡ p' + 1 → Taken p' old me.0 n m'.0) × (m'.1 ≡ me.1))
  takes slots id p old me named some_word s k sized at fits =
      let n = slice_index s.words (p + 1) in
      let r = takes_if (n == old) id p old me.0 s k named some_word at refl in
      (after_take (n == old) p old me.0 n, keeps, tt, r.0, (λ p' e. let same : p ≡ p' = omega arith in subst (λ (i : ℕ). Taken i old me.0 n (after_take (n == old) p old me.0 n)) same (record { same = refl; fresh = r.1 }), refl))
