-- Looks and notes keep the rule.
use Rattle.std.proofs.Common.{◌≡◌, ◌≢◌, ℕ, ◌+◌, ◌<◌, ◌≤◌, ◌%◌, ◌==◌, Bool, true, false, true≢false, List, [], ◌∷◌, ◌++◌, length, refl, sym, ap, subst, ◌∙◌, arith, length-append}
use Rattle.std.specs.Prelude.{slice_index, slice_set, if◌then◌else◌}
use Rattle.std.proofs.lemmas.Grind.{common_steps}
use mathlib.Core.List.{IsPrefix}
use mathlib.Core.Option.{some}
use lib.ListN.{get_elem?}
use Rattle.atomic_table.specs.Table.{State, keeps, Allows}
use Rattle.pf_lemmas.proofs.Prefixes.{prefix_self, prefix_trans}
use Rattle.pf_board.specs.declared.quantum.Quantum.{Quantum}
use Rattle.pf_board.specs.declared.hand.Hand.{Hand}
use Rattle.pf_board.specs.declared.view.View.{View}
use Rattle.pf_board.specs.declared.charter.Charter.{Charter}
use Rattle.pf_board.specs.Quanta.{total, weigh, times, one_if, is_same, issues, is_step, last_issues}
use Rattle.pf_board.specs.Words.{on_words}
use Rattle.pf_board.specs.Passes.{calls_by, IsIn}
use Rattle.pf_board.specs.Kept.{held, Core, Fits, Balances, Kept}
use Rattle.pf_board.specs.Told.{Learns, Looked, Settled, Noted}
use Rattle.pf_board.proofs.Sums.{set_all, total_at}
use Rattle.pf_board.proofs.Weights.{weigh-append, weigh_push, last_push, no_quanta, clear_words}
use Rattle.pf_board.proofs.Acting.{enters}
use Rattle.pf_board.proofs.Seats.{set_own, hands_set, held_set, quiet, no_other, no_guest, differs, guest_differs}

module _ {E : Type 0} where
  pub calls_by-own : (m : ℕ) (xs : List (ℕ × E)) (e : E) → calls_by m (xs ++ (m, e) ∷ []) ≡ calls_by m xs ++ e ∷ []
  calls_by-own m [] e = grind (arith, common_steps)
  calls_by-own m (x ∷ xs) e = grind (arith, common_steps, calls_by-own m xs e)

  pub calls_by-other : (m b : ℕ) (xs : List (ℕ × E)) (e : E) → b ≢ m → calls_by m (xs ++ (b, e) ∷ []) ≡ calls_by m xs
  calls_by-other m b [] e apart = grind (arith, common_steps)
  calls_by-other m b (x ∷ xs) e apart = grind (arith, common_steps, calls_by-other m b xs e apart)

module _ {E T : Type 0} (legal : T → List (ℕ × E) → Type 0) (quanta : E → List Quantum) (steps : E → Bool) (charter : Charter T) where
  abbrev Holds : State (Unit {0}) (View E T) → Type 0
  Holds s = Kept quanta steps legal charter s.words s.views

  -- what a load of the history's length tells
  learns : (s : State (Unit {0}) (View E T)) (k : Holds s) (id : ℕ) (v w : View E T) → get_elem? s.views id ≡ some v → w.seen ≡ k.core.log → Learns legal quanta v (slice_index s.words 0) w
  learns s k id v w at is =
      let f = k.fits id v at in
      let back : k.core.log ≡ w.seen = sym is in
      let n : slice_index s.words 0 ≡ length k.core.log = ap (λ ws. slice_index ws 0) k.words_are in
      let mine : (q : Quantum) → held (λ r. one_if (is_same q r)) v ≤ times q k.core.issued = λ q.
      let h : Quantum → ℕ = λ r. one_if (is_same q r) in
      let t = total_at (held h) s.views id v at in
      let b = k.balances.issued_are h in
      omega arith in record {
        found = n ∙ ap length back;
        grew = subst (λ l. IsPrefix v.seen l) back f.seen;
        is_legal = λ t e. subst (λ l. legal t l) back (subst (λ x. legal x k.core.log) (sym (f.of_terms t e)) k.legal_log);
        mine = λ named. f.mine named ∙ ap (calls_by v.me) back;
        guests = λ i g e. let x = f.guests i g e in (subst (λ l. IsPrefix g.seen l) back x.0, x.1 ∙ ap (calls_by g.me) back);
        apart = λ q. let m = mine q in let o = k.balances.once q in omega arith;
        issued = λ q. let m = mine q in let i = k.balances.issues_are (λ r. one_if (is_same q r)) in let l = ap (λ (l : List (ℕ × E)). times q (issues quanta l)) is in omega arith;
        whole = λ on. (f.whole on).whole ∙ back;
      }

  pub looks : (slots id : ℕ) (me : View E T × List (ℕ × Unit {0})) → Allows Holds slots id me 0 (λ n. n) (λ n m'. Looked legal quanta me.0 n m'.0 × (m'.1 ≡ me.1))
  looks slots id me s k sized at fits =
      let v = me.0 in
      let f = k.fits id v at in
      let w : View E T = record v { seen = k.core.log; loads = v.loads ++ (0, slice_index s.words 0) ∷ [] } in
      let mine : Fits charter.terms.value k.core id w = record { of_terms = f.of_terms; seen = prefix_self k.core.log; mine = f.mine; took = f.took; idle = f.idle; guests = f.guests; whole = λ on. let x = f.whole on in record { here = x.here; whole = x.whole; next = x.next; empty = x.empty; issued = x.issued; left = x.left } } in (
        w,
        keeps,
        tt,
        quiet legal quanta steps charter s.words (slice_set s.words 0 (slice_index s.words 0)) s.views id v w k at (record { each = λ m. refl; all = refl }) (λ h. refl) mine (set_own s.words 0),
        (record { same = refl; learns = learns s k id v w at refl }, refl),
      )

  pub settles : (slots id : ℕ) (me : View E T × List (ℕ × Unit {0})) → Allows Holds slots id me 0 (λ n. n) (λ n m'. Settled legal quanta me.0 n m'.0 × (m'.1 ≡ me.1))
  settles slots id me s k sized at fits =
      let v = me.0 in
      let f = k.fits id v at in
      let w : View E T = record v { seen = k.core.log } in
      let mine : Fits charter.terms.value k.core id w = record { of_terms = f.of_terms; seen = prefix_self k.core.log; mine = f.mine; took = f.took; idle = f.idle; guests = f.guests; whole = λ on. let x = f.whole on in record { here = x.here; whole = x.whole; next = x.next; empty = x.empty; issued = x.issued; left = x.left } } in (
        w,
        keeps,
        tt,
        quiet legal quanta steps charter s.words (slice_set s.words 0 (slice_index s.words 0)) s.views id v w k at (record { each = λ m. refl; all = refl }) (λ h. refl) mine (set_own s.words 0),
        (record { same = refl; learns = learns s k id v w at refl }, refl),
      )

  -- the balance after an entry, where a step finds each word empty and nothing left to issue
  noted_balance : (c : Core E) (views : List (View E T)) (x : ℕ × E) → (is_step quanta steps x.1 ≡ true → (c.left ≡ []) × ((p : ℕ) → p < length c.cells → slice_index c.cells p ≡ 0)) → Balances quanta steps c views
      → Balances quanta steps (record c { log = c.log ++ x ∷ []; left = c.left ++ quanta x.1 }) views
  noted_balance c views x ready b = record {
    issues_are = λ h. let more = weigh_push quanta steps h c.log x in let l = weigh-append h c.left (quanta x.1) in let e = b.issues_are h in omega arith;
    issued_are = b.issued_are;
    once = b.once;
    last = λ h. by_step h (is_step quanta steps x.1) refl;
  } where
    by_step : (h : Quantum → ℕ) (s : Bool) → is_step quanta steps x.1 ≡ s → weigh h (on_words 0 c.cells) + weigh h (c.left ++ quanta x.1) ≤ weigh h (last_issues quanta steps (c.log ++ x ∷ []))
    by_step h true is =
        let r = ready is in
        let z = clear_words h 0 c.cells r.1 in
        let l = weigh-append h c.left (quanta x.1) in
        let n = ap (weigh h) r.0 in
        let p = ap (weigh h) (last_push quanta steps c.log x) in
        let t = ap (λ (b : Bool). weigh h (if b then quanta x.1 else last_issues quanta steps c.log)) is in
        omega arith
    by_step h false is =
        let l = weigh-append h c.left (quanta x.1) in
        let n = ap (weigh h) (no_quanta quanta steps x.1 is) in
        let p = ap (weigh h) (last_push quanta steps c.log x) in
        let t = ap (λ (b : Bool). weigh h (if b then quanta x.1 else last_issues quanta steps c.log)) is in
        let e = b.last h in
        omega arith

  pub notes : (slots id : ℕ) (me : View E T × List (ℕ × Unit {0})) (entry : List E) (e : E) → entry ≡ e ∷ [] → me.0.turn ≡ true → me.0.named ≡ true
      → legal charter.terms.value (me.0.whole ++ (me.0.me, e) ∷ []) → length me.0.whole + 1 < 18446744073709551616
      → (is_step quanta steps e ≡ true → (me.0.left ≡ []) × ((p : ℕ) → p < charter.processors → IsIn me.0.empty p))
      → Allows Holds slots id me 0 (λ n. (n + 1) % 18446744073709551616) (λ n m'. Noted legal quanta entry me.0 n m'.0 × (m'.1 ≡ me.1))
  notes slots id me entry e is on named may room ready s k sized at fits =
      let v = me.0 in
      let f = k.fits id v at in
      let all = f.whole on in
      let log = v.whole ++ (v.me, e) ∷ [] in
      let core : Core E = record k.core { log = k.core.log ++ (v.me, e) ∷ []; left = k.core.left ++ quanta e } in
      let log_is : core.log ≡ log = ap (λ l. l ++ (v.me, e) ∷ []) (sym all.whole) in
      let w : View E T = record v { seen = log; whole = log; mine = v.mine ++ e ∷ []; left = v.left ++ quanta e } in
      let own : v.mine ≡ calls_by v.me v.whole = f.mine named ∙ ap (calls_by v.me) (sym all.whole) in
      let n : slice_index s.words 0 ≡ length v.whole = ap (λ ws. slice_index ws 0) k.words_are ∙ ap length (sym all.whole) in
      let grows : IsPrefix k.core.log core.log = ((v.me, e) ∷ [], refl) in
      let number : (slice_index s.words 0 + 1) % 18446744073709551616 ≡ length core.log = omega (arith, n, length-append v.whole ((v.me, e) ∷ []), ap length log_is) in
      let guests_fit : (m : ℕ) (u : View E T) → total (λ g. one_if (g.me == v.me)) u.guests ≡ 0 → Fits charter.terms.value k.core m u → (i : ℕ) (g : Hand E) → get_elem? u.guests i ≡ some g → IsPrefix g.seen core.log × (g.mine ≡ calls_by g.me core.log) × (get_elem? core.taken g.me ≡ some g.taken) = λ m u none x i g there.
      let y = x.guests i g there in
      (prefix_trans g.seen k.core.log core.log y.0 grows, y.1 ∙ sym (calls_by-other g.me v.me k.core.log e (guest_differs v.me u.guests i g there none)), y.2) in
      let mine : Fits charter.terms.value core id w = record {
        of_terms = f.of_terms;
        seen = subst (λ l. IsPrefix log l) (sym log_is) (prefix_self log);
        mine = λ _. ap (λ l. l ++ e ∷ []) (f.mine named) ∙ sym (calls_by-own v.me k.core.log e);
        took = f.took;
        idle = λ unnamed. absurd (true≢false (sym named ∙ unnamed));
        guests = guests_fit id v (no_guest s.views k.core.next id v named k.hands at) f;
        whole = λ _. record { here = all.here; whole = sym log_is; next = all.next; empty = all.empty; issued = all.issued; left = ap (λ l. l ++ quanta e) all.left };
      } in
      let others : (j : ℕ) (u : View E T) → j ≢ id → get_elem? s.views j ≡ some u → Fits charter.terms.value core j u = λ j u apart there.
      let g = k.fits j u there in
      let none = no_other s.views k.core.next id j v u named k.hands apart at there in record {
        of_terms = g.of_terms;
        seen = prefix_trans u.seen k.core.log core.log g.seen grows;
        mine = λ is_named. g.mine is_named ∙ sym (calls_by-other u.me v.me k.core.log e (differs v.me u is_named none));
        took = g.took;
        idle = g.idle;
        guests = guests_fit j u (omega arith) g;
        whole = λ is_on. absurd (apart (sym (g.whole is_on).here ∙ all.here));
      } in
      let clear : is_step quanta steps e ≡ true → (k.core.left ≡ []) × ((p : ℕ) → p < length k.core.cells → slice_index k.core.cells p ≡ 0) = λ step.
      let r = ready step in (sym all.left ∙ r.0, λ p lt. all.empty p (r.1 p (omega (arith, lt, k.wide)))) in
      let balances = noted_balance k.core s.views (v.me, e) clear k.balances in (
        w,
        keeps,
        tt,
        record {
          core = core;
          words_are = ap (λ ws. slice_set ws 0 ((slice_index s.words 0 + 1) % 18446744073709551616)) k.words_are ∙ ap (λ m. m ∷ k.core.cells) number;
          wide = k.wide;
          legal_log = subst (λ l. legal charter.terms.value l) (sym log_is) may;
          fits = set_all (Fits charter.terms.value core) s.views id w others mine;
          hands = hands_set k.core.next s.views id v w at (record { each = λ m. refl; all = refl }) k.hands;
          room = k.room;
          unmade = k.unmade;
          reached = enters quanta steps (legal charter.terms.value) charter.processors charter.passes k.core (v.me, e) k.reached k.balances.issues_are (subst (λ l. legal charter.terms.value l) (sym log_is) may) clear;
          balances = held_set legal quanta steps charter core s.views id v w at (λ h. refl) balances;
        },
        (
          record {
            e = e;
            is_entry = is;
            found = n;
            same = refl;
            grew = subst (λ l. IsPrefix v.seen l) (sym all.whole) f.seen;
            mine = own;
            is_legal = λ t of. subst (λ x. legal x log) (sym (f.of_terms t of)) may;
          },
          refl,
        ),
      )
