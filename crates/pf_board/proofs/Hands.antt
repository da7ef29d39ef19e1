-- A pass lends its hand to another seat, gets it back, and the rule is kept.
use Rattle.std.proofs.Common.{◌≡◌, ℕ, zero, suc, ◌+◌, ◌==◌, Bool, true, false, true≢false, List, [], ◌∷◌, ◌++◌, length, set, refl, sym, ap, subst, ◌∙◌, arith}
use Rattle.std.specs.Prelude.{if◌then◌else◌}
use mathlib.Core.List.{IsPrefix}
use mathlib.Core.Option.{some, some-injective}
use lib.ListN.{get_elem?}
use Rattle.atomic_table.specs.Table.{State, Splits, Joins}
use Rattle.pf_board.specs.declared.quantum.Quantum.{Quantum}
use Rattle.pf_board.specs.declared.hand.Hand.{Hand}
use Rattle.pf_board.specs.declared.view.View.{View}
use Rattle.pf_board.specs.declared.charter.Charter.{Charter}
use Rattle.pf_board.specs.Quanta.{total, weigh, one_if}
use Rattle.pf_board.specs.Passes.{calls_by}
use Rattle.pf_board.specs.Views.{spent, hand_of, without_hand, carrier_of, hosting, without_guests, guests_of, without_loads, loads_of, with_loads, handed, with_hand}
use Rattle.pf_board.specs.Kept.{hands_of, hand_count, held, Core, KnowsAll, Fits, Kept}
use Rattle.pf_board.proofs.Sums.{set_all, snoc_all, before_set, total_set, total_snoc, total-append}
use Rattle.pf_board.proofs.Seats.{off, spent_fits}

module _ {E T : Type 0} (legal : T → List (ℕ × E) → Type 0) (quanta : E → List Quantum) (steps : E → Bool) (charter : Charter T) where
  abbrev Holds : State (Unit {0}) (View E T) → Type 0
  Holds s = Kept quanta steps legal charter s.words s.views

  -- what a view is cut into has its hands and its quanta
  record Halves (v left right : View E T) : Type 0 where
    pub each : (m : ℕ) → hands_of m left + hands_of m right ≡ hands_of m v
    pub all : hand_count left + hand_count right ≡ hand_count v
    pub quanta_are : (h : Quantum → ℕ) → held h left + held h right ≡ held h v

  -- a view is cut in two
  cuts : (id : ℕ) (v left right : View E T) → Halves v left right → ((c : Core E) → Fits charter.terms.value c id v → Fits charter.terms.value c id left) → ((c : Core E) (new : ℕ) → Fits charter.terms.value c id v → Fits charter.terms.value c new right) → Splits Holds id v left right
  cuts id v left right halves fit_left fit_right s k at =
      let f = k.fits id v at in
      let xs = set s.views id left in
      let F : ℕ → View E T → Type 0 = Fits charter.terms.value k.core in record {
        core = k.core;
        words_are = k.words_are;
        wide = k.wide;
        legal_log = k.legal_log;
        fits = snoc_all F xs right (set_all F s.views id left (λ j u _ e. k.fits j u e) (fit_left k.core f)) (fit_right k.core (length xs) f);
        hands = record {
          each = λ m. let t = total_set (hands_of m) s.views id v left at in let u = total_snoc (hands_of m) xs right in let o = k.hands.each m in let e = halves.each m in omega arith;
          all = let t = total_set hand_count s.views id v left at in let u = total_snoc hand_count xs right in let o = k.hands.all in let e = halves.all in omega arith;
        };
        room = k.room;
        unmade = k.unmade;
        reached = k.reached;
        balances = record {
          issues_are = k.balances.issues_are;
          issued_are = λ h. let t = total_set (held h) s.views id v left at in let u = total_snoc (held h) xs right in let o = k.balances.issued_are h in let e = halves.quanta_are h in omega arith;
          once = k.balances.once;
          last = k.balances.last;
        };
      }

  -- two views are made one
  joins : (id : ℕ) (v : View E T) (other : ℕ) (w both : View E T) → Halves both v w → ((c : Core E) → Fits charter.terms.value c id v → Fits charter.terms.value c other w → Fits charter.terms.value c id both) → Joins Holds id v other w both spent
  joins id v other w both halves fit_both s k at apart there =
      let theirs = before_set s.views id other both w apart there in
      let F : ℕ → View E T → Type 0 = Fits charter.terms.value k.core in
      let mine = fit_both k.core (k.fits id v at) (k.fits other w theirs) in record {
        core = k.core;
        words_are = k.words_are;
        wide = k.wide;
        legal_log = k.legal_log;
        fits = set_all F (set s.views id both) other spent (λ j u _ e. set_all F s.views id both (λ i x _ e'. k.fits i x e') mine j u e) (spent_fits charter.terms.value k.core other);
        hands = record {
          each = λ m. let t = total_set (hands_of m) s.views id v both at in let u = total_set (hands_of m) (set s.views id both) other w spent there in let o = k.hands.each m in let e = halves.each m in omega arith;
          all = let t = total_set hand_count s.views id v both at in let u = total_set hand_count (set s.views id both) other w spent there in let o = k.hands.all in let e = halves.all in omega arith;
        };
        room = k.room;
        unmade = k.unmade;
        reached = k.reached;
        balances = record {
          issues_are = k.balances.issues_are;
          issued_are = λ h. let t = total_set (held h) s.views id v both at in let u = total_set (held h) (set s.views id both) other w spent there in let o = k.balances.issued_are h in let e = halves.quanta_are h in omega arith;
          once = k.balances.once;
          last = k.balances.last;
        };
      }

  no_turn : (c : Core E) (j : ℕ) (v : View E T) → false ≡ true → KnowsAll c j v
  no_turn c j v e = absurd (off e)

  keeps_all : (c : Core E) (j : ℕ) (v w : View E T) → w.whole ≡ v.whole → w.next ≡ v.next → w.empty ≡ v.empty → w.issued ≡ v.issued → w.left ≡ v.left → KnowsAll c j v → KnowsAll c j w
  keeps_all c j v w a b e i l x = record { here = x.here; whole = a ∙ x.whole; next = b ∙ x.next; empty = λ p y. x.empty p (subst (λ (xs : List ℕ). Rattle.pf_board.specs.Passes.IsIn xs p) e y); issued = i ∙ x.issued; left = l ∙ x.left }

  -- a pass lends its hand
  pub lends : (id : ℕ) (v : View E T) → v.named ≡ true → Splits Holds id v (without_hand v) (carrier_of v)
  lends id v named = cuts id v (without_hand v) (carrier_of v)
      (record {
        each = λ m. let a = ap (λ (b : Bool). (if b then one_if (v.me == m) else 0)) named in omega arith;
        all = let a = ap one_if named in omega arith;
        quanta_are = λ h. omega arith;
      })
      (λ c f. record { of_terms = f.of_terms; seen = f.seen; mine = λ e. absurd (off e); took = λ e. absurd (off e); idle = λ _. refl; guests = f.guests; whole = λ on. keeps_all c id v (without_hand v) refl refl refl refl refl (f.whole on) })
      (λ c new f. record { of_terms = f.of_terms; seen = (c.log, refl); mine = λ e. absurd (off e); took = λ e. absurd (off e); idle = λ _. refl; guests = one_guest c (hand_of v) (f.seen, f.mine named, f.took named); whole = no_turn c new (carrier_of v) }) where
        one_guest : (c : Core E) (x : Hand E) → IsPrefix x.seen c.log × (x.mine ≡ calls_by x.me c.log) × (get_elem? c.taken x.me ≡ some x.taken) → (k : ℕ) (g : Hand E) → get_elem? (x ∷ []) k ≡ some g → IsPrefix g.seen c.log × (g.mine ≡ calls_by g.me c.log) × (get_elem? c.taken g.me ≡ some g.taken)
        one_guest c x fits zero g e = subst (λ (y : Hand E). IsPrefix y.seen c.log × (y.mine ≡ calls_by y.me c.log) × (get_elem? c.taken y.me ≡ some y.taken)) (some-injective _ _ e) fits
        one_guest c x fits (suc k) g e = absurd (cc)

  -- what stands in two lists together stands in one of them
  either_list : (F : Hand E → Type 0) (xs ys : List (Hand E)) → ((k : ℕ) (g : Hand E) → get_elem? xs k ≡ some g → F g) → ((k : ℕ) (g : Hand E) → get_elem? ys k ≡ some g → F g) → (k : ℕ) (g : Hand E) → get_elem? (xs ++ ys) k ≡ some g → F g
  either_list F [] ys one two k g e = two k g e
  either_list F (x ∷ xs) ys one two zero g e = one zero g e
  either_list F (x ∷ xs) ys one two (suc k) g e = either_list F xs ys (λ i y d. one (suc i) y d) two k g e

  -- a seat carries what another carried
  pub hosts : (id : ℕ) (v : View E T) (other : ℕ) (w : View E T) → w.named ≡ false → w.taken ≡ [] → Joins Holds id v other w (hosting v w) spent
  hosts id v other w unnamed none = joins id v other w (hosting v w)
      (record {
        each = λ m. let a = ap (λ (b : Bool). (if b then one_if (w.me == m) else 0)) unnamed in let t = total-append (λ (g : Hand E). one_if (g.me == m)) v.guests w.guests in omega arith;
        all = let a = ap one_if unnamed in let t = total-append (λ (g : Hand E). 1) v.guests w.guests in omega arith;
        quanta_are = λ h. let a = ap (weigh h) none in let t = total-append (λ (g : Hand E). weigh h g.taken) v.guests w.guests in omega arith;
      })
      (λ c f x. record { of_terms = f.of_terms; seen = f.seen; mine = f.mine; took = f.took; idle = f.idle; guests = either_list (λ g. IsPrefix g.seen c.log × (g.mine ≡ calls_by g.me c.log) × (get_elem? c.taken g.me ≡ some g.taken)) v.guests w.guests f.guests x.guests; whole = λ on. keeps_all c id v (hosting v w) refl refl refl refl refl (f.whole on) })

  -- what a seat carries goes to a new seat
  pub releases : (id : ℕ) (v : View E T) → Splits Holds id v (without_guests v) (guests_of v)
  releases id v = cuts id v (without_guests v) (guests_of v)
      (record { each = λ m. omega arith; all = omega arith; quanta_are = λ h. omega arith })
      (λ c f. record { of_terms = f.of_terms; seen = f.seen; mine = f.mine; took = f.took; idle = f.idle; guests = λ i g e. absurd (cc); whole = λ on. keeps_all c id v (without_guests v) refl refl refl refl refl (f.whole on) })
      (λ c new f. record { of_terms = f.of_terms; seen = (c.log, refl); mine = λ e. absurd (off e); took = λ e. absurd (off e); idle = λ _. refl; guests = f.guests; whole = no_turn c new (guests_of v) })

  -- a pass gets its hand back
  pub regains : (id : ℕ) (v : View E T) (other : ℕ) (w : View E T) (g : Hand E) → v.named ≡ false → v.taken ≡ [] → w.named ≡ false → w.taken ≡ [] → w.guests ≡ g ∷ [] → Joins Holds id v other w (with_hand v w) spent
  regains id v other w g unnamed none other_unnamed other_none one =
      subst (λ (gs : List (Hand E)). Joins Holds id v other w (handed v gs) spent) (sym one)
      (joins id v other w (handed v (g ∷ []))
      (record {
        each = λ m. let a = ap (λ (b : Bool). (if b then one_if (v.me == m) else 0)) unnamed in let d = ap (λ (b : Bool). (if b then one_if (w.me == m) else 0)) other_unnamed in let t = ap (total (λ (x : Hand E). one_if (x.me == m))) one in omega arith;
        all = let a = ap one_if unnamed in let d = ap one_if other_unnamed in let t = ap (total (λ (x : Hand E). 1)) one in omega arith;
        quanta_are = λ h. let a = ap (weigh h) none in let d = ap (weigh h) other_none in let t = ap (total (λ (x : Hand E). weigh h x.taken)) one in omega arith;
      })
      (λ c f x. record { of_terms = f.of_terms; seen = f.seen; mine = λ _. (x.guests zero g (ap (λ gs. get_elem? gs zero) one)).1; took = λ _. (x.guests zero g (ap (λ gs. get_elem? gs zero) one)).2; idle = λ e. absurd (true≢false e); guests = f.guests; whole = λ on. keeps_all c id v (handed v (g ∷ [])) refl refl refl refl refl (f.whole on) }))

  -- what a seat's loads found goes to a new seat
  pub reports : (id : ℕ) (v : View E T) → Splits Holds id v (without_loads v) (loads_of v)
  reports id v = cuts id v (without_loads v) (loads_of v)
      (record { each = λ m. omega arith; all = omega arith; quanta_are = λ h. omega arith })
      (λ c f. record { of_terms = f.of_terms; seen = f.seen; mine = f.mine; took = f.took; idle = f.idle; guests = f.guests; whole = λ on. keeps_all c id v (without_loads v) refl refl refl refl refl (f.whole on) })
      (λ c new f. record { of_terms = f.of_terms; seen = (c.log, refl); mine = λ e. absurd (off e); took = λ e. absurd (off e); idle = λ _. refl; guests = λ i g e. absurd (cc); whole = no_turn c new (loads_of v) })

  -- and from there to a seat that lists it
  pub lists : (id : ℕ) (v : View E T) (other : ℕ) (w : View E T) → w.named ≡ false → w.taken ≡ [] → w.guests ≡ [] → Joins Holds id v other w (with_loads v w) spent
  lists id v other w unnamed none alone = joins id v other w (with_loads v w)
      (record {
        each = λ m. let a = ap (λ (b : Bool). (if b then one_if (w.me == m) else 0)) unnamed in let t = ap (total (λ (x : Hand E). one_if (x.me == m))) alone in omega arith;
        all = let a = ap one_if unnamed in let t = ap (total (λ (x : Hand E). 1)) alone in omega arith;
        quanta_are = λ h. let a = ap (weigh h) none in let t = ap (total (λ (x : Hand E). weigh h x.taken)) alone in omega arith;
      })
      (λ c f x. record { of_terms = f.of_terms; seen = f.seen; mine = f.mine; took = f.took; idle = f.idle; guests = f.guests; whole = λ on. keeps_all c id v (with_loads v w) refl refl refl refl refl (f.whole on) })
