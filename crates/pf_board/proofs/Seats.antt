-- What the rule says of seats, after one view changed.
use Rattle.std.proofs.Common.{◌≡◌, ◌≢◌, ℕ, zero, suc, ◌+◌, ◌<◌, ◌==◌, Bool, true, false, true≢false, List, [], ◌∷◌, ◌++◌, set, refl, sym, ap, ◌∙◌, arith}
use Rattle.std.specs.Prelude.{slice_index, slice_set, if◌then◌else◌}
use mathlib.Core.Option.{some}
use lib.ListN.{get_elem?}
use Rattle.pf_board.specs.declared.quantum.Quantum.{Quantum}
use Rattle.pf_board.specs.declared.hand.Hand.{Hand}
use Rattle.pf_board.specs.declared.view.View.{View}
use Rattle.pf_board.specs.Quanta.{total, one_if}
use Rattle.pf_board.specs.declared.charter.Charter.{Charter}
use Rattle.pf_board.specs.Views.{spent}
use Rattle.pf_board.specs.Kept.{hands_of, hand_count, held, Core, Fits, IsOneEach, Balances, Kept}
use Rattle.pf_board.proofs.Sums.{set_all, total_set, total_snoc, total_at, total_two, one_below_most, one_as, below_of_one}

pub off : false ≡ true → ⊥
off e = true≢false (sym e)

pub set_own : (xs : List ℕ) (p : ℕ) → slice_set xs p (slice_index xs p) ≡ xs
set_own [] p = refl
set_own (x ∷ xs) zero = refl
set_own (x ∷ xs) (suc p) = ap (λ ys. x ∷ ys) (set_own xs p)

module _ {E : Type 0} where
  pub guest_differs : (m : ℕ) (gs : List (Hand E)) (k : ℕ) (g : Hand E) → get_elem? gs k ≡ some g → total (λ g. one_if (g.me == m)) gs ≡ 0 → m ≢ g.me
  guest_differs m gs k g e none same = let t = total_at (λ (g : Hand E). one_if (g.me == m)) gs k g e in let s = one_as g.me m (sym same) in absurd (omega arith)

module _ {E T : Type 0} where
  -- w has the hands of v
  pub record HasHands (v w : View E T) : Type 0 where
    pub each : (m : ℕ) → hands_of m w ≡ hands_of m v
    pub all : hand_count w ≡ hand_count v

  pub hands_set : (next : ℕ) (views : List (View E T)) (id : ℕ) (v w : View E T) → get_elem? views id ≡ some v → HasHands v w → IsOneEach next views → IsOneEach next (set views id w)
  hands_set next views id v w at same one = record {
    each = λ m. let t = total_set (hands_of m) views id v w at in let e = one.each m in let s = same.each m in omega arith;
    all = let t = total_set hand_count views id v w at in let e = one.all in let s = same.all in omega arith;
  }

  -- a new seat without a hand
  pub hands_snoc : (next : ℕ) (views : List (View E T)) (w : View E T) → ((m : ℕ) → hands_of m w ≡ 0) → hand_count w ≡ 0 → IsOneEach next views → IsOneEach next (views ++ w ∷ [])
  hands_snoc next views w none empty one = record {
    each = λ m. let t = total_snoc (hands_of m) views w in let e = one.each m in let s = none m in omega arith;
    all = let t = total_snoc hand_count views w in let e = one.all in omega arith;
  }

  pub spent_fits : (terms : T) (c : Core E) (j : ℕ) → Fits terms c j spent
  spent_fits terms c j = record { of_terms = λ t e. absurd (cc); seen = (c.log, refl); mine = λ named. absurd (off named); took = λ named. absurd (off named); idle = λ _. refl; guests = λ k g e. absurd (cc); whole = λ on. absurd (off on) }

  own_hand : (v : View E T) → v.named ≡ true → hands_of v.me v ≡ 1 + total (λ g. one_if (g.me == v.me)) v.guests
  own_hand v named = let t = ap (λ (b : Bool). (if b then one_if (v.me == v.me) else 0)) named in let s = one_as v.me v.me refl in omega arith

  -- a seat that has a number leaves no other seat a hand of it, and carries none itself
  pub no_other : (views : List (View E T)) (next id j : ℕ) (v u : View E T) → v.named ≡ true → IsOneEach next views → j ≢ id → get_elem? views id ≡ some v → get_elem? views j ≡ some u → hands_of v.me u ≡ 0
  no_other views next id j v u named one apart at there =
      let t = total_two (hands_of v.me) views id j v u apart at there in
      let e = one.each v.me in
      let m = one_below_most next v.me in
      let o = own_hand v named in
      omega arith

  pub no_guest : (views : List (View E T)) (next id : ℕ) (v : View E T) → v.named ≡ true → IsOneEach next views → get_elem? views id ≡ some v → total (λ g. one_if (g.me == v.me)) v.guests ≡ 0
  no_guest views next id v named one at =
      let t = total_at (hands_of v.me) views id v at in
      let e = one.each v.me in
      let m = one_below_most next v.me in
      let o = own_hand v named in
      omega arith

  pub differs : (m : ℕ) (u : View E T) → u.named ≡ true → hands_of m u ≡ 0 → m ≢ u.me
  differs m u named none same = let t = ap (λ (b : Bool). (if b then one_if (u.me == m) else 0)) named in let s = one_as u.me m (sym same) in absurd (omega arith)

  pub number_below : (views : List (View E T)) (next id : ℕ) (v : View E T) → v.named ≡ true → IsOneEach next views → get_elem? views id ≡ some v → v.me < next
  number_below views next id v named one at =
      let t = total_at (hands_of v.me) views id v at in
      let e = one.each v.me in
      let o = own_hand v named in
      below_of_one next v.me (omega arith)

  module _ (legal : T → List (ℕ × E) → Type 0) (quanta : E → List Quantum) (steps : E → Bool) (charter : Charter T) where
    pub held_set : (c : Core E) (views : List (View E T)) (id : ℕ) (v w : View E T) → get_elem? views id ≡ some v → ((h : Quantum → ℕ) → held h w ≡ held h v) → Balances quanta steps c views → Balances quanta steps c (set views id w)
    held_set c views id v w at same b = record {
      issues_are = b.issues_are;
      issued_are = λ h. let t = total_set (held h) views id v w at in let e = b.issued_are h in let s = same h in omega arith;
      once = b.once;
      last = b.last;
    }

    -- one view changes, and no hand, no quantum and no word
    pub quiet : (words words' : List ℕ) (views : List (View E T)) (id : ℕ) (v w : View E T) (k : Kept quanta steps legal charter words views) → get_elem? views id ≡ some v
        → HasHands v w → ((h : Quantum → ℕ) → held h w ≡ held h v) → Fits charter.terms.value k.core id w → words' ≡ words → Kept quanta steps legal charter words' (set views id w)
    quiet words words' views id v w k at hands same mine is = record {
      core = k.core;
      words_are = is ∙ k.words_are;
      wide = k.wide;
      legal_log = k.legal_log;
      fits = set_all (Fits charter.terms.value k.core) views id w (λ j u _ e. k.fits j u e) mine;
      hands = hands_set k.core.next views id v w at hands k.hands;
      room = k.room;
      unmade = k.unmade;
      reached = k.reached;
      balances = held_set k.core views id v w at same k.balances;
    }
