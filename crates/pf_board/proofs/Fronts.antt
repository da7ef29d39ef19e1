-- What steps leave of a pass and of the keeper.
use Rattle.std.proofs.Common.{◌≡◌, ℕ, true, false, List, [], ◌∷◌, ◌++◌, refl, sym, ap, subst, ◌∙◌, ◌==◌, zero, Bool, arith}
use mathlib.Core.Option.{some}
use lib.ListN.{get_elem?}
use Rattle.pf_board.specs.declared.view.View.{View}
use Rattle.pf_board.specs.declared.quantum.Quantum.{Quantum}
use Rattle.pf_board.specs.declared.hand.Hand.{Hand}
use Rattle.pf_board.specs.Passes.{calls_by}
use Rattle.pf_board.specs.Views.{with_turn, without_turn, hand_of, carrier_of, hosting, without_guests}
use Rattle.pf_board.specs.Seats.{IsPass, IsKeeper}
use Rattle.pf_board.specs.Quanta.{total, one_if, is_same, times}
use Rattle.pf_board.specs.Told.{Meets, Noted, Settled, Peeked, Checked, Put, Taken, after_take}
use Rattle.pf_board.proofs.Looks.{calls_by-own}
use Rattle.pf_board.proofs.Sums.{total-append}
use Rattle.pf_board.proofs.Weights.{weigh-append}

module _ {E T : Type 0} (legal : T → List (ℕ × E) → Type 0) (quanta : E → List Quantum) where
  pub pass_noted : (entry : List E) (v t : View E T) (n : ℕ) (w : View E T) → IsPass legal v → Noted legal quanta entry (with_turn v t) n w → IsPass legal (without_turn w)
  pass_noted entry v t n w p noted =
      let same = noted.same in
      let seen : w.seen ≡ t.whole ++ (v.me, noted.e) ∷ [] = ap (λ u. u.seen) same in
      let me : w.me ≡ v.me = ap (λ u. u.me) same in
      let before : v.mine ≡ calls_by v.me t.whole = noted.mine in record {
        named = ap (λ u. u.named) same ∙ p.named;
        off = refl;
        is_legal = λ t e. noted.is_legal t (sym (ap (λ u. u.terms) same) ∙ e);
        mine = ap (λ u. u.mine) same ∙ (ap (λ l. l ++ noted.e ∷ []) before ∙ (sym (calls_by-own v.me t.whole noted.e) ∙ (ap (λ l. calls_by v.me l) (sym seen) ∙ ap (λ m. calls_by m w.seen) (sym me))));
        alone = ap (λ u. u.guests) same ∙ p.alone;
      }

  -- a seat that carried a pass's hand alone, and gave it away again
  pub met : (g v : View E T) (n : ℕ) (w : View E T) → v.guests ≡ [] → Settled legal quanta (hosting v (carrier_of g)) n w → Meets legal g v (without_guests w)
  met g v n w alone l =
      let x = l.learns in
      let first : get_elem? (v.guests ++ hand_of g ∷ []) zero ≡ some (hand_of g) = ap (λ (gs : List (Hand E)). get_elem? (gs ++ hand_of g ∷ []) zero) alone in
      let hand = x.guests zero (hand_of g) first in record {
        same = ap without_guests l.same ∙ ap (λ (gs : List (Hand E)). record v { seen = w.seen; guests = gs }) (sym alone);
        grew = x.grew;
        guest = hand.0;
        guest_mine = hand.1;
        apart = λ q.
            let a = x.apart q in
            let t = total-append (λ (y : Hand E). times q y.taken) v.guests (hand_of g ∷ []) in
            let z = ap (total (λ (y : Hand E). times q y.taken)) alone in
            let both = weigh-append (λ r. one_if (is_same q r)) g.taken v.taken in
            omega arith;
        is_legal = x.is_legal;
        mine = x.mine;
        whole = x.whole;
      }

module _ {E T : Type 0} (legal : T → List (ℕ × E) → Type 0) where
  pub pass_met : (g v w : View E T) → IsPass legal v → Meets legal g v w → IsPass legal w
  pass_met g v w p m = record {
    named = ap (λ u. u.named) m.same ∙ p.named;
    off = ap (λ u. u.turn) m.same ∙ p.off;
    is_legal = λ t e. m.is_legal t (sym (ap (λ u. u.terms) m.same) ∙ e);
    mine = ap (λ u. u.mine) m.same ∙ (m.mine p.named ∙ ap (λ i. calls_by i w.seen) (sym (ap (λ u. u.me) m.same)));
    alone = ap (λ u. u.guests) m.same ∙ p.alone;
  }

  pub keeper_checked : (p : ℕ) (v : View E T) (n : ℕ) (w : View E T) → IsKeeper legal v → Checked p v n w → IsKeeper legal w
  keeper_checked p v n w k made = subst (λ (u : View E T). IsKeeper legal u) (sym made.same) (record { unnamed = k.unnamed; is_legal = k.is_legal; none = k.none; alone = k.alone; whole = k.whole })

  pub keeper_put : (q : Quantum) (v w : View E T) → IsKeeper legal v → Put q v w → IsKeeper legal w
  keeper_put q v w k made = subst (λ (u : View E T). IsKeeper legal u) (sym made.same) (record { unnamed = k.unnamed; is_legal = k.is_legal; none = k.none; alone = k.alone; whole = k.whole })

  pub pass_peeked : (p : ℕ) (v : View E T) (n : ℕ) (w : View E T) → IsPass legal v → Peeked p v n w → IsPass legal w
  pass_peeked p v n w k made = subst (λ (u : View E T). IsPass legal u) (sym made.same) (record { named = k.named; off = k.off; is_legal = k.is_legal; mine = k.mine; alone = k.alone })

  pass_takes : (b : Bool) (p old : ℕ) (v : View E T) (n : ℕ) → IsPass legal v → IsPass legal (after_take b p old v n)
  pass_takes true p old v n k = record { named = k.named; off = k.off; is_legal = k.is_legal; mine = k.mine; alone = k.alone }
  pass_takes false p old v n k = record { named = k.named; off = k.off; is_legal = k.is_legal; mine = k.mine; alone = k.alone }

  pub pass_taken : (p old : ℕ) (v : View E T) (n : ℕ) (w : View E T) → IsPass legal v → Taken p old v n w → IsPass legal w
  pass_taken p old v n w k made = subst (λ (u : View E T). IsPass legal u) (sym made.same) (pass_takes (n == old) p old v n k)

module _ {E T : Type 0} where
  takes_me : (b : Bool) (p old : ℕ) (v : View E T) (n : ℕ) → (after_take b p old v n).me ≡ v.me
  takes_me true p old v n = refl
  takes_me false p old v n = refl

  pub taken_me : (p old : ℕ) (v : View E T) (n : ℕ) (w : View E T) → Taken p old v n w → w.me ≡ v.me
  taken_me p old v n w made = ap (λ u. u.me) made.same ∙ takes_me (n == old) p old v n
