-- What each kind of step tells of the seat: v before it, w after it, n the number found.
use Rattle.std.specs.Prelude.{ℕ, ◌≡◌, ◌+◌, ◌<◌, ◌≤◌, ◌==◌, if◌then◌else◌, Bool, true, false, List, [], ◌∷◌, ◌++◌, length}
use mathlib.Core.List.{IsPrefix}
use mathlib.Core.Option.{some}
use lib.ListN.{get_elem?}
use Rattle.pf_board.specs.declared.quantum.Quantum.{Quantum}
use Rattle.pf_board.specs.declared.hand.Hand.{Hand}
use Rattle.pf_board.specs.declared.view.View.{View}
use Rattle.pf_board.specs.Quanta.{total, times, issues, quanta_without, AreApartQuanta}
use Rattle.pf_board.specs.Words.{quantum_at}
use Rattle.pf_board.specs.Passes.{calls_by, but}

module _ {E T : Type 0} (legal : T → List (ℕ × E) → Type 0) where
  -- the seat v carried the hand of the pass g, and has then seen the whole history as w
  pub record Meets (g v w : View E T) : Type 0 where
    pub same : w ≡ record v { seen = w.seen }
    pub grew : IsPrefix v.seen w.seen
    pub guest : IsPrefix g.seen w.seen
    pub guest_mine : g.mine ≡ calls_by g.me w.seen
    pub apart : AreApartQuanta g.taken v.taken
    pub is_legal : (t : T) → v.terms ≡ t ∷ [] → legal t w.seen
    pub mine : v.named ≡ true → v.mine ≡ calls_by v.me w.seen
    pub whole : v.turn ≡ true → v.whole ≡ w.seen

module _ {E T : Type 0} (legal : T → List (ℕ × E) → Type 0) (quanta : E → List Quantum) where
  -- w has seen the whole history, whose length is n
  pub record Learns (v : View E T) (n : ℕ) (w : View E T) : Type 0 where
    pub found : n ≡ length w.seen
    pub grew : IsPrefix v.seen w.seen
    pub is_legal : (t : T) → v.terms ≡ t ∷ [] → legal t w.seen
    pub mine : v.named ≡ true → v.mine ≡ calls_by v.me w.seen
    pub guests : (k : ℕ) (g : Hand E) → get_elem? v.guests k ≡ some g → IsPrefix g.seen w.seen × (g.mine ≡ calls_by g.me w.seen)
    pub apart : (q : Quantum) → times q v.taken + total (λ g. times q g.taken) v.guests < 2
    pub issued : (q : Quantum) → times q v.taken + total (λ g. times q g.taken) v.guests ≤ times q (issues quanta w.seen)
    pub whole : v.turn ≡ true → v.whole ≡ w.seen

  -- by a look of a pass, whose load is listed
  pub record Looked (v : View E T) (n : ℕ) (w : View E T) : Type 0 where
    pub same : w ≡ record v { seen = w.seen; loads = v.loads ++ (0, n) ∷ [] }
    pub learns : Learns v n w

  -- by a load that isn't listed
  pub record Settled (v : View E T) (n : ℕ) (w : View E T) : Type 0 where
    pub same : w ≡ record v { seen = w.seen }
    pub learns : Learns v n w

  -- the pass entered an entry, which is named by a list of one
  pub record Noted (entry : List E) (v : View E T) (n : ℕ) (w : View E T) : Type 0 where
    pub e : E
    pub is_entry : entry ≡ e ∷ []
    pub found : n ≡ length v.whole
    pub same : w ≡ record v { seen = v.whole ++ (v.me, e) ∷ []; whole = v.whole ++ (v.me, e) ∷ []; mine = v.mine ++ e ∷ []; left = v.left ++ quanta e }
    pub grew : IsPrefix v.seen v.whole
    pub mine : v.mine ≡ calls_by v.me v.whole
    pub is_legal : (t : T) → v.terms ≡ t ∷ [] → legal t w.seen

module _ {E T : Type 0} where
  -- a pass loaded a processor's word
  pub record Peeked (p : ℕ) (v : View E T) (n : ℕ) (w : View E T) : Type 0 where
    pub same : w ≡ record v { loads = v.loads ++ (1 + p, n) ∷ [] }

  -- the keeper loaded one, and knows it empty where it was 0
  pub record Checked (p : ℕ) (v : View E T) (n : ℕ) (w : View E T) : Type 0 where
    pub same : w ≡ record v { loads = v.loads ++ (1 + p, n) ∷ []; empty = if n == 0 then v.empty ++ p ∷ [] else v.empty }

  -- the keeper put a quantum onto the word of its processor
  pub record Put (q : Quantum) (v w : View E T) : Type 0 where
    pub same : w ≡ record v { left = quanta_without q v.left; issued = v.issued ++ q ∷ []; empty = but q.processor v.empty }

  -- the word held what was expected, and the pass took its quantum; or another value, and the load is listed
  abbrev pub after_take : Bool → ℕ → ℕ → View E T → ℕ → View E T
  after_take true p old v n = record v { taken = v.taken ++ quantum_at p old ∷ [] }
  after_take false p old v n = record v { loads = v.loads ++ (1 + p, n) ∷ [] }

  pub record Taken (p old : ℕ) (v : View E T) (n : ℕ) (w : View E T) : Type 0 where
    pub same : w ≡ after_take (n == old) p old v n
    pub fresh : n ≡ old → times (quantum_at p old) v.taken ≡ 0
