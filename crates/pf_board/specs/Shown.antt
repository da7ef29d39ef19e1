-- What words and views show of the shared machine.
use Rattle.std.specs.Prelude.{ℕ, slice_index, ◌≡◌, ◌<◌, Bool, true, List, [], length, drop}
use mathlib.Core.List.{IsPrefix}
use mathlib.Core.Option.{some}
use lib.ListN.{get_elem?}
use Rattle.pf_board.specs.declared.quantum.Quantum.{Quantum}
use Rattle.pf_board.specs.declared.hand.Hand.{Hand}
use Rattle.pf_board.specs.declared.view.View.{View}
use Rattle.pf_board.specs.declared.charter.Charter.{Charter}
use Rattle.pf_board.specs.Quanta.{total}
use Rattle.pf_board.specs.Words.{on_each_word}
use Rattle.pf_board.specs.Passes.{calls_by}
use Rattle.pf_board.specs.Views.{hand_of}
use Rattle.pf_board.specs.Machine.{Machine, IsReached}
use Rattle.pf_board.specs.Kept.{hands_of, Kept}

module _ {E : Type 0} where
  -- a hand shows the entries of its number, and what the pass of that number took
  pub record ShowsPass (s : Machine E) (g : Hand E) : Type 0 where
    pub seen : IsPrefix g.seen s.history
    pub mine : g.mine ≡ calls_by g.me s.history
    pub taken : get_elem? s.taken g.me ≡ some g.taken

module _ {E T : Type 0} where
  -- a seat has seen a beginning of the history, the one with the turn all of it; and the hands that it has show their passes
  pub record ShowsPart (s : Machine E) (v : View E T) : Type 0 where
    pub seen : IsPrefix v.seen s.history
    pub whole : v.turn ≡ true → v.whole ≡ s.history
    pub own : v.named ≡ true → ShowsPass s (hand_of v)
    pub guests : (k : ℕ) (g : Hand E) → get_elem? v.guests k ≡ some g → ShowsPass s g

  -- words and views show the state s of the machine with so many passes, but for what is published
  pub record Shows (passes : ℕ) (s : Machine E) (words : List ℕ) (views : List (View E T)) : Type 0 where
    -- word 0 counts the history, and each other word has what lies on its processor's
    pub count : slice_index words 0 ≡ length s.history
    pub on_processors : on_each_word 0 (drop 1 words) ≡ s.words
    pub parts : (seat : ℕ) (v : View E T) → get_elem? views seat ≡ some v → ShowsPart s v
    -- a pass whose hand no seat has took nothing
    pub unmade : (m : ℕ) → m < passes → total (hands_of m) views ≡ 0 → get_elem? s.taken m ≡ some []

  module _ (quanta : E → List Quantum) (steps : E → Bool) (legal : T → List (ℕ × E) → Type 0) where
    -- the words and the views of a board show a state that the shared machine reaches
    pub record ShowsReached (charter : Charter T) (words : List ℕ) (views : List (View E T)) : Type 0 where
      pub state : Machine E
      pub issued : List Quantum
      pub reached : IsReached quanta steps (legal charter.terms.value) charter.processors charter.passes state issued
      pub shown : Shows charter.passes state words views

    -- whatever passes and keepers did: so the table's rule says
    abbrev pub BoardShowsTheMachine : Type 0
    BoardShowsTheMachine = (charter : Charter T) (words : List ℕ) (views : List (View E T)) → Kept quanta steps legal charter words views → ShowsReached charter words views
