-- The rule of the table says that words and views show a state that the shared machine reaches.
use Rattle.std.proofs.Common.{ℕ, Bool, List, drop, sym, ap, ◌∙◌}
use Rattle.std.specs.Prelude.{slice_index}
use Rattle.pf_board.specs.declared.quantum.Quantum.{Quantum}
use Rattle.pf_board.specs.declared.view.View.{View}
use Rattle.pf_board.specs.Words.{on_each_word}
use Rattle.pf_board.specs.Kept.{Core, machine_of, Fits}
use Rattle.pf_board.specs.Shown.{ShowsPart, BoardShowsTheMachine}
use Rattle.pf_board.proofs.Sums.{not_below}

module _ {E T : Type 0} (quanta : E → List Quantum) (steps : E → Bool) (legal : T → List (ℕ × E) → Type 0) where
  part : (terms : T) (c : Core E) (seat : ℕ) (v : View E T) → Fits terms c seat v → ShowsPart (machine_of c) v
  part terms c seat v f = record {
    seen = f.seen;
    whole = λ on. (f.whole on).whole;
    own = λ named. record { seen = f.seen; mine = f.mine named; taken = f.took named };
    guests = λ k g e. let x = f.guests k g e in record { seen = x.0; mine = x.1; taken = x.2 };
  }

  pub board_shows : BoardShowsTheMachine quanta steps legal
  board_shows charter words views k = record {
    state = machine_of k.core;
    issued = k.core.issued;
    reached = k.reached;
    shown = record {
      count = ap (λ ws. slice_index ws 0) k.words_are;
      on_processors = ap (λ ws. on_each_word 0 (drop 1 ws)) k.words_are;
      parts = λ seat v e. part charter.terms.value k.core seat v (k.fits seat v e);
      unmade = λ m lt none. k.unmade m (not_below k.core.next m (sym (k.hands.each m) ∙ none)) lt;
    };
  }
