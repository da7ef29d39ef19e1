-- What always holds of the views of a pass, of the keeper and of a turn.
use Rattle.std.specs.Prelude.{ℕ, ◌≡◌, true, false, List, [], ◌∷◌}
use Rattle.pf_board.specs.declared.view.View.{View}
use Rattle.pf_board.specs.Passes.{calls_by}

module _ {E T : Type 0} (legal : T → List (ℕ × E) → Type 0) where
  -- a pass has seen a legal history, in which its own entries are those of its number
  pub record IsPass (v : View E T) : Type 0 where
    pub named : v.named ≡ true
    pub off : v.turn ≡ false
    pub is_legal : (t : T) → v.terms ≡ t ∷ [] → legal t v.seen
    pub mine : v.mine ≡ calls_by v.me v.seen
    pub alone : v.guests ≡ []

  -- the keeper, with the turn, has seen the whole
  pub record IsKeeper (v : View E T) : Type 0 where
    pub unnamed : v.named ≡ false
    pub is_legal : (t : T) → v.terms ≡ t ∷ [] → legal t v.seen
    pub none : v.taken ≡ []
    pub alone : v.guests ≡ []
    pub whole : v.turn ≡ true → v.whole ≡ v.seen

module _ {E T : Type 0} where
  pub record IsTurn (v : View E T) : Type 0 where
    pub on : v.turn ≡ true
    pub unnamed : v.named ≡ false
    pub none : v.taken ≡ []
    pub alone : v.guests ≡ []
