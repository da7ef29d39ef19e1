-- The lines of a text, one byte after another.
use Rattle.std.proofs.Common.{◌≡◌, ◌+◌, ◌<◌, ◌≤◌, ℕ, Bool, true, false, List, [], ◌∷◌, length, drop, get_or, refl, add-one, drop-cons, arith}
use Rattle.std.proofs.lemmas.List.{drop_all}
use Rattle.csv.specs.Machine.{step}
use Rattle.csv.specs.declared.parser.State.{State}
use Rattle.pf_text.specs.declared.rows.place.Place.{Place}
use Rattle.pf_text.specs.Rows.Places.{begins_record, line_after, line_if, lines_behind, lines_from, row_config, state_of}

-- the lines of what is left of a text, one byte on
lines-next : (s : State) (line before at : ℕ) (bytes : List ℕ) → at < length bytes
    → lines_from s line before (drop at bytes)
    ≡ line_if (begins_record s (get_or bytes at 0)) line
    (lines_from (step row_config s (get_or bytes at 0)).0 (line_after line before (get_or bytes at 0)) (get_or bytes at 0) (drop (at + 1) bytes))
unfolding lines_from
lines-next s line before at bytes h = rw (add-one at, drop-cons bytes at 0) refl

-- the lines that are left, where the place and the line one byte on are known
pub lines-on : (p q : Place) (line next before at : ℕ) (bytes : List ℕ) (begins : Bool) → at < length bytes
    → state_of q ≡ (step row_config (state_of p) (get_or bytes at 0)).0 → next ≡ line_after line before (get_or bytes at 0)
    → begins ≡ begins_record (state_of p) (get_or bytes at 0)
    → lines_from (state_of p) line before (drop at bytes)
    ≡ line_if begins line (lines_from (state_of q) next (get_or bytes at 0) (drop (at + 1) bytes))
lines-on p q line next before at bytes begins some place number begun =
    rw (place, number, begun) (lines-next (state_of p) line before at bytes some)

-- at the end of a text its line is left alone
pub lines-end : (p : Place) (line before at : ℕ) (bytes : List ℕ) → length bytes ≤ at
    → lines_from (state_of p) line before (drop at bytes) ≡ line ∷ []
unfolding lines_from
lines-end p line before at bytes none = rw (drop_all at bytes none) refl

-- some line is left
pub some-left : (s : State) (line before : ℕ) (bytes : List ℕ) → 1 ≤ length (lines_from s line before bytes)
unfolding lines_from
some-left s line before [] = omega arith
some-left s line before (byte ∷ bytes) = by (begins_record s byte) (some-left (step row_config s byte).0 (line_after line before byte) byte bytes)
  where
    by : (b : Bool) → 1 ≤ length (lines_from (step row_config s byte).0 (line_after line before byte) byte bytes)
        → 1 ≤ length (line_if b line (lines_from (step row_config s byte).0 (line_after line before byte) byte bytes))
    by true h = omega arith
    by false h = h

-- after a line that others follow come those
pub behind-cons : (line : ℕ) (lines : List ℕ) → 1 ≤ length lines → lines_behind (line ∷ lines) ≡ lines
behind-cons line [] h = absurd (omega arith)
behind-cons line (next ∷ lines) h = refl
