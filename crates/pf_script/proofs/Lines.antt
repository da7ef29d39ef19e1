-- The lines of a text, one byte after another.
use Rattle.std.proofs.Common.{◌≡◌, ◌+◌, ◌-◌, ◌<◌, ◌≤◌, ℕ, zero, suc, Bool, false, List, [], ◌∷◌, length, drop, get_or, refl, add-one, drop-cons, arith}
use Rattle.std.specs.Prelude.{if◌then◌else◌}
use Rattle.std.proofs.lemmas.List.{drop_all}
use Rattle.csv.specs.Machine.{step}
use Rattle.csv.specs.Reading.{default_config}
use Rattle.csv.specs.declared.parser.State.{State}
use Rattle.pf_script.specs.declared.place.Place.{Place}
use Rattle.pf_script.specs.Places.{begins_record, line_after, line_if, lines_behind, lines_from, state_of}

-- the lines of what is left of a text, one byte on
lines-next : (s : State) (line before at : ℕ) (bytes : List ℕ) → at < length bytes
    → lines_from s line before (drop at bytes)
    ≡ line_if (begins_record s (get_or bytes at 0)) line
    (lines_from (step default_config s (get_or bytes at 0)).0 (line_after line before (get_or bytes at 0)) (get_or bytes at 0) (drop (at + 1) bytes))
unfolding lines_from
lines-next s line before at bytes h = rw (add-one at, drop-cons bytes at 0) refl

-- the lines that are left, where the place and the line one byte on are known
pub lines-on : (ended : Bool) (p q : Place) (line next before at : ℕ) (bytes : List ℕ) (begins : Bool) → ended ≡ false → at < length bytes
    → state_of q ≡ (step default_config (state_of p) (get_or bytes at 0)).0 → next ≡ line_after line before (get_or bytes at 0)
    → begins ≡ begins_record (state_of p) (get_or bytes at 0)
    → (if ended then [] else lines_from (state_of p) line before (drop at bytes))
    ≡ line_if begins line (if ended then [] else lines_from (state_of q) next (get_or bytes at 0) (drop (at + 1) bytes))
lines-on ended p q line next before at bytes begins going some place number begun =
    rw (going, place, number, begun) (lines-next (state_of p) line before at bytes some)

-- at the end of a text its line is left alone
pub lines-end : (ended : Bool) (p : Place) (line before at : ℕ) (bytes : List ℕ) → ended ≡ false → length bytes ≤ at
    → (if ended then [] else lines_from (state_of p) line before (drop at bytes)) ≡ line ∷ []
unfolding lines_from
lines-end ended p line before at bytes going none = rw (going, drop_all at bytes none) refl

-- Use: one line passed more.
pub behind-drop : (n : ℕ) (lines : List ℕ) → lines_behind (drop n lines) ≡ drop (n + 1) lines
behind-drop n lines = rw (add-one n) (by n lines)
  where
    by : (n : ℕ) (lines : List ℕ) → lines_behind (drop n lines) ≡ drop (suc n) lines
    by zero [] = refl
    by zero (line ∷ lines) = refl
    by (suc n) [] = refl
    by (suc n) (line ∷ lines) = by n lines

drop-behind : (n : ℕ) (lines : List ℕ) → drop n (lines_behind lines) ≡ drop (suc n) lines
drop-behind zero [] = refl
drop-behind (suc n) [] = refl
drop-behind n (line ∷ lines) = refl

-- Use: of the lines passed the first was found.
pub passed-one : (n m : ℕ) (ahead behind : List ℕ) → 0 < n → m ≡ n → behind ≡ lines_behind ahead → drop (m - 1) behind ≡ drop n ahead
passed-one zero m ahead behind some same found = absurd (omega arith)
passed-one (suc n) m ahead behind some same found = rw (let e : m - 1 ≡ n = omega arith in e, found) (drop-behind n ahead)

-- Use: where none was passed all are left.
pub none-passed : (n : ℕ) (lines : List ℕ) → n ≤ 0 → drop n lines ≡ lines
none-passed zero lines none = refl
none-passed (suc n) lines none = absurd (omega arith)
