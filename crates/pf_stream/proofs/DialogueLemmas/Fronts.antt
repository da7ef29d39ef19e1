-- The front of a line, before the bytes that come after it.
use Rattle.std.proofs.Common.{◌≡◌, ◌∙◌, ℕ, Bool, true, false, List, [], ◌∷◌, ◌++◌, length, refl, ap}
use Rattle.std.specs.Prelude.{◌==◌, nat_lt, if◌then◌else◌}
use Rattle.pf_stream.specs.Dialogue.Lines.{IsFront, ended, lines_in, longer, rest_in}
use Rattle.pf_stream.specs.declared.dialogue.lines.TheConstants.{LINE_KEPT}

-- bytes after bytes
lines_step : (ends : Bool) (line left right q : List ℕ) (a b x y : List (List ℕ)) → x ≡ a ++ lines_in left q → y ≡ b ++ lines_in right q
    → (if ends then line ∷ x else y) ≡ (if ends then line ∷ a else b) ++ lines_in (if ends then left else right) q
lines_step true line left right q a b x y e f = ap (λ (l : List (List ℕ)). line ∷ l) e
lines_step false line left right q a b x y e f = f

rest_step : (ends : Bool) (left right q x y : List ℕ) → x ≡ rest_in left q → y ≡ rest_in right q
    → (if ends then x else y) ≡ rest_in (if ends then left else right) q
rest_step true left right q x y e f = e
rest_step false left right q x y e f = f

lines_both : (line p q : List ℕ) → lines_in line (p ++ q) ≡ lines_in line p ++ lines_in (rest_in line p) q
lines_both line [] q = refl
lines_both line (byte ∷ p) q = lines_step (byte == 10) (ended line) _ _ q _ _ _ _ (lines_both [] p q) (lines_both (longer line byte) p q)

rest_both : (line p q : List ℕ) → rest_in line (p ++ q) ≡ rest_in (rest_in line p) q
rest_both line [] q = refl
rest_both line (byte ∷ p) q = rest_step (byte == 10) _ _ q _ _ (rest_both [] p q) (rest_both (longer line byte) p q)

-- Use: the lines after a front, and the front that is left.
pub front_lines : (line q : List ℕ) → IsFront line → lines_in [] (line ++ q) ≡ lines_in line q
front_lines line q at =
    lines_both [] line q ∙ ap (λ (ls : List (List ℕ)). ls ++ lines_in (rest_in [] line) q) at.lines ∙ ap (λ (l : List ℕ). lines_in l q) at.rest

pub front_rest : (line q : List ℕ) → IsFront line → rest_in [] (line ++ q) ≡ rest_in line q
front_rest line q at = rest_both [] line q ∙ ap (λ (l : List ℕ). rest_in l q) at.rest

pub front_none : IsFront []
front_none = record { lines = refl; rest = refl }

-- Use: a front with one more byte.
pub front_longer : (line : List ℕ) (byte : ℕ) → IsFront line → (byte == 10) ≡ false → IsFront (longer line byte)
front_longer line byte at within = by (nat_lt (length line) LINE_KEPT) refl
  where
    by : (short : Bool) → nat_lt (length line) LINE_KEPT ≡ short → IsFront (if short then line ++ byte ∷ [] else line)
    by true short = record {
      lines = front_lines line (byte ∷ []) at ∙ rw within refl;
      rest = front_rest line (byte ∷ []) at ∙ rw (within, short) refl;
    }
    by false long = at
