-- Blanks at the end of a text.
use Rattle.std.proofs.Common.{◌≡◌, ◌≢◌, ℕ, zero, suc, ◌+◌, ◌-◌, ◌<◌, ◌≤◌, ◌∙◌, List, [], ◌∷◌, ◌++◌, take, length, replicate, get_or, append_assoc, codes, refl, sym, ap, arith}
use Rattle.std.proofs.lemmas.Bool.{ne_eqb}
use Rattle.std.proofs.lemmas.List.{replicate_more}
use Rattle.pf_lemmas.proofs.Lists.{take_last}
use Rattle.pf_text.specs.Columns.Columns.{padded, without_blank, without_end_blanks}

blank_left_out : (xs : List ℕ) → without_end_blanks (xs ++ 32 ∷ []) ≡ without_end_blanks xs
unfolding without_end_blanks
blank_left_out [] = refl
blank_left_out (x ∷ xs) = ap (without_blank x) (blank_left_out xs)

other_kept : (xs : List ℕ) (b : ℕ) → b ≢ 32 → without_end_blanks (xs ++ b ∷ []) ≡ xs ++ b ∷ []
unfolding without_end_blanks
other_kept [] b other = rw (ne_eqb b 32 other) refl
other_kept (x ∷ []) b other = ap (without_blank x) (other_kept [] b other)
other_kept (x ∷ y ∷ xs) b other = ap (without_blank x) (other_kept (y ∷ xs) b other)

pub one_less : (text : List ℕ) (end : ℕ) → 0 < end → end ≤ length text → get_or text (end - 1) 0 ≡ 32
    → without_end_blanks (take end text) ≡ without_end_blanks (take (end - 1) text)
one_less text end some within blank =
    ap without_end_blanks (take_last text end some within ∙ ap (λ b. take (end - 1) text ++ b ∷ []) blank) ∙ blank_left_out (take (end - 1) text)

pub at_end : (text : List ℕ) (end : ℕ) → 0 < end → end ≤ length text → get_or text (end - 1) 0 ≢ 32
    → without_end_blanks (take end text) ≡ take end text
at_end text end some within other =
    ap without_end_blanks (take_last text end some within) ∙ other_kept (take (end - 1) text) (get_or text (end - 1) 0) other
    ∙ sym (take_last text end some within)

pub nothing_left : (text : List ℕ) (end : ℕ) → end ≡ 0 → take end text ≡ without_end_blanks (take end text)
unfolding without_end_blanks
nothing_left text zero e = refl
nothing_left text (suc end) e = absurd (omega (arith, e))

pub blank_more : (xs ys : List ℕ) (n : ℕ) → ys ≡ xs ++ replicate n 32 → ys ++ 32 ∷ [] ≡ xs ++ replicate (n + 1) 32
blank_more xs ys n e = ap (λ v. v ++ 32 ∷ []) e ∙ append_assoc xs (replicate n 32) (32 ∷ []) ∙ ap (λ v. xs ++ v) (replicate_more n 32)

pub padded_end : (xs cell behind line longer : List ℕ) (width n : ℕ) → n ≡ width - length cell
    → behind ≡ xs ++ cell → line ≡ behind ++ replicate n 32 → longer ≡ line ++ codes "  " → longer ≡ xs ++ padded width cell
padded_end xs cell behind line longer width n few a b e =
    e ∙ ap (λ v. v ++ codes "  ") (b ∙ ap (λ v. v ++ replicate n 32) a ∙ ap (λ k. (xs ++ cell) ++ replicate k 32) few)
    ∙ ap (λ v. v ++ codes "  ") (append_assoc xs cell (replicate (width - length cell) 32))
    ∙ append_assoc xs (cell ++ replicate (width - length cell) 32) (codes "  ")
