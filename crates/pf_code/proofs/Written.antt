-- A table's text, by its parts.
use Rattle.std.proofs.Common.{◌≡◌, ◌∙◌, ℕ, ◌+◌, ◌==◌, ◌<◌, ◌≤◌, cond, Option, Some, List, [], ◌∷◌, ◌++◌, codes, length, drop, take, get_or, sym, ap, append_assoc, arith}
use Rattle.std.specs.List.{flat_map, range_with_len, slice_get}
use Rattle.std.proofs.lemmas.Bool.{eq-eqb, ne_eqb}
use Rattle.std.proofs.lemmas.List.{append-nil, at_drop_more, length-append, length-take-le, get_or-take}
use Rattle.std.proofs.lemmas.List.Concat.{flat_map-cons}
use Rattle.std.proofs.lemmas.Option.{get_or_from_slice_get}
use Rattle.pf_lemmas.proofs.Lists.{two_written, three_written}
use Rattle.pf_order.specs.declared.pick.Pick.{Pick}
use Rattle.pf_place.specs.Occupancy.{sitter}
use Rattle.pf_code.specs.Array.{row_text, rows_or_nobody, seat_with}

-- Use: a row with nobody stands in the place of rows that are none.
pub rows_stand : (m slots : ℕ) (front end : List ℕ) (rows : List (List (Option Pick))) → slots ≡ length rows →
    (front ++ cond (slots == 0) (row_text m []) []) ++ (flat_map (row_text m) rows ++ end) ≡ front ++ flat_map (row_text m) (rows_or_nobody rows) ++ end
rows_stand m slots front end [] is =
    ap (λ b. (front ++ cond b (row_text m []) []) ++ end) (eq-eqb slots 0 is)
    ∙ ap (λ t. (front ++ t) ++ end) (sym (append-nil (row_text m [])) ∙ sym (flat_map-cons (row_text m) [] []))
rows_stand m slots front end (row ∷ rows) is =
    let lines = flat_map (row_text m) (row ∷ rows) in
    ap (λ b. (front ++ cond b (row_text m []) []) ++ (lines ++ end)) (ne_eqb slots 0 (λ e. omega (arith, e, is)))
    ∙ ap (λ t. t ++ (lines ++ end)) (append-nil front)
    ∙ sym (append_assoc front lines end)

-- one row further
pub rows_next : (m k t to : ℕ) (rows : List (List (Option Pick))) (row : List (Option Pick)) (old new whole : List ℕ) → k ≡ m → t < to → to ≤ length rows →
    Some row ≡ slice_get rows t → new ≡ old ++ row_text k row → old ++ flat_map (row_text m) (drop t (take to rows)) ≡ whole →
    new ++ flat_map (row_text m) (drop (t + 1) (take to rows)) ≡ whole
rows_next m k t to rows row old new whole same lt within of_row is so_far =
    let part = take to rows in
    let rest = flat_map (row_text m) (drop (t + 1) part) in
    let at : row ≡ get_or part t row = sym (get_or-take to rows t row lt ∙ get_or_from_slice_get rows t row row (sym of_row)) in
    ap (λ text. text ++ rest) (is ∙ ap (λ n. old ++ row_text n row) same)
    ∙ append_assoc old (row_text m row) rest
    ∙ ap (λ text. old ++ text)
    (sym (at_drop_more (flat_map (row_text m)) part t row (omega (arith, lt, within, length-take-le to rows within))
    ∙ ap (λ first. flat_map (row_text m) (first ∷ drop (t + 1) part)) (sym at)
    ∙ flat_map-cons (row_text m) row (drop (t + 1) part)))
    ∙ so_far

pub row_some : (m : ℕ) (row : List (Option Pick)) (old new : List ℕ) → new ≡ old ++ row_text m row → 0 < length new
row_some m row old new is =
    let seats = flat_map (λ p. seat_with p (sitter row p)) (range_with_len 0 m) in
    omega (arith, ap length is, length-append old (row_text m row), length-append seats (codes "},\n"))

-- four texts and five, one after another
four_written : (xs a b c d ys zs ws vs : List ℕ) → ys ≡ xs ++ a → zs ≡ ys ++ b → ws ≡ zs ++ c → vs ≡ ws ++ d → vs ≡ xs ++ (a ++ b ++ c ++ d)
four_written xs a b c d ys zs ws vs p q r s = two_written xs (a ++ b ++ c) d ws vs (three_written xs a b c ys zs ws p q r) s

pub five_written : (xs a b c d e ys zs ws vs us : List ℕ) → ys ≡ xs ++ a → zs ≡ ys ++ b → ws ≡ zs ++ c → vs ≡ ws ++ d → us ≡ vs ++ e →
    us ≡ xs ++ (a ++ b ++ c ++ d ++ e)
five_written xs a b c d e ys zs ws vs us p q r s t = two_written xs (a ++ b ++ c ++ d) e vs us (four_written xs a b c d ys zs ws vs p q r s) t
