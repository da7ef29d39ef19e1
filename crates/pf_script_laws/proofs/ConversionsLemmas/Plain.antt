-- Fields that need no quotes, and have no blanks around them.
use Rattle.std.proofs.Common.{◌≡◌, ◌∙◌, ◌^◌, ◌<◌, ◌≤◌, ◌+◌, ◌-◌, ◌==◌, ◌≢◌, ℕ, Bool, true, false, List, [], ◌∷◌, ◌++◌, codes, length, length-append, get_or, drop, take, ap, arith, refl, sym, inl, inr}
use Rattle.std.specs.Prelude.{◌&&◌, not, nat_le, eqb}
use Rattle.std.specs.Char.{is_ascii_alphabetic, is_ascii_digit, is_ascii_whitespace}
use Rattle.std.specs.Fmt.{decimal}
use Rattle.std.specs.List.{ends_with, list_all, list_any}
use Rattle.std.specs.Str.{all_ascii_digits}
use Rattle.std.proofs.lemmas.Bool.{cases_Bool, ne_eqb, and_parts, and_right}
use Rattle.std.proofs.lemmas.Bool.Decides.{nat_tests}
use Rattle.std.proofs.lemmas.Fmt.{digits_decimal}
use Rattle.std.proofs.lemmas.List.{at_drop_all, at_drop_more, take_all, take_more}
use Rattle.std.proofs.lemmas.List.Folds.{list_all_at}
use Rattle.std.proofs.lemmas.Str.Parse.{numerals_by_value, tells_all_ascii_digits}
use lib.Pointwise.{pointwise}
use Rattle.csv.proofs.RecordFacts.{end-plain}
use Rattle.pf_lemmas.proofs.Digits.{digit_dark}
use Rattle.pf_vocabulary.specs.Names.Text.{is_letter_first, is_text, is_text_byte}
use Rattle.csv.specs.Records.{trim_end, trim_start, trimmed}
use Rattle.csv.specs.Writing.{default_writer, needs_byte}

-- a byte that is no mark
pub plain_byte : (b : ℕ) → b ≢ 44 → b ≢ 34 → b ≢ 13 → b ≢ 10 → needs_byte default_writer b ≡ false
plain_byte b comma quote cr lf = rw (ne_eqb b 44 comma, ne_eqb b 34 quote, ne_eqb b 13 cr, ne_eqb b 10 lf) refl

digit_low : (b : ℕ) → is_ascii_digit b ≡ true → 48 ≤ b
digit_low b digit = grind (arith, nat_tests, digit)

pub plain_digits : (bs : List ℕ) → all_ascii_digits bs ≡ true → list_any (needs_byte default_writer) bs ≡ false
plain_digits [] all = refl
plain_digits (b ∷ bs) all =
    let low = digit_low b (and_parts (is_ascii_digit b) (all_ascii_digits bs) all).0 in
    rw (plain_byte b (λ e. omega (arith, e, low)) (λ e. omega (arith, e, low)) (λ e. omega (arith, e, low)) (λ e. omega (arith, e, low)))
    (plain_digits bs (and_parts (is_ascii_digit b) (all_ascii_digits bs) all).1)

end_digits : (bs : List ℕ) → all_ascii_digits bs ≡ true → trim_end bs ≡ length bs
unfolding trim_end
end_digits [] all = refl
end_digits (b ∷ bs) all =
    let dark = digit_dark b (and_parts (is_ascii_digit b) (all_ascii_digits bs) all).0 in
    let more : trim_end bs ≡ length bs = end_digits bs (and_parts (is_ascii_digit b) (all_ascii_digits bs) all).1 in
    rw (dark, and_right (trim_end bs == 0) false refl) (omega (arith, more))

start_digits : (bs : List ℕ) → all_ascii_digits bs ≡ true → trim_start bs ≡ bs
unfolding trim_start
start_digits [] all = refl
start_digits (b ∷ bs) all = rw (digit_dark b (and_parts (is_ascii_digit b) (all_ascii_digits bs) all).0) refl

digits_trimmed : (bs : List ℕ) → all_ascii_digits bs ≡ true → trimmed bs ≡ bs
digits_trimmed bs all = rw (start_digits bs all, end_digits bs all) (take_all (length bs) bs (omega arith))

digits_of : (n : ℕ) → n < 10 ^ 15 → all_ascii_digits (decimal n) ≡ true
digits_of n small = digits_decimal (numerals_by_value (λ ds. all_ascii_digits ds ≡ true) tells_all_ascii_digits) n (omega (arith, small))

-- the fields of numbers
pub number_plain : (n : ℕ) → n < 10 ^ 15 → list_any (needs_byte default_writer) (decimal n) ≡ false
number_plain n small = plain_digits (decimal n) (digits_of n small)

pub number_trimmed : (n : ℕ) → n < 10 ^ 15 → trimmed (decimal n) ≡ decimal n
number_trimmed n small = digits_trimmed (decimal n) (digits_of n small)

-- the same of texts
text_needs_none : (b : ℕ) → is_text_byte b ≡ true → needs_byte default_writer b ≡ false
text_needs_none b text =
    plain_byte b (λ e. other 44 e refl) (λ e. other 34 e refl) (λ e. other 13 e refl) (λ e. other 10 e refl)
  where
    other : (mark : ℕ) → b ≡ mark → is_text_byte mark ≡ false → ⊥
    other mark e none = let bad : true ≡ false = sym text ∙ (ap is_text_byte e ∙ none) in cc

text_plain : (bs : List ℕ) → list_all is_text_byte bs ≡ true → list_any (needs_byte default_writer) bs ≡ false
text_plain [] all = refl
text_plain (b ∷ bs) all =
    rw (text_needs_none b (and_parts (is_text_byte b) (list_all is_text_byte bs) all).0) (text_plain bs (and_parts (is_text_byte b) (list_all is_text_byte bs) all).1)

letter_dark : (b : ℕ) → is_ascii_alphabetic b ≡ true → is_ascii_whitespace b ≡ false
letter_dark b letter = grind (arith, nat_tests, letter)

start_letter : (bs : List ℕ) → is_letter_first bs ≡ true → trim_start bs ≡ bs
unfolding trim_start
start_letter [] first = refl
start_letter (b ∷ bs) first = rw (letter_dark b first) refl

some_byte : (bs : List ℕ) → is_letter_first bs ≡ true → 1 ≤ length bs
some_byte [] first = let bad : false ≡ true = first in cc
some_byte (b ∷ bs) first = omega arith

text_dark : (b : ℕ) → is_text_byte b ≡ true → (32 == b) ≡ false → is_ascii_whitespace b ≡ false
text_dark b text space = grind (arith, nat_tests, text, space)

true_left : (a : Bool) → (a && true) ≡ false → a ≡ false
true_left true e = e
true_left false e = refl

-- the last byte of a text
text_last : (bs : List ℕ) (i : ℕ) → list_all is_text_byte bs ≡ true → i < length bs → is_text_byte (get_or bs i 0) ≡ true
text_last bs i all lt = elim (cases_Bool (is_text_byte (get_or bs i 0))) [
  | inl text ↦ text
  | inr none ↦ let bad : true ≡ false = sym all ∙ list_all_at is_text_byte bs i 0 lt none in cc
]

no_space : (bs : List ℕ) → 1 ≤ length bs → ends_with eqb bs (codes " ") ≡ false → (32 == get_or bs (length bs - 1) 0) ≡ false
no_space bs some none =
    let at = length bs - 1 in
    let test = pointwise eqb (codes " ") in
    let last = get_or bs at 0 in
    let one : test (last ∷ drop (at + 1) bs) ≡ false = sym (at_drop_more test bs at 0 (omega (arith, some))) ∙ none in
    let alone : test (last ∷ []) ≡ false = sym (at_drop_all (λ ds. test (last ∷ ds)) bs (at + 1) (omega (arith, some))) ∙ one in
    true_left (32 == last) alone

end_text : (bs : List ℕ) → 1 ≤ length bs → list_all is_text_byte bs ≡ true → ends_with eqb bs (codes " ") ≡ false → trim_end bs ≡ length bs
end_text bs some all none =
    let at = length bs - 1 in
    let last = get_or bs at 0 in
    let dark = text_dark last (text_last bs at all (omega (arith, some))) (no_space bs some none) in
    let whole : bs ≡ take at bs ++ last ∷ [] =
    sym (take_all (at + 1) bs (omega (arith, some))) ∙ take_more bs at 0 (omega (arith, some)) in
    let counted : length bs ≡ length (take at bs) + 1 = ap length whole ∙ (omega (arith, length-append (take at bs) (last ∷ []))) in
    ap trim_end whole ∙ end-plain (take at bs) last dark ∙ sym counted

pub name_plain : (bs : List ℕ) → is_text bs ≡ true → (list_any (needs_byte default_writer) bs ≡ false) × (trimmed bs ≡ bs)
unfolding is_text
name_plain bs text =
    let short = nat_le (length bs) 24 in
    let first = is_letter_first bs in
    let all = list_all is_text_byte bs in
    let end = not (ends_with eqb bs (codes " ")) in
    let three = (and_parts (short && first && all) end text).0 in
    let is_all = (and_parts (short && first) all three).1 in
    let is_first = (and_parts short first (and_parts (short && first) all three).0).1 in
    let is_end = not_true (ends_with eqb bs (codes " ")) (and_parts (short && first && all) end text).1 in (
      text_plain bs is_all,
      rw (start_letter bs is_first, end_text bs (some_byte bs is_first) is_all is_end) (take_all (length bs) bs (omega arith)),
    )
  where
    not_true : (b : Bool) → not b ≡ true → b ≡ false
    not_true true e = let bad : false ≡ true = e in cc
    not_true false e = refl
