-- Texts without `<`: digits, and strings as JSON quotes them.
use Rattle.std.proofs.Common.{◌≡◌, ◌∙◌, ◌==◌, ◌&&◌, not, nat_lt, cond, ℕ, zero, suc, ◌/◌, ◌%◌, Bool, true, false, ℤ, pos, negsuc, List, [], ◌∷◌, ◌++◌, refl, arith}
use Rattle.std.specs.Prelude.{if◌then◌else◌}
use Rattle.std.specs.Char.{digit_char}
use Rattle.std.specs.Fmt.{decimal, digit_glyph, digits, digits_onto, signed_decimal}
use Rattle.std.proofs.lemmas.Bool.Decides.{nat_tests}
use Rattle.std.proofs.lemmas.List.Folds.{list_all-append}
use Rattle.std.proofs.lemmas.Bool.{and_parts}
use Rattle.json.specs.Print.{escape, escape_byte, escape_letter, quoted}
use Rattle.pf_script_laws.specs.InertPages.Page.{is_inert}

pub both : (a b : Bool) → a ≡ true → b ≡ true → (a && b) ≡ true
both a b p q = rw p q

pub joined : (a b : List ℕ) → is_inert a ≡ true → is_inert b ≡ true → is_inert (a ++ b) ≡ true
joined a b p q = list_all-append (λ byte. not (byte == 60)) a b ∙ both (is_inert a) (is_inert b) p q

glyph_inert : (d : ℕ) → not (digit_glyph false d == 60) ≡ true
glyph_inert d = grind (arith, nat_tests)

onto_inert : (k n : ℕ) (behind : List ℕ) → is_inert behind ≡ true → is_inert (digits_onto k 10 false n behind) ≡ true
onto_inert zero n behind inert = inert
onto_inert (suc k) n behind inert =
    let more : is_inert (digit_glyph false (n % 10) ∷ behind) ≡ true =
    both (not (digit_glyph false (n % 10) == 60)) (is_inert behind) (glyph_inert (n % 10)) inert in
    by (n / 10 == 0) more (onto_inert k (n / 10) (digit_glyph false (n % 10) ∷ behind) more)
  where
    by : (last : Bool) → is_inert (digit_glyph false (n % 10) ∷ behind) ≡ true
        → is_inert (digits_onto k 10 false (n / 10) (digit_glyph false (n % 10) ∷ behind)) ≡ true
        → is_inert (if last then digit_glyph false (n % 10) ∷ behind else digits_onto k 10 false (n / 10) (digit_glyph false (n % 10) ∷ behind)) ≡ true
    by true here more = here
    by false here more = more

pub decimal_inert : (n : ℕ) → is_inert (decimal n) ≡ true
unfolding digits
decimal_inert n = onto_inert 64 n [] refl

pub signed_inert : (z : ℤ) → is_inert (signed_decimal z) ≡ true
signed_inert (pos n) = decimal_inert n
signed_inert (negsuc n) = decimal_inert (suc n)

char_inert : (d : ℕ) → not (digit_char d == 60) ≡ true
char_inert d = grind (arith, nat_tests)

letter_inert : (byte : ℕ) → not (byte == 60) ≡ true → not (escape_letter byte == 60) ≡ true
letter_inert byte other = grind (arith, nat_tests)

byte_inert : (byte : ℕ) → not (byte == 60) ≡ true → is_inert (escape_byte byte) ≡ true
unfolding escape_byte
byte_inert byte other = by (nat_lt 0 (escape_letter byte)) (nat_lt byte 32)
  where
    by : (short control : Bool)
        → is_inert (cond short (92 ∷ escape_letter byte ∷ [])
        (cond control (92 ∷ 117 ∷ 48 ∷ 48 ∷ digit_char (byte / 16) ∷ digit_char (byte % 16) ∷ []) (byte ∷ []))) ≡ true
    by true control = both (not (escape_letter byte == 60)) true (letter_inert byte other) refl
    by false true =
        both (not (digit_char (byte / 16) == 60)) (not (digit_char (byte % 16) == 60) && true) (char_inert (byte / 16))
        (both (not (digit_char (byte % 16) == 60)) true (char_inert (byte % 16)) refl)
    by false false = both (not (byte == 60)) true other refl

escape_inert : (text : List ℕ) → is_inert text ≡ true → is_inert (escape text) ≡ true
escape_inert [] inert = refl
escape_inert (byte ∷ text) inert =
    joined (escape_byte byte) (escape text) (byte_inert byte (and_parts (not (byte == 60)) (is_inert text) inert).0)
    (escape_inert text (and_parts (not (byte == 60)) (is_inert text) inert).1)

pub quoted_inert : (text : List ℕ) → is_inert text ≡ true → is_inert (quoted text) ≡ true
quoted_inert text inert = joined (escape text) (34 ∷ []) (escape_inert text inert) refl
