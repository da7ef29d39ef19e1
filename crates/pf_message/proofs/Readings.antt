-- A reader at a byte, or at the end.
use Rattle.std.proofs.Common.{rules, ◌≡◌, ◌+◌, ◌≤◌, ◌==◌, ℕ, Bool, true, false, List, [], ◌∷◌, drop, length, refl, arith}
use Rattle.std.specs.Prelude.{◌||◌, Some, None, nat_lt, is_none}
use Rattle.std.proofs.lemmas.List.{drop-drop}
use Rattle.pf_message.specs.declared.field_part.FieldPart.{FieldPart}
use Rattle.pf_message.specs.declared.position.Position.{Position}
use Rattle.pf_message.specs.Positions.{Reading, byte_passed_from, commas_left, end_from, ends_in_quotes, field_from, first_byte, is_blank_byte, is_line_rest, is_quoted, line_from, line_start, part_after, position_after, reading_of, shown_from}

-- Use: after a byte there is what was left after the first.
pub passed : (p : Position) (before byte : ℕ) (left : List ℕ) → first_byte left ≡ Some byte
    → byte_passed_from p before left ≡ record { position = position_after p before byte; before = byte; left = drop 1 left }
passed p before byte [] is = search rules
passed p before byte (first ∷ left) is = search rules

pub rest_after : (at : ℕ) (bytes : List ℕ) → drop 1 (drop at bytes) ≡ drop (at + 1) bytes
rest_after at bytes = drop-drop 1 at bytes

-- Use: fewer bytes are left after one.
pub fewer_left : (p : Position) (before byte : ℕ) (left : List ℕ) → first_byte left ≡ Some byte → length (byte_passed_from p before left).left + 1 ≡ length left
fewer_left p before byte [] is = search rules
fewer_left p before byte (first ∷ left) is = search rules

abbrev stay : Position → ℕ → List ℕ → Reading
stay p before left = record { position = p; before = before; left = left }

-- Use: at the end each walk is over.
pub line_ends : (line : ℕ) (p : Position) (before : ℕ) (left : List ℕ) → first_byte left ≡ None → line_from line p before left ≡ stay p before left
unfolding line_from
line_ends line p before [] is = refl
line_ends line p before (first ∷ left) is = search rules

pub field_ends : (commas : ℕ) (part : FieldPart) (p : Position) (before : ℕ) (left : List ℕ) → first_byte left ≡ None
    → field_from commas part p before left ≡ stay p before left
unfolding field_from
field_ends commas part p before [] is = refl
field_ends commas part p before (first ∷ left) is = search rules

pub shown_ends : (p : Position) (before : ℕ) (left : List ℕ) → first_byte left ≡ None → shown_from p before left ≡ stay p before left
unfolding shown_from
shown_ends p before [] is = refl
shown_ends p before (first ∷ left) is = search rules

-- Use: a walk stops at a byte, or goes on after it.
pub line_stops : (line : ℕ) (p : Position) (before byte : ℕ) (left : List ℕ) → first_byte left ≡ Some byte
    → (nat_lt p.line line || is_line_rest before byte) ≡ false → line_from line p before left ≡ stay p before left
unfolding line_from
line_stops line p before byte [] is stops = search rules
line_stops line p before byte (first ∷ left) is stops = search rules

pub line_goes_on : (line : ℕ) (p : Position) (before byte : ℕ) (left : List ℕ) → first_byte left ≡ Some byte
    → (nat_lt p.line line || is_line_rest before byte) ≡ true
    → line_from line p before left ≡ line_from line (position_after p before byte) byte (drop 1 left)
unfolding line_from
line_goes_on line p before byte [] is goes = search rules
line_goes_on line p before byte (first ∷ left) is goes = search rules

pub field_stops : (commas : ℕ) (part : FieldPart) (p : Position) (before byte : ℕ) (left : List ℕ) → first_byte left ≡ Some byte
    → (commas == 0 || is_none (part_after part byte)) ≡ true → field_from commas part p before left ≡ stay p before left
unfolding field_from
field_stops commas part p before byte [] is stops = search rules
field_stops commas part p before byte (first ∷ left) is stops = search rules

pub field_goes_on : (commas : ℕ) (part next : FieldPart) (p : Position) (before byte : ℕ) (left : List ℕ) → first_byte left ≡ Some byte
    → (commas == 0) ≡ false → part_after part byte ≡ Some next
    → field_from commas part p before left ≡ field_from (commas_left commas next) next (position_after p before byte) byte (drop 1 left)
unfolding field_from
field_goes_on commas part next p before byte [] is some goes = search rules
field_goes_on commas part next p before byte (first ∷ left) is some goes = search rules

pub shown_stops : (p : Position) (before byte : ℕ) (left : List ℕ) → first_byte left ≡ Some byte → is_blank_byte byte ≡ false
    → shown_from p before left ≡ stay p before left
unfolding shown_from
shown_stops p before byte [] is stops = search rules
shown_stops p before byte (first ∷ left) is stops = search rules

pub shown_goes_on : (p : Position) (before byte : ℕ) (left : List ℕ) → first_byte left ≡ Some byte → is_blank_byte byte ≡ true
    → shown_from p before left ≡ shown_from (position_after p before byte) byte (drop 1 left)
unfolding shown_from
shown_goes_on p before byte [] is goes = search rules
shown_goes_on p before byte (first ∷ left) is goes = search rules

pub end_ends : (p : Position) (before : ℕ) (left : List ℕ) → first_byte left ≡ None → end_from p before left ≡ stay p before left
unfolding end_from
end_ends p before [] is = refl
end_ends p before (first ∷ left) is = search rules

pub end_goes_on : (p : Position) (before byte : ℕ) (left : List ℕ) → first_byte left ≡ Some byte
    → end_from p before left ≡ end_from (position_after p before byte) byte (drop 1 left)
unfolding end_from
end_goes_on p before byte [] is = search rules
end_goes_on p before byte (first ∷ left) is = search rules

pub quotes_end : (part : FieldPart) (left : List ℕ) → first_byte left ≡ None → ends_in_quotes part left ≡ is_quoted part
unfolding ends_in_quotes
quotes_end part [] is = refl
quotes_end part (first ∷ left) is = search rules

pub quotes_stop : (part : FieldPart) (byte : ℕ) (left : List ℕ) → first_byte left ≡ Some byte → part_after part byte ≡ None
    → ends_in_quotes part left ≡ false
unfolding ends_in_quotes
quotes_stop part byte [] is stops = search rules
quotes_stop part byte (first ∷ left) is stops = search rules

pub quotes_go_on : (part next : FieldPart) (byte : ℕ) (left : List ℕ) → first_byte left ≡ Some byte → part_after part byte ≡ Some next
    → ends_in_quotes part left ≡ ends_in_quotes next (drop 1 left)
unfolding ends_in_quotes
quotes_go_on part next byte [] is goes = search rules
quotes_go_on part next byte (first ∷ left) is goes = search rules

goes_further : (near far line : ℕ) (rest : Bool) → near ≤ far → (nat_lt line near || rest) ≡ true → (nat_lt line far || rest) ≡ true
goes_further near far line true le goes = search rules
goes_further near far line false le goes = grind (arith, goes, le)

after_byte : (near far : ℕ) (p : Position) (before byte : ℕ) (left : List ℕ) → near ≤ far
    → line_start far (line_from near (position_after p before byte) byte left) ≡ line_from far (position_after p before byte) byte left
    → (goes : Bool) → (nat_lt p.line near || is_line_rest before byte) ≡ goes
    → line_start far (line_from near p before (byte ∷ left)) ≡ line_from far p before (byte ∷ left)
unfolding line_from
after_byte near far p before byte left le rest true goes = rw (goes, goes_further near far p.line (is_line_rest before byte) le goes) rest
after_byte near far p before byte left le rest false stops = rw stops refl

-- Use: a line is where it was once an earlier one, or itself, was gone to.
pub line_after : (near far : ℕ) (p : Position) (before : ℕ) (left : List ℕ) → near ≤ far
    → line_start far (line_from near p before left) ≡ line_from far p before left
unfolding line_from
line_after near far p before [] le = refl
line_after near far p before (byte ∷ left) le =
    after_byte near far p before byte left le (line_after near far (position_after p before byte) byte left le) (nat_lt p.line near || is_line_rest before byte) refl

-- Use: a text begins with line 1.
pub first_line : (bytes : List ℕ) → line_start 1 (reading_of bytes) ≡ reading_of bytes
unfolding line_from
first_line [] = refl
first_line (byte ∷ bytes) = refl
