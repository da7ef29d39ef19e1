-- What a name's bytes are.
use Rattle.std.proofs.Common.{◌≡◌, ℕ, ◌≤◌, ◌<◌, true, List, [], ◌∷◌, length, rules, tests}
use Rattle.std.specs.List.{All, list_all}
use Rattle.std.specs.Str.{IsUtf8}
use Rattle.std.proofs.lemmas.Str.{IsUtf8-from_ascii}
use Rattle.std.proofs.lemmas.Str.Ascii.{IsAscii-from_all}
use Rattle.std.proofs.lemmas.List.Elements.{All-nil, All-cons}
use Rattle.std.proofs.lemmas.Bool.{and_parts}
use Rattle.pf_vocabulary.specs.Names.Text.{is_text, is_text_byte}

pub is_short : (bytes : List ℕ) → is_text bytes ≡ true → length bytes ≤ 24
unfolding is_text
is_short bytes e = search (rules, tests)

has_text_bytes : (bytes : List ℕ) → is_text bytes ≡ true → list_all is_text_byte bytes ≡ true
unfolding is_text
has_text_bytes bytes e = search (rules, tests)

is_ascii_byte : (byte : ℕ) → is_text_byte byte ≡ true → byte < 128
is_ascii_byte byte e = search (rules, tests)

all_ascii : (bytes : List ℕ) → list_all is_text_byte bytes ≡ true → All (λ byte. byte < 128) bytes
all_ascii [] e = All-nil _
all_ascii (byte ∷ bytes) e =
    let p = and_parts (is_text_byte byte) (list_all is_text_byte bytes) e in
    All-cons (λ b. b < 128) byte bytes (is_ascii_byte byte p.0) (all_ascii bytes p.1)

pub is_utf8 : (bytes : List ℕ) → is_text bytes ≡ true → IsUtf8 bytes
is_utf8 bytes e = IsUtf8-from_ascii bytes (IsAscii-from_all bytes (all_ascii bytes (has_text_bytes bytes e)))
