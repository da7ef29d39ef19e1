-- No byte of a name ends a comment.
use Rattle.std.proofs.Common.{◌≡◌, ◌≢◌, ℕ, true, List, [], ◌∷◌, All, rules, tests}
use Rattle.std.specs.List.{list_all}
use Rattle.std.proofs.lemmas.Bool.{and_parts}
use Rattle.std.proofs.lemmas.List.Elements.{All-cons, All-nil}
use Rattle.pf_vocabulary.specs.Names.Text.{is_text, is_text_byte}
use Rattle.pf_code.specs.Laws.{NamesEndNoComment}

abbrev IsHarmless : ℕ → Type 0
IsHarmless byte = (byte ≢ 42) × (byte ≢ 47) × (byte ≢ 10)

bytes_of : (name : List ℕ) → is_text name ≡ true → list_all is_text_byte name ≡ true
unfolding is_text
bytes_of name is = search (rules, tests)

harmless : (byte : ℕ) → is_text_byte byte ≡ true → IsHarmless byte
harmless byte is = ((λ e. search (rules, tests)), (λ e. search (rules, tests)), (λ e. search (rules, tests)))

all_harmless : (name : List ℕ) → list_all is_text_byte name ≡ true → All IsHarmless name
all_harmless [] is = All-nil IsHarmless
all_harmless (byte ∷ rest) is =
    let parts = and_parts (is_text_byte byte) (list_all is_text_byte rest) is in
    All-cons IsHarmless byte rest (harmless byte parts.0) (all_harmless rest parts.1)

pub names_end_no_comment : NamesEndNoComment
names_end_no_comment name is = all_harmless name (bytes_of name is)
