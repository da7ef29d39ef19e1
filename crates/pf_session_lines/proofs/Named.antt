-- Only texts name formats.
use Rattle.std.proofs.Common.{◌≡◌, ◌∙◌, ◌<◌, ℕ, List, [], ◌∷◌, Bool, true, false, None, sym, subst, refl, codes, rules, tests}
use Rattle.std.specs.Prelude.{if◌then◌else◌, nat_lt}
use Rattle.std.specs.Str.{IsUtf8, bytes_eq}
use Rattle.std.proofs.lemmas.Slice.Eq.{bytes_eq-Decides}
use Rattle.std.specs.List.{All, list_all}
use Rattle.std.proofs.lemmas.Str.{IsUtf8-from_ascii}
use Rattle.std.proofs.lemmas.Str.Ascii.{IsAscii-from_all}
use Rattle.std.proofs.lemmas.List.Elements.{All-nil, All-cons}
use Rattle.std.proofs.lemmas.Bool.{and_parts}
use Rattle.pf_vocabulary.specs.Options.Formats.{format_named}

abbrev small : ℕ → Bool
small byte = nat_lt byte 128

below : (byte : ℕ) → small byte ≡ true → byte < 128
below byte e = search (rules, tests)

all_ascii : (bytes : List ℕ) → list_all small bytes ≡ true → All (λ byte. byte < 128) bytes
all_ascii [] e = All-nil _
all_ascii (byte ∷ bytes) e =
    let p = and_parts (small byte) (list_all small bytes) e in
    All-cons (λ b. b < 128) byte bytes (below byte p.0) (all_ascii bytes p.1)

is_text_of : (bytes : List ℕ) → list_all small bytes ≡ true → IsUtf8 bytes
is_text_of bytes e = IsUtf8-from_ascii bytes (IsAscii-from_all bytes (all_ascii bytes e))

-- Use: the bytes are no text, so they name no format.
module _ (name : List ℕ) (no_text : IsUtf8 name → ⊥) where
  is_other : {X : Type 0} (x y : X) (word : List ℕ) → IsUtf8 word → (if bytes_eq name word then x else y) ≡ y
  is_other {X} x y word text = by (bytes_eq name word) (λ e. no_text (subst IsUtf8 (sym ((bytes_eq-Decides name word).0 e)) text))
    where
      by : (b : Bool) → (b ≡ true → ⊥) → (if b then x else y) ≡ y
      by true never = absurd (never refl)
      by false never = refl

  pub names_none : format_named name ≡ None
  names_none =
      is_other _ _ (codes "schedule") (is_text_of _ refl)
      ∙ is_other _ _ (codes "tables") (is_text_of _ refl)
      ∙ is_other _ _ (codes "json") (is_text_of _ refl)
      ∙ is_other _ _ (codes "report") (is_text_of _ refl)
      ∙ is_other _ _ (codes "replies") (is_text_of _ refl)
      ∙ is_other _ _ (codes "lags") (is_text_of _ refl)
      ∙ is_other _ _ (codes "misses") (is_text_of _ refl)
      ∙ is_other _ _ (codes "denials") (is_text_of _ refl)
      ∙ is_other _ _ (codes "events") (is_text_of _ refl)
      ∙ is_other _ _ (codes "script") (is_text_of _ refl)
      ∙ is_other _ _ (codes "processors") (is_text_of _ refl)
      ∙ is_other _ _ (codes "stats") (is_text_of _ refl)
      ∙ is_other _ _ (codes "chart") (is_text_of _ refl)
      ∙ is_other _ _ (codes "svg") (is_text_of _ refl)
      ∙ is_other _ _ (codes "windows") (is_text_of _ refl)
      ∙ is_other _ _ (codes "jobs") (is_text_of _ refl)
      ∙ is_other _ _ (codes "load") (is_text_of _ refl)
      ∙ is_other _ _ (codes "quanta") (is_text_of _ refl)
      ∙ is_other _ _ (codes "trace") (is_text_of _ refl)
      ∙ is_other _ _ (codes "c") (is_text_of _ refl)
      ∙ is_other _ _ (codes "full") (is_text_of _ refl)
      ∙ is_other _ _ (codes "html") (is_text_of _ refl)
