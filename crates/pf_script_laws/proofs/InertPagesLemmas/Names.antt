-- Names that a script may give have no `<`.
use Rattle.std.proofs.Common.{◌≡◌, ◌==◌, not, ℕ, true, List, [], ◌∷◌, refl, rules, tests}
use Rattle.std.proofs.lemmas.List.Elements.{All-cons, All-head, All-nil, All-tail}
use Rattle.std.specs.List.{list_all}
use Rattle.serde_json.specs.View.{items_of}
use Rattle.std.specs.Prelude.{map}
use Rattle.std.proofs.lemmas.Bool.{and_parts}
use Rattle.pf_vocabulary.specs.Names.Text.{is_text, is_text_byte}
use Rattle.pf_vocabulary.specs.declared.names.named.Named.{Named}
use Rattle.pf_report.specs.Json.{name_data}
use Rattle.pf_version_laws.specs.Titles.{AreGivable}
use Rattle.pf_script_laws.specs.InertPages.Page.{AreTexts, is_inert}
use Rattle.pf_script_laws.proofs.InertPagesLemmas.Texts.{both}
use Rattle.pf_script_laws.proofs.InertPagesLemmas.Values.{items_are_inert, value_is_inert}

of_text_bytes : (bytes : List ℕ) → is_text bytes ≡ true → list_all is_text_byte bytes ≡ true
unfolding is_text
of_text_bytes bytes text = search (rules, tests)

byte_inert : (byte : ℕ) → is_text_byte byte ≡ true → not (byte == 60) ≡ true
byte_inert byte text = search (rules, tests)

bytes_inert : (bytes : List ℕ) → list_all is_text_byte bytes ≡ true → is_inert bytes ≡ true
bytes_inert [] all = refl
bytes_inert (byte ∷ bytes) all =
    both (not (byte == 60)) (is_inert bytes) (byte_inert byte (and_parts (is_text_byte byte) (list_all is_text_byte bytes) all).0)
    (bytes_inert bytes (and_parts (is_text_byte byte) (list_all is_text_byte bytes) all).1)

name_inert : (named : Named) → is_text named.name ≡ true → value_is_inert (name_data named) ≡ true
name_inert named text = both (is_inert named.name) true (bytes_inert named.name (of_text_bytes named.name text)) refl

pub names_inert : (names : List Named) → AreTexts names → items_are_inert (items_of (map name_data names)) ≡ true
names_inert [] texts = refl
names_inert (named ∷ names) texts =
    both (value_is_inert (name_data named)) (items_are_inert (items_of (map name_data names)))
    (name_inert named (All-head (λ (n : Named). is_text n.name ≡ true) named names texts))
    (names_inert names (All-tail (λ (n : Named). is_text n.name ≡ true) named names texts))

pub given_texts : (names : List Named) → AreGivable names → AreTexts names
unfolding AreGivable
given_texts [] given = All-nil (λ (n : Named). is_text n.name ≡ true)
given_texts (named ∷ names) given =
    All-cons (λ (n : Named). is_text n.name ≡ true) named names given.0.text (given_texts names given.3)
