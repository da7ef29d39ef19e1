-- Words that are texts of something.
use Rattle.std.proofs.Common.{◌≡◌, ◌≤◌, ℕ, List, [], ◌∷◌, ◌-◌, drop, take, length, map, refl, ap, sym, arith}
use Rattle.std.specs.Prelude.{◌&&◌, ◌||◌, codes}
use Rattle.std.specs.List.{flat_map, list_all, list_any}
use Rattle.std.specs.Str.{bytes_eq}
use Rattle.std.proofs.Math.ListN.{get_or}
use Rattle.std.proofs.lemmas.List.{length-drop, take_all}
use Rattle.std.proofs.lemmas.List.Folds.{flat_map-map}
use Rattle.pf_text.specs.FileName.{is_plain}
use Rattle.pf_arguments.specs.Hints.Refused.{scripts_hint}
use Rattle.pf_arguments.specs.Hints.Words.{is_script, spaced_word}

pub spaced_texts : {A : Type 0} (text : A → List ℕ) (words : List A) → flat_map spaced_word (map text words) ≡ flat_map (λ w. spaced_word (text w)) words
spaced_texts text words = flat_map-map spaced_word text words

pub script_among : {A : Type 0} (text : A → List ℕ) (words : List A) → list_any is_script (map text words) ≡ list_any (λ w. is_script (text w)) words
script_among text [] = refl
script_among text (word ∷ words) = ap (λ b. is_script (text word) || b) (script_among text words)

pub plain_among : {A : Type 0} (text : A → List ℕ) (words : List A) → list_all is_plain (map text words) ≡ list_all (λ w. is_plain (text w)) words
plain_among text [] = refl
plain_among text (word ∷ words) = ap (λ b. is_plain (text word) && b) (plain_among text words)

pub word_among : {A : Type 0} (name : List ℕ) (text : A → List ℕ) (words : List A)
    → list_any (bytes_eq name) (map text words) ≡ list_any (λ w. bytes_eq name (text w)) words
word_among name text [] = refl
word_among name text (word ∷ words) = ap (λ b. bytes_eq name (text word) || b) (word_among name text words)

-- Use: a list has a first one, and others after it.
pub split_first : {A : Type 0} (words : List A) → 1 ≤ length words → (first : A) → first ≡ get_or words 0 first → words ≡ first ∷ drop 1 words
split_first [] some first is = absurd (omega (arith, some))
split_first (word ∷ words) some first is = ap (λ w. w ∷ words) (sym is)

-- Use: the others are all after the first one.
pub rest_whole : {A : Type 0} (words : List A) → take (length words - 1) (drop 1 words) ≡ drop 1 words
rest_whole words = take_all (length words - 1) (drop 1 words) (omega (arith, length-drop 1 words))

-- Use: three scripts and more.
pub several : {A : Type 0} (text : A → List ℕ) (scripts : List A) → 3 ≤ length scripts
    → scripts_hint (map text scripts) ≡ codes "run takes one file"
several text [] some = absurd (omega (arith, some))
several text (a ∷ []) some = absurd (omega (arith, some))
several text (a ∷ b ∷ []) some = absurd (omega (arith, some))
several text (a ∷ b ∷ c ∷ scripts) some = refl
