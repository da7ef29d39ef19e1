-- What the bytes of lines stand for.
use Rattle.std.proofs.Common.{◌≡◌, ◌≢◌, inl, inr, ℕ, ◌≤◌, Bool, true, false, not, ◌==◌, Option, None, Some, List, [], ◌∷◌, ◌++◌, length, refl, sym, ◌∙◌, ap, subst, arith, append_assoc}
use Rattle.std.proofs.lemmas.List.{append-nil}
use Rattle.std.proofs.lemmas.Bool.{cases_eq, and_parts}
use Rattle.std.proofs.lemmas.Bool.Decides.{nat_tests}
use Rattle.std.specs.List.{list_all}
use Rattle.std.specs.Cmp.Derive.{both_true}
use Rattle.pf_journal.specs.Lines.{is_text, line_of, lines_of, journal_of, texts_from, texts_of}

not_ten : (byte : ℕ) → byte ≢ 10 → not (byte == 10) ≡ true
not_ten byte other = grind (arith, nat_tests)

-- a text has no LF
pub text_parts : (byte : ℕ) (rest : List ℕ) → is_text (byte ∷ rest) ≡ true → (byte ≢ 10) × (is_text rest ≡ true)
text_parts byte rest is = elim (cases_eq byte 10) [
  | inl ten ↦ absurd (cc (sym (ap (λ (b : ℕ). is_text (b ∷ rest)) ten) ∙ is))
  | inr other ↦ (other, (and_parts (not (byte == 10)) (is_text rest) is).1)
]

pub text_more : (line : List ℕ) (byte : ℕ) → is_text line ≡ true → byte ≢ 10 → is_text (line ++ byte ∷ []) ≡ true
text_more [] byte is other = both_true (not_ten byte other) refl
text_more (first ∷ line) byte is other =
    let parts = and_parts (not (first == 10)) (is_text line) is in
    both_true parts.0 (text_more line byte parts.1 other)

pub opens : (gate : ℕ) (rest : List ℕ) → gate ≡ 32 → texts_from None (gate ∷ rest) ≡ texts_from (Some []) rest
opens gate rest is = ap (λ (g : ℕ). texts_from None (g ∷ rest)) is

pub shuts : (gate : ℕ) (rest : List ℕ) → gate ≢ 32 → texts_from None (gate ∷ rest) ≡ []
shuts gate rest shut = grind (arith, nat_tests)

pub ends : (line : List ℕ) (byte : ℕ) (rest : List ℕ) → byte ≡ 10 → texts_from (Some line) (byte ∷ rest) ≡ line ∷ texts_from None rest
ends line byte rest is = ap (λ (b : ℕ). texts_from (Some line) (b ∷ rest)) is

pub grows : (line : List ℕ) (byte : ℕ) (rest : List ℕ) → byte ≢ 10 → texts_from (Some line) (byte ∷ rest) ≡ texts_from (Some (line ++ byte ∷ [])) rest
grows line byte rest other = grind (arith, nat_tests)

text_read : (line text rest : List ℕ) → is_text text ≡ true → texts_from (Some line) (text ++ 10 ∷ rest) ≡ (line ++ text) ∷ texts_of rest
text_read line [] rest is = ap (λ (l : List ℕ). l ∷ texts_of rest) (sym (append-nil line))
text_read line (byte ∷ text) rest is =
    let parts = text_parts byte text is in
    grows line byte (text ++ 10 ∷ rest) parts.0 ∙ text_read (line ++ byte ∷ []) text rest parts.1
    ∙ ap (λ (l : List ℕ). l ∷ texts_of rest) (append_assoc line (byte ∷ []) text)

-- a line without its end
pub unfinished : (line text : List ℕ) → is_text text ≡ true → texts_from (Some line) text ≡ []
unfinished line [] is = refl
unfinished line (byte ∷ text) is =
    let parts = text_parts byte text is in
    grows line byte text parts.0 ∙ unfinished (line ++ byte ∷ []) text parts.1

pub line_read : (text rest : List ℕ) → is_text text ≡ true → texts_of (line_of text ++ rest) ≡ text ∷ texts_of rest
line_read text rest is = ap (λ (l : List ℕ). texts_from (Some []) l) (append_assoc text (10 ∷ []) rest) ∙ text_read [] text rest is

-- lines that stand, and then whatever the rest stands for
pub lines_read : (texts : List (List ℕ)) (rest : List ℕ) → list_all is_text texts ≡ true → texts_of (lines_of texts ++ rest) ≡ texts ++ texts_of rest
lines_read [] rest all = refl
lines_read (text ∷ texts) rest all =
    let parts = and_parts (is_text text) (list_all is_text texts) all in
    ap texts_of (append_assoc (line_of text) (lines_of texts) rest)
    ∙ line_read text (lines_of texts ++ rest) parts.0
    ∙ ap (λ (ts : List (List ℕ)). text ∷ ts) (lines_read texts rest parts.1)

pub lines_then : (texts : List (List ℕ)) (rest : List ℕ) → list_all is_text texts ≡ true → texts_of rest ≡ [] → texts_of (lines_of texts ++ rest) ≡ texts
lines_then texts rest all none = lines_read texts rest all ∙ ap (λ (ts : List (List ℕ)). texts ++ ts) none ∙ append-nil texts

abbrev begun : Option (List ℕ) → List ℕ
begun None = []
begun (Some line) = line

texts_from-all : (line : Option (List ℕ)) (file : List ℕ) → is_text (begun line) ≡ true → list_all is_text (texts_from line file) ≡ true
texts_from-all line [] is = refl
texts_from-all None (gate ∷ rest) is = elim (cases_eq gate 32) [
  | inl opened ↦ ap (λ (ts : List (List ℕ)). list_all is_text ts) (opens gate rest opened) ∙ texts_from-all (Some []) rest refl
  | inr shut ↦ ap (λ (ts : List (List ℕ)). list_all is_text ts) (shuts gate rest shut)
]
texts_from-all (Some line) (byte ∷ rest) is = elim (cases_eq byte 10) [
  | inl end ↦ ap (λ (ts : List (List ℕ)). list_all is_text ts) (ends line byte rest end) ∙ both_true is (texts_from-all None rest refl)
  | inr other ↦ ap (λ (ts : List (List ℕ)). list_all is_text ts) (grows line byte rest other) ∙ texts_from-all (Some (line ++ byte ∷ [])) rest (text_more line byte is other)
]

-- what is read are texts
pub texts_of-all : (file : List ℕ) → list_all is_text (texts_of file) ≡ true
texts_of-all file = texts_from-all None file refl

-- a file's lines that stand, and an end that has none
pub record Split (file : List ℕ) (texts : List (List ℕ)) : Type 0 where
  pub end : List ℕ
  pub is : file ≡ lines_of texts ++ end
  pub nothing : texts_of end ≡ []

abbrev pub has_begun : Option (List ℕ) → Bool
has_begun None = false
has_begun (Some line) = true

-- what was read of a line that has begun
abbrev pub bytes_of : Option (List ℕ) → List ℕ
bytes_of None = []
bytes_of (Some line) = 32 ∷ line

ended : (line rest : List ℕ) (byte : ℕ) → byte ≡ 10 → Split rest (texts_of rest) → Split ((32 ∷ line) ++ byte ∷ rest) (line ∷ texts_of rest)
ended line rest byte end s =
    let lines = lines_of (texts_of rest) in
    record {
      end = s.end;
      is =
          ap (λ (b : ℕ). (32 ∷ line) ++ b ∷ rest) end
          ∙ ap (λ (l : List ℕ). (32 ∷ line) ++ 10 ∷ l) s.is
          ∙ sym (append_assoc (32 ∷ line) (10 ∷ []) (lines ++ s.end))
          ∙ sym (append_assoc (line_of line) lines s.end);
      nothing = s.nothing;
    }

split_from : (line : Option (List ℕ)) (rest : List ℕ) → is_text (begun line) ≡ true → Split (bytes_of line ++ rest) (texts_from line rest)
split_from None [] is = record { end = []; is = refl; nothing = refl }
split_from (Some line) [] is = record { end = 32 ∷ line; is = append-nil (32 ∷ line); nothing = unfinished [] line is }
split_from None (gate ∷ rest) is = elim (cases_eq gate 32) [
  | inl opened ↦
      subst (λ (ts : List (List ℕ)). Split (gate ∷ rest) ts) (sym (opens gate rest opened))
      (subst (λ (g : ℕ). Split (g ∷ rest) (texts_from (Some []) rest)) (sym opened) (split_from (Some []) rest refl))
  | inr shut ↦
      subst (λ (ts : List (List ℕ)). Split (gate ∷ rest) ts) (sym (shuts gate rest shut))
      (record { end = gate ∷ rest; is = refl; nothing = shuts gate rest shut })
]
split_from (Some line) (byte ∷ rest) is = elim (cases_eq byte 10) [
  | inl end ↦
      subst (λ (ts : List (List ℕ)). Split ((32 ∷ line) ++ byte ∷ rest) ts) (sym (ends line byte rest end))
      (ended line rest byte end (split_from None rest refl))
  | inr other ↦
      subst (λ (ts : List (List ℕ)). Split ((32 ∷ line) ++ byte ∷ rest) ts) (sym (grows line byte rest other))
      (subst (λ (f : List ℕ). Split f (texts_from (Some (line ++ byte ∷ [])) rest)) (append_assoc (32 ∷ line) (byte ∷ []) rest)
      (split_from (Some (line ++ byte ∷ [])) rest (text_more line byte is other)))
]

pub split : (file : List ℕ) → Split file (texts_of file)
split file = split_from None file refl

-- one byte is no line
pub short_nothing : (bytes : List ℕ) → length bytes ≤ 1 → texts_of bytes ≡ []
short_nothing [] short = refl
short_nothing (gate ∷ []) short = elim (cases_eq gate 32) [
  | inl is ↦ opens gate [] is
  | inr shut ↦ shuts gate [] shut
]
short_nothing (gate ∷ byte ∷ bytes) short = absurd (omega arith)

-- lines after any gate, and a shut one after them, stand all or not at all
pub journal_texts : (texts : List (List ℕ)) → list_all is_text texts ≡ true → texts_of (journal_of texts) ≡ texts
journal_texts texts all = lines_then texts (35 ∷ []) all refl
