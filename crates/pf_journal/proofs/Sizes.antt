-- How many bytes the lines that stand take.
use Rattle.std.proofs.Common.{◌≡◌, ◌≢◌, inl, inr, ℕ, ◌+◌, ◌≤◌, Bool, true, false, Option, None, Some, List, [], ◌∷◌, ◌++◌, length, refl, sym, ◌∙◌, ap, arith, if◌then◌else◌, ◌==◌, length-append}
use Rattle.std.proofs.lemmas.Bool.{cases_eq}
use Rattle.std.proofs.lemmas.Bool.Decides.{nat_tests}
use Rattle.pf_journal.specs.Lines.{line_of, lines_of, texts_from, texts_of}
use Rattle.pf_journal.proofs.Reading.{opens, shuts, ends, grows, bytes_of, has_begun, split}

-- what is found of the bytes that are left, where `at` bytes were read and the last line ended at `best`
abbrev pub size_from : ℕ → ℕ → Bool → List ℕ → ℕ
size_from at best begun [] = best
size_from at best false (gate ∷ rest) = if gate == 32 then size_from (at + 1) best true rest else best
size_from at best true (byte ∷ rest) = if byte == 10 then size_from (at + 1) (at + 1) false rest else size_from (at + 1) best true rest

size_opens : (at best gate : ℕ) (rest : List ℕ) → gate ≡ 32 → size_from at best false (gate ∷ rest) ≡ size_from (at + 1) best true rest
size_opens at best gate rest is = ap (λ (g : ℕ). size_from at best false (g ∷ rest)) is

size_shuts : (at best gate : ℕ) (rest : List ℕ) → gate ≢ 32 → size_from at best false (gate ∷ rest) ≡ best
size_shuts at best gate rest shut = grind (arith, nat_tests)

size_ends : (at best byte : ℕ) (rest : List ℕ) → byte ≡ 10 → size_from at best true (byte ∷ rest) ≡ size_from (at + 1) (at + 1) false rest
size_ends at best byte rest is = ap (λ (b : ℕ). size_from at best true (b ∷ rest)) is

size_grows : (at best byte : ℕ) (rest : List ℕ) → byte ≢ 10 → size_from at best true (byte ∷ rest) ≡ size_from (at + 1) best true rest
size_grows at best byte rest other = grind (arith, nat_tests)

abbrev lines_size : List (List ℕ) → ℕ
lines_size texts = length (lines_of texts)

line_size : (text : List ℕ) (texts : List (List ℕ)) → lines_size (text ∷ texts) ≡ length text + 2 + lines_size texts
line_size text texts = omega (arith, length-append (line_of text) (lines_of texts), length-append text (10 ∷ []))

sizes : (at best : ℕ) (line : Option (List ℕ)) (rest : List ℕ) → at ≡ best + length (bytes_of line) → size_from at best (has_begun line) rest ≡ best + lines_size (texts_from line rest)
sizes at best None [] is = omega arith
sizes at best (Some line) [] is = omega arith
sizes at best None (gate ∷ rest) is = elim (cases_eq gate 32) [
  | inl opened ↦
      size_opens at best gate rest opened ∙ sizes (at + 1) best (Some []) rest (omega (arith, is))
      ∙ ap (λ (ts : List (List ℕ)). best + lines_size ts) (sym (opens gate rest opened))
  | inr shut ↦ omega (arith, size_shuts at best gate rest shut, ap lines_size (shuts gate rest shut))
]
sizes at best (Some line) (byte ∷ rest) is = elim (cases_eq byte 10) [
  | inl end ↦
      let joined : at + 1 + lines_size (texts_of rest) ≡ best + lines_size (line ∷ texts_of rest) = omega (arith, is, line_size line (texts_of rest)) in
      size_ends at best byte rest end ∙ sizes (at + 1) (at + 1) None rest (omega arith)
      ∙ joined
      ∙ ap (λ (ts : List (List ℕ)). best + lines_size ts) (sym (ends line byte rest end))
  | inr other ↦
      size_grows at best byte rest other
      ∙ sizes (at + 1) best (Some (line ++ byte ∷ [])) rest (omega (arith, is, length-append line (byte ∷ [])))
      ∙ ap (λ (ts : List (List ℕ)). best + lines_size ts) (sym (grows line byte rest other))
]

pub size_is : (file : List ℕ) → size_from 0 0 false file ≡ length (lines_of (texts_of file))
size_is file =
    let all : 0 + lines_size (texts_of file) ≡ lines_size (texts_of file) = omega arith in
    sizes 0 0 None file refl ∙ all

pub size_within : (file : List ℕ) → length (lines_of (texts_of file)) ≤ length file
size_within file =
    let s = split file in
    omega (arith, ap length s.is, length-append (lines_of (texts_of file)) s.end)
