-- Whether a plan fits, as each answer tells it.
use Rattle.std.proofs.Common.{◌≡◌, ℕ, ◌*◌, ◌≤◌, inl, inr, arith, refl, true, false, List, Some, codes, slice_index, ap}
use Rattle.std.specs.Prelude.{◌↔◌, nat_le}
use Rattle.std.proofs.lemmas.Bool.{cases_lt, le-leb, lt-leb}
use Rattle.std.proofs.lemmas.Nat.{mul-le}
use Rattle.pf_vocabulary.specs.declared.fault.status.Status.TheVariants.{Done, FailedOn}
use Rattle.pf_convert.specs.Plans.{IsNeeded}
use Rattle.pf_convert.specs.Conversion.Answers.{fit_status}
use Rattle.pf_convert.specs.Conversion.Laws.{AnswersAgree}
use Rattle.pf_convert.specs.Conversion.Json as json
use Rattle.pf_convert.specs.Conversion.Table as table

-- two texts with other bytes at a place are other texts
other_texts : (a b : List ℕ) (i : ℕ) → (slice_index a i ≡ slice_index b i → ⊥) → a ≡ b → ⊥
other_texts a b i other same = other (ap (λ t. slice_index t i) same)

told_in_table : (n m : ℕ) → (table.fits_word (Some m) n ≡ codes ",yes,") ↔ (n ≤ m)
told_in_table n m = elim (cases_lt m n) [
  | inr le ↦ let yes : nat_le n m ≡ true = le-leb n m le in (λ told. le, λ h. rw yes refl)
  | inl lt ↦ let no : nat_le n m ≡ false = lt-leb n m lt in
      (λ told. absurd (other_texts (codes ",no,") (codes ",yes,") 1 (λ e. omega (arith, e)) (rw no at told)), λ h. absurd (omega (arith, h, lt)))
]

told_in_json : (n m : ℕ) → (json.fits_word (Some m) n ≡ codes "true") ↔ (n ≤ m)
told_in_json n m = elim (cases_lt m n) [
  | inr le ↦ let yes : nat_le n m ≡ true = le-leb n m le in (λ told. le, λ h. rw yes refl)
  | inl lt ↦ let no : nat_le n m ≡ false = lt-leb n m lt in
      (λ told. absurd (other_texts (codes "false") (codes "true") 0 (λ e. omega (arith, e)) (rw no at told)), λ h. absurd (omega (arith, h, lt)))
]

told_by_status : (load room : ℕ) → (fit_status load room ≡ Done) ↔ (load ≤ room)
told_by_status load room = elim (cases_lt room load) [
  | inr le ↦ let yes : nat_le load room ≡ true = le-leb load room le in (λ told. le, λ h. rw yes refl)
  | inl lt ↦ let no : nat_le load room ≡ false = lt-leb load room lt in
      (λ told. let bad : FailedOn ≡ Done = rw no at told in cc, λ h. absurd (omega (arith, h, lt)))
]

-- no more processors are needed just where the load is within them
carries : (base load needed m : ℕ) → 1 ≤ m → IsNeeded base load needed → (needed ≤ m) ↔ (load ≤ m * base)
carries base load needed m some n = (λ h. omega (arith, n.enough, mul-le needed base m base h (omega arith)), λ h. n.least m some h)

behind : {A B C : Type 0} → (A ↔ B) → (B ↔ C) → A ↔ C
behind f g = (λ a. g.0 (f.0 a), λ c. f.1 (g.1 c))

pub agree : AnswersAgree
agree base load needed m some n = record {
  table = behind (told_in_table needed m) (carries base load needed m some n);
  json = behind (told_in_json needed m) (carries base load needed m some n);
  script = told_by_status load (m * base);
}
