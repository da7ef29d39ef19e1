-- What was found after all faults of a script.
use Rattle.std.proofs.Common.{◌≡◌, ◌<◌, ◌≤◌, ◌+◌, ◌-◌, ◌^◌, ◌==◌, ℕ, Bool, true, false, cond, List, [], ◌∷◌, ◌∙◌, fold, refl, ap, arith}
use Rattle.std.specs.Prelude.{nat_le, not, if◌then◌else◌}
use Rattle.std.proofs.lemmas.Bool.{ne_eqb}
use Rattle.std.proofs.lemmas.Bool.Decides.{nat_tests}
use Rattle.pf_script.specs.declared.check.found.Found.{Found}
use Rattle.pf_script.specs.Messages.Lines.{FaultMessage}
use Rattle.pf_script.specs.Check.Faults.{count_lines, of_records, or_all, told_of}
use Rattle.pf_script.specs.Check.Found.{Finds, is_empty}
use Rattle.pf_script.specs.Check.Lines.{Lines, after_message, after_end, after_fault, after_lacking, after_own, count_of, no_lines, text_of}
use Rattle.pf_script.proofs.CheckLemmas.Shown.{before_first, count_by-cons, lines_more}

-- these are faults of so many records, but the last one may be that settings are lacking after them
abbrev pub IsOf : Bool → FaultMessage → List FaultMessage → Type 0 → Type 0
IsOf true f fs Rest = Rest
IsOf false f fs Rest = (f.lacks ≡ true) × (fs ≡ [])

abbrev pub AreOf : ℕ → List FaultMessage → Type 0
AreOf records [] = Unit {0}
AreOf records (f ∷ fs) = IsOf (nat_le f.number records) f fs (AreOf records fs)

-- Use: the place after the last record.
pub after_all : (records number : ℕ) → number ≡ records + 1 → nat_le number records ≡ false
after_all records number is = grind (arith, nat_tests, is)

-- there is a line after each fault
some_line : (s : Lines) (f : FaultMessage) → 0 < count_of (after_message s f)
some_line s f = by f.lacks
  where
    by : (b : Bool) → 0 < count_of (if b then after_lacking f s else after_own f s)
    by true = omega arith
    by false = omega arith

-- where there is one the end is not told
later_faults : (records : ℕ) (s : Lines) (fs : List FaultMessage) → AreOf records fs → 0 < count_of s
    → fold (after_fault records) s fs ≡ fold after_message s (of_records records fs)
later_faults records s [] are some = refl
later_faults records s (f ∷ fs) are some = by (nat_le f.number records) are (later_faults records (after_message s f) fs)
  where
    by : (b : Bool) → IsOf b f fs (AreOf records fs)
        → (AreOf records fs → 0 < count_of (after_message s f)
        → fold (after_fault records) (after_message s f) fs ≡ fold after_message (after_message s f) (of_records records fs))
        → fold (after_fault records) (if b then after_message s f else after_end f s) fs
        ≡ fold after_message s (if b then f ∷ of_records records fs else of_records records fs)
    by true rest later = later rest (some_line s f)
    by false last later = rw (last.1, ne_eqb (count_of s) 0 (λ e. absurd (omega (arith, some, e)))) refl

-- Use: the lines are those of the faults that are told.
pub all_faults : (records : ℕ) (fs : List FaultMessage) → AreOf records fs
    → fold (after_fault records) no_lines fs ≡ fold after_message no_lines (told_of records fs)
all_faults records [] are = refl
all_faults records (f ∷ fs) are = by (nat_le f.number records) are
  where
    by : (b : Bool) → IsOf b f fs (AreOf records fs)
        → fold (after_fault records) (if b then after_message no_lines f else after_end f no_lines) fs
        ≡ fold after_message no_lines (or_all (if b then f ∷ of_records records fs else of_records records fs) (f ∷ fs))
    by true rest = later_faults records (after_message no_lines f) fs rest (some_line no_lines f)
    by false last = rw (last.1, last.0) refl

-- each fault counts a line or more, of those that lack settings one
some_lines : (b : FaultMessage) (bs : List FaultMessage) → 0 < count_lines (b ∷ bs)
some_lines b bs = by b.lacks refl
  where
    by : (l : Bool) → b.lacks ≡ l → 0 < count_lines (b ∷ bs)
    by true is = omega (arith, count_by-cons (λ (f : FaultMessage). f.lacks) b bs, ap {B = ℕ} (λ l. cond l 1 0) is)
    by false is = omega (arith, count_by-cons (λ (f : FaultMessage). not f.lacks) b bs, ap {B = ℕ} (λ l. cond (not l) 1 0) is)

-- there is none just where there is no fault
none_told : (told faults : List FaultMessage) → (count_lines (or_all told faults) == 0) ≡ is_empty (or_all told faults)
none_told told faults = by (or_all told faults)
  where
    by : (fs : List FaultMessage) → (count_lines fs == 0) ≡ is_empty fs
    by [] = refl
    by (f ∷ fs) = ne_eqb (count_lines (f ∷ fs)) 0 (λ e. absurd (omega (arith, some_lines f fs, e)))

told_some : (records : ℕ) (faults : List FaultMessage) → is_empty (told_of records faults) ≡ is_empty faults
told_some records [] = refl
told_some records (f ∷ fs) = by (of_records records (f ∷ fs))
  where
    by : (told : List FaultMessage) → is_empty (or_all told (f ∷ fs)) ≡ false
    by [] = refl
    by (g ∷ told) = refl

-- Use: all of it.
pub found_all : (records : ℕ) (faults : List FaultMessage) (f : Found) → AreOf records faults
    → f.lines ≡ fold (after_fault records) no_lines faults → f.records ≡ records → f.lines.others ≤ f.records + 1 → f.records < 2 ^ 64 - 2
    → Finds records faults f
found_all records faults f are lines count others few =
    let told = lines ∙ all_faults records faults are in
    let counted : count_of f.lines ≡ count_lines (told_of records faults) =
    ap count_of told ∙ lines_more no_lines (told_of records faults) ∙ omega arith in record {
      text = ap text_of told ∙ before_first no_lines (told_of records faults) refl refl;
      count = counted;
      clean = ap (λ n. n == 0) counted ∙ none_told (of_records records faults) faults ∙ told_some records faults;
      counted = count;
      few = (others, few);
    }
