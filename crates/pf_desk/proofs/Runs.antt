-- Briefs kept as runs: which the k-th is, and what one more makes of them.
use Rattle.std.proofs.Common.{◌≡◌, ℕ, zero, suc, inl, inr, ◌+◌, ◌-◌, ◌<◌, ◌≤◌, Some, List, [], ◌∷◌, ◌++◌, length, map, get_or, nat_lt, if◌then◌else◌, ap, ap₂, ◌∙◌, refl, ◌^◌, arith}
use Rattle.std.specs.List.{All, range_with_len, slice_get}
use Rattle.std.proofs.lemmas.Bool.{cases_lt, lt-ltb, le-ltb}
use Rattle.std.proofs.lemmas.List.FromFn.{map-range_with_len_more, length-map-range_with_len, get_or-map-range_with_len}
use Rattle.std.proofs.lemmas.List.Elements.{All-head, All-tail, All-push}
use Rattle.std.proofs.lemmas.List.Sorted.{IsNonDecreasingBy-push}
use Rattle.std.proofs.lemmas.Option.{slice_get-get_or}
use Rattle.pf_desk.specs.declared.brief.Brief.{Brief}
use Rattle.pf_desk.specs.declared.brief.Brief.TheVariants.{OfSlot}
use Rattle.pf_desk.specs.declared.run.Run.{Run}
use Rattle.pf_desk.specs.Runs.{Begin, AreRuns, brief_of_run, brief_in, briefs_in}

pub length-briefs : (runs : List Run) (count : ℕ) → length (briefs_in runs count) ≡ count
length-briefs runs count = length-map-range_with_len (brief_in (OfSlot 0 0) runs) 0 count

-- the k-th of all
pub brief_at : (runs : List Run) (count k : ℕ) → k < count → slice_get (briefs_in runs count) k ≡ Some (brief_in (OfSlot 0 0) runs k)
brief_at runs count k l =
    slice_get-get_or (briefs_in runs count) k (OfSlot 0 0) (omega (arith, length-briefs runs count))
    ∙ ap Some (get_or-map-range_with_len (brief_in (OfSlot 0 0) runs) 0 count k k (OfSlot 0 0) l (omega arith))

-- a brief in front of a run is that of the runs before
in_front : (before : Brief) (runs : List Run) (k : ℕ) (d : Run) → (0 < length runs → k < (get_or runs 0 d).start) → brief_in before runs k ≡ before
in_front before [] k d l = refl
in_front before (run ∷ runs) k d l = ap (λ b. if b then before else brief_in (brief_of_run run k) runs k) (lt-ltb k run.start (l (omega arith)))

-- a run not after k is looked at, and the next ones decide
past : (before : Brief) (run : Run) (runs : List Run) (k : ℕ) → run.start ≤ k → brief_in before (run ∷ runs) k ≡ brief_in (brief_of_run run k) runs k
past before run runs k l = ap (λ b. if b then before else brief_in (brief_of_run run k) runs k) (le-ltb k run.start l)

-- the k-th brief is that of the last of the `count` runs that begin with it or before it
pub brief_of_last : (before : Brief) (runs : List Run) (k count : ℕ) (d : Run)
    → ((m : ℕ) → m < count → (get_or runs m d).start ≤ k)
    → ((m : ℕ) → count ≤ m → m < length runs → k < (get_or runs m d).start)
    → 0 < count → count ≤ length runs → brief_in before runs k ≡ brief_of_run (get_or runs (count - 1) d) k
brief_of_last before [] k count d at behind some within = absurd (omega arith)
brief_of_last before (run ∷ runs) k zero d at behind some within = absurd (omega arith)
brief_of_last before (run ∷ runs) k (suc zero) d at behind some within =
    past before run runs k (at 0 (omega arith))
    ∙ in_front (brief_of_run run k) runs k d (λ l. behind 1 (omega arith) (omega arith))
brief_of_last before (run ∷ runs) k (suc (suc n)) d at behind some within =
    past before run runs k (at 0 (omega arith))
    ∙ brief_of_last (brief_of_run run k) runs k (suc n) d (λ m l. at (suc m) (omega arith)) (λ m l u. behind (suc m) (omega arith) (omega arith)) (omega arith) (omega arith)
    ∙ ap (λ m. brief_of_run (get_or runs m d) k) (let e : suc n - 1 ≡ n = omega arith in e)
    ∙ ap (λ m. brief_of_run (get_or (run ∷ runs) m d) k) (let e : suc n ≡ suc (suc n) - 1 = omega arith in e)

-- a run after k does not matter
without_later : (before : Brief) (runs : List Run) (run : Run) (k : ℕ) → k < run.start → brief_in before (runs ++ run ∷ []) k ≡ brief_in before runs k
without_later before [] run k l = ap (λ b. if b then before else brief_of_run run k) (lt-ltb k run.start l)
without_later before (first ∷ runs) run k l =
    ap (λ brief. if nat_lt k first.start then before else brief) (without_later (brief_of_run first k) runs run k l)

-- a run that begins with the k-th decides
with_run : (before : Brief) (runs : List Run) (run : Run) (k : ℕ) → All (λ r. r.start ≤ k) runs → run.start ≤ k → brief_in before (runs ++ run ∷ []) k ≡ brief_of_run run k
with_run before [] run k all l = past before run [] k l
with_run before (first ∷ runs) run k all l =
    past before first (runs ++ run ∷ []) k (All-head (λ r. r.start ≤ k) first runs all)
    ∙ with_run (brief_of_run first k) runs run k (All-tail (λ r. r.start ≤ k) first runs all) l

-- the same for the first `count` of two
same_briefs : (f g : ℕ → Brief) (from count : ℕ) → ((k : ℕ) → k < from + count → f k ≡ g k) → map f (range_with_len from count) ≡ map g (range_with_len from count)
same_briefs f g from zero same = refl
same_briefs f g from (suc count) same =
    ap₂ (λ brief briefs. brief ∷ briefs) (same from (omega arith)) (same_briefs f g (from + 1) count (λ k l. same k (omega arith)))

-- one brief more, which goes on
pub briefs_go_on : (runs : List Run) (count : ℕ) → briefs_in runs (count + 1) ≡ briefs_in runs count ++ brief_in (OfSlot 0 0) runs count ∷ []
briefs_go_on runs count = map-range_with_len_more (brief_in (OfSlot 0 0) runs) 0 count count (omega arith)

-- one brief more, with which a run begins
pub briefs_begin : (runs : List Run) (run : Run) → All (λ r. r.start < run.start) runs
    → briefs_in (runs ++ run ∷ []) (run.start + 1) ≡ briefs_in runs run.start ++ brief_of_run run run.start ∷ []
briefs_begin runs run all =
    briefs_go_on (runs ++ run ∷ []) run.start
    ∙ ap₂ (λ briefs brief. briefs ++ brief ∷ [])
    (same_briefs (brief_in (OfSlot 0 0) (runs ++ run ∷ [])) (brief_in (OfSlot 0 0) runs) 0 run.start (λ k l. without_later (OfSlot 0 0) runs run k (omega arith)))
    (with_run (OfSlot 0 0) runs run run.start (λ k d l. omega (arith, all k d l)) (omega arith))

-- the first run begins with the first brief
first_begins : (runs : List Run) (d : Run) → Begin runs → (0 < length runs) × ((get_or runs 0 d).start ≡ 0)
first_begins [] d begin = absurd begin
first_begins (run ∷ runs) d begin = (omega arith, begin)

-- so a run is not after the k-th brief
pub some_begins : (runs : List Run) (k count : ℕ) (d : Run) → Begin runs → ((m : ℕ) → count ≤ m → m < length runs → k < (get_or runs m d).start) → 1 ≤ count
some_begins runs k count d begin behind =
    let first = first_begins runs d begin in
    elim (cases_lt 0 count) [
      | inl some ↦ some
      | inr none ↦ absurd (omega (arith, behind 0 (omega arith) first.0, first.1))
    ]

-- one brief more, which goes on
pub runs_go_on : (runs : List Run) (count : ℕ) → AreRuns runs count → count + 1 < 2 ^ 63 → 0 < length runs → AreRuns runs (count + 1)
runs_go_on runs count are few some = record {
  rise = are.rise;
  within = λ k d l. omega (arith, are.within k d l);
  begin = λ l. are.begin (omega (arith, are.within 0 (get_or runs 0 (record { start = 0; first = OfSlot 0 0 })) some));
  few = few;
}

-- one brief more, with which a run begins
pub runs_begin : (runs : List Run) (run : Run) → AreRuns runs run.start → run.start + 1 < 2 ^ 63 → AreRuns (runs ++ run ∷ []) (run.start + 1)
runs_begin runs run are few = record {
  rise = IsNonDecreasingBy-push (λ (r : Run). r.start) runs run are.rise (λ d l. omega (arith, are.within (length runs - 1) d (omega arith)));
  within = All-push (λ (r : Run). r.start < run.start + 1) runs run (λ k d l. omega (arith, are.within k d l)) (omega arith);
  begin = λ l. begins runs are.within are.begin;
  few = few;
}
  where
    begins : (runs : List Run) → All (λ r. r.start < run.start) runs → (0 < run.start → Begin runs) → Begin (runs ++ run ∷ [])
    begins [] within begin = (let none : run.start ≡ 0 = omega (arith) in none)
    begins (first ∷ runs) within begin = begin (omega (arith, All-head (λ r. r.start < run.start) first runs within))
