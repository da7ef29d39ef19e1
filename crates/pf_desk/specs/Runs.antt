-- Briefs that follow one another, kept as runs.
use Rattle.std.specs.Prelude.{◌≡◌, ◌^◌, ℕ, zero, suc, ◌+◌, ◌-◌, ◌%◌, ◌<◌, nat_lt, if◌then◌else◌, List, [], ◌∷◌, map}
use Rattle.std.specs.List.{All, range_with_len}
use Rattle.std.specs.List.Sorted.{IsNonDecreasingBy}
use Rattle.pf_desk.specs.declared.brief.Brief.{Brief}
use Rattle.pf_desk.specs.declared.brief.Brief.TheVariants.{OfSlot, OfCommand}
use Rattle.pf_desk.specs.declared.run.Run.{Run}

-- the brief of the slot, or the command, so many after
abbrev pub brief_behind : Brief → ℕ → Brief
brief_behind brief zero = brief
brief_behind (OfSlot caller slot) (suc by) = OfSlot caller ((slot + suc by) % 2 ^ 64)
brief_behind (OfCommand caller index) (suc by) = OfCommand caller ((index + suc by) % 2 ^ 64)

-- the k-th brief of all, where it stands in the run
abbrev pub brief_of_run : Run → ℕ → Brief
brief_of_run run k = brief_behind run.first (k - run.start)

-- the k-th brief of all: that of the last run not after it
abbrev pub brief_in : Brief → List Run → ℕ → Brief
brief_in before [] k = before
brief_in before (run ∷ runs) k = if nat_lt k run.start then before else brief_in (brief_of_run run k) runs k

-- the briefs of these runs, of which there are so many
abbrev pub briefs_in : List Run → ℕ → List Brief
briefs_in runs count = map (brief_in (OfSlot 0 0) runs) (range_with_len 0 count)

-- the first run begins with the first brief
abbrev pub Begin : List Run → Type 0
Begin [] = ⊥
Begin (run ∷ runs) = run.start ≡ 0

-- the runs of so many briefs stand in order, each of at least one
pub record AreRuns (runs : List Run) (count : ℕ) : Type 0 where
  pub rise : IsNonDecreasingBy (λ run. run.start) runs
  pub within : All (λ run. run.start < count) runs
  pub begin : 0 < count → Begin runs
  pub few : count < 2 ^ 63

-- briefs, and for how many more there is room
pub record Noted : Type 0 where
  pub items : List Brief
  pub room : ℕ
