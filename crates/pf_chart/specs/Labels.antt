-- The labels of a chart's lines.
use Rattle.std.specs.Prelude.{ℕ, ◌+◌, max, nat_le, if◌then◌else◌, List, ◌∷◌, ◌++◌, codes, length}
use Rattle.std.specs.List.{fold}
use Rattle.pf_vocabulary.specs.Names.Titled.{label_of}
use Rattle.pf_vocabulary.specs.declared.names.named.Named.{Named}
use Rattle.pf_courses.specs.Listing.{Listing}
use Rattle.pf_chart.specs.Symbols.{rank_symbol}

-- what tasks are called, and in how many places labels stand
pub record Labels : Type 0 where
  pub names : List Named
  pub places : ℕ

-- the symbol of a listed task, and what it is called
abbrev pub task_label : List Named → ℕ → ℕ → List ℕ
task_label names rank task = rank_symbol rank ∷ codes " " ++ label_of names task

-- as many places as the label of a task has, and one
abbrev pub places_for : List Named → ℕ → ℕ
places_for names task = length (label_of names task) + 3

-- 12, or one more than the longest label of a listed task has
abbrev pub places_of : List Named → List Listing → ℕ
places_of names listed = fold (λ most l. max most (places_for names l.task)) 12 listed

abbrev pub labels_of : List Named → List Listing → Labels
labels_of names listed = record { names = names; places = places_of names listed }

-- how many slots a block has, where so many are left
abbrev pub block_length : ℕ → ℕ
block_length places = if nat_le places 20 then 60 else 50
