use Rattle.std.proofs.Common.{ℕ, ◌≡◌, ◌++◌, take}
use Rattle.pf_place.specs.Lent.{lent_row}
use Rattle.pf_collections.specs.Table.Lists.{noted_of}
use Rattle.pf_tally.specs.Figures.{is_of}
use Rattle.pf_tally.specs.Quanta.{places_from}
use Rattle.pf_tally.proofs.processors.note_places.Given as goal

abbrev pub invariant-loop-processor : goal.invariant-loop-processor
invariant-loop-processor l =
    (task : ℕ) → noted_of l.table task ≡ noted_of l.initial.table task ++ places_from (is_of task) 0 (take l.processor (lent_row l.row))
