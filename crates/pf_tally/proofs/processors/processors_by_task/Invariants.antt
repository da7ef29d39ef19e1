use Rattle.std.proofs.Common.{ℕ, ◌≡◌, take}
use Rattle.pf_collections.specs.Table.Lists.{noted_of}
use Rattle.pf_tally.specs.Figures.{processors_in}
use Rattle.pf_tally.proofs.processors.processors_by_task.Given as goal

abbrev pub invariant-loop-t : goal.invariant-loop-t
invariant-loop-t l = (task : ℕ) → noted_of l.table task ≡ processors_in (take l.t l.rows) task
