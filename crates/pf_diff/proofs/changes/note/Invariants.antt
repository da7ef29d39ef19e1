use Rattle.std.proofs.Common.{◌≡◌, drop}
use Rattle.pf_diff.specs.Changes.{noted}
use Rattle.pf_diff.proofs.changes.note.Given as goal

-- the cells noted, and after them those left, are all noted
abbrev pub invariant-loop-cell : goal.invariant-loop-cell
invariant-loop-cell l = noted l.table.entries (drop l.cell-index l.cells) ≡ noted l.fn.table.entries l.cells
