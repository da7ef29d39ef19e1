use Rattle.std.proofs.Common.{take}
use Rattle.pf_place.specs.Lent.{lent_row}
use Rattle.pf_tally.specs.Noted.{AreNoted}
use Rattle.pf_tally.proofs.quanta.note_row.Given as goal

abbrev pub invariant-loop-processor : goal.invariant-loop-processor
invariant-loop-processor l = AreNoted l.initial.table l.table (take l.processor (lent_row l.row)) l.t
