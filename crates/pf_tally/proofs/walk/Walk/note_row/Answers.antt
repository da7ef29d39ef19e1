use Rattle.std.proofs.Common.{sym, ◌∙◌, arith}
use Rattle.pf_place.specs.Lent.{lent_row}
use Rattle.pf_tally.proofs.Walks.{idle_ran, pick_within, pick_ran}
use Rattle.pf_tally.proofs.walk.Walk.note_row.Goals as goal
use Rattle.pf_tally.proofs.walk.Walk.note_row.Goals.{in-Some+in_ok-note_quantum, in_default}

pub note_quantum-requires-clause-within : goal.note_quantum-requires-clause-within
note_quantum-requires-clause-within c =
    pick_within c.args.self.now c.loop-processor.self c.loop-processor.self (lent_row c.args.row) c.args.t c.loop-processor.processor (omega arith) c.loop-processor.invariant c.in-Some.pick
    c.requires.row.once (sym c.in-Some.is ∙ c.get.ensures) _ c.requires.within

pub loop-processor-preserved : goal.loop-processor-preserved
loop-processor-preserved c = elim c.match-get.branch [
  | in-Some+in_ok-note_quantum w ↦
      rw w.self-is
      (pick_ran c.args.self.now c.loop-processor.self _ (lent_row c.args.row) c.args.t c.loop-processor.processor (omega arith) c.loop-processor.invariant w.in-Some.pick c.requires.row.once
      (sym w.in-Some.is ∙ c.get.ensures) w.in_ok-note_quantum.ensures)
  | in_default w ↦
      rw w.self-is
      (idle_ran c.args.self.now c.loop-processor.self c.loop-processor.self (lent_row c.args.row) c.args.t c.loop-processor.processor (omega arith) c.loop-processor.invariant
      (sym w.in_default.is ∙ c.get.ensures))
]
