use Rattle.std.proofs.Common.{◌≡◌, ◌++◌, [], ◌∷◌, cond, ◌∙◌, sym, ap, arith, rules}
use Rattle.std.specs.Prelude.{◌==◌}
use Rattle.pf_collections.specs.Table.Lists.{noted_of}
use Rattle.pf_tally.proofs.Seats.{idle_place, pick_place}
use Rattle.pf_tally.proofs.processors.note_places.Goals as goal
use Rattle.pf_tally.proofs.processors.note_places.Goals.{in-Some+in_ok-note, in_default}

pub loop-processor-preserved : goal.loop-processor-preserved
loop-processor-preserved c = elim c.match-get.branch [
  | in-Some+in_ok-note w ↦
      rw w.table-is (pick_place _ _ _ _ c.loop-processor.processor w.in-Some.pick (omega arith) (sym w.in-Some.is ∙ c.get.ensures) c.loop-processor.invariant
      (λ task. w.in_ok-note.ensures task ∙ ap (λ n. noted_of c.loop-processor.table task ++ cond (n == task) (c.loop-processor.processor ∷ []) []) (let e : w.from.result ≡ w.in-Some.pick.task = search rules in e)))
  | in_default w ↦ rw w.table-is (idle_place _ _ _ c.loop-processor.processor (omega arith) (sym w.in_default.is ∙ c.get.ensures) c.loop-processor.invariant)
]
