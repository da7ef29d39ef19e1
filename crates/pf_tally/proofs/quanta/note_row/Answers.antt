use Rattle.std.proofs.Common.{◌≡◌, ◌++◌, [], ◌∷◌, cond, ◌∙◌, sym, ap, arith, rules}
use Rattle.std.specs.Prelude.{◌==◌}
use Rattle.pf_collections.specs.Table.Lists.{noted_of}
use Rattle.pf_tally.proofs.Noting.{idle_noted, pick_noted}
use Rattle.pf_tally.proofs.quanta.note_row.Goals as goal
use Rattle.pf_tally.proofs.quanta.note_row.Goals.{in-Some+in_ok-note, in_default}

pub loop-processor-preserved : goal.loop-processor-preserved
loop-processor-preserved c = elim c.match-get.branch [
  | in-Some+in_ok-note w ↦
      rw w.table-is (pick_noted _ _ _ _ _ _ _ c.requires.once (omega arith) (sym w.in-Some.is ∙ c.get.ensures) c.loop-processor.invariant
      (λ task. w.in_ok-note.ensures task ∙ ap (λ n. noted_of c.loop-processor.table task ++ cond (n == task) (c.args.t ∷ []) []) (let e : w.from.result ≡ w.in-Some.pick.task = search rules in e)))
  | in_default w ↦ rw w.table-is (idle_noted _ _ _ _ _ (omega arith) (sym w.in_default.is ∙ c.get.ensures) c.loop-processor.invariant)
]
