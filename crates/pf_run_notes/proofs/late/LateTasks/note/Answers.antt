use Rattle.std.proofs.Common.{◌∙◌}
use Rattle.pf_run_notes.proofs.Lateness.{late_firsts, late_counts}
use Rattle.pf_run_notes.proofs.late.LateTasks.note.Goals as goal

pub returns : goal.returns
returns c = λ misses are. record {
  of_tasks =
      late_firsts misses c.args.self.now.firsts.items c.note_first.new.firsts.items c.args.miss c.get-count.result are.of_tasks (c.get-count.ensures ∙ are.each c.args.miss.task)
      c.in_ok-note_first.ensures;
  each = late_counts misses c.args.miss c.args.self.now.counts c.give.new.counts c.get-count.result are.each c.get-count.ensures c.in_ok-give.ensures;
}
