use Rattle.std.proofs.Common.{◌∙◌, arith}
use Rattle.pf_engine.proofs.Places.{listed_more, same_size}
use Rattle.pf_engine.proofs.roster.renumber.Goals as goal

pub loop-place-preserved : goal.loop-place-preserved
loop-place-preserved c =
    rw c.set.ensures
    (record {
      listed = listed_more c.loop-place.places c.args.tasks.now c.loop-place.place c.index-tasks-place.result c.loop-place.invariant.listed
          (omega arith) c.index-tasks-place.is;
      size = same_size c.loop-place.places c.index-tasks-place.result.task c.loop-place.place ∙ c.loop-place.invariant.size;
    })
