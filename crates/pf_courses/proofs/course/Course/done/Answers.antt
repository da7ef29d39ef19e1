use Rattle.std.proofs.Common.{ap, rules}
use Rattle.std.proofs.lemmas.List.Sorted.{IsPartitionPoint-from_clause}
use Rattle.pf_courses.specs.Windows.{ran_below}
use Rattle.pf_courses.proofs.Cuts.{cut_found}
use Rattle.pf_courses.proofs.course.Course.done.Goals as goal

pub returns : goal.returns
returns c =
    let ws = c.deref.result.now in
    cut_found (ran_below c.args.t) ws c.self.inside.windows.items c.args.self.now.windows c.partition_point.result c.deref.ensures.value (ap (λ track. track.windows) c.self.view_is)
    (c.self.invariant.quanta c.args.t) c.partition_point.ensures.bound
    (λ parted. IsPartitionPoint-from_clause (ran_below c.args.t) ws c.partition_point.result c.partition_point.ensures.partitioned parted (λ a r q k. search rules))
