use Rattle.std.proofs.Common.{nat_le, ap, rules}
use Rattle.std.proofs.lemmas.List.Sorted.{IsPartitionPoint-from_clause, IsPartitionedBy-leb}
use Rattle.pf_courses.specs.declared.window.Window.{Window}
use Rattle.pf_courses.proofs.Cuts.{cut_found}
use Rattle.pf_courses.proofs.course.Course.released.Goals as goal

pub returns : goal.returns
returns c =
    let ws = c.deref.result.now in
    cut_found (λ (w : Window). nat_le w.release c.args.t) ws c.self.inside.windows.items c.args.self.now.windows c.partition_point.result c.deref.ensures.value (ap (λ track. track.windows) c.self.view_is)
    (IsPartitionedBy-leb (λ (w : Window). w.release) c.self.inside.windows.items c.args.t c.self.invariant.releases) c.partition_point.ensures.bound
    (λ parted. IsPartitionPoint-from_clause (λ (w : Window). nat_le w.release c.args.t) ws c.partition_point.result c.partition_point.ensures.partitioned parted (λ a r q k. search rules))
