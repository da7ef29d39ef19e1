use Rattle.std.proofs.Common.{nat_le, refl, rules}
use Rattle.std.proofs.lemmas.List.Sorted.{IsPartitionPoint-from_clause, IsPartitionedBy-leb}
use Rattle.pf_tally.specs.Clock.{Stop}
use Rattle.pf_courses.proofs.Cuts.{cut_found}
use Rattle.pf_courses.proofs.Activity.{stopped_between}
use Rattle.pf_courses.proofs.pause.is_stopped.Goals as goal

pub returns : goal.returns
returns c =
    let t = c.args.t in
    let stops = c.args.stops.now in
    stopped_between t stops c.partition_point-begun.result c.partition_point-ended.result
    (cut_found (λ (s : Stop). nat_le s.start t) stops stops stops c.partition_point-begun.result refl refl
    (IsPartitionedBy-leb (λ (s : Stop). s.start) stops t c.requires.starts) c.partition_point-begun.ensures.bound
    (λ parted. IsPartitionPoint-from_clause (λ (s : Stop). nat_le s.start t) stops c.partition_point-begun.result c.partition_point-begun.ensures.partitioned parted (λ a r q k. search rules)))
    (cut_found (λ (s : Stop). nat_le s.end t) stops stops stops c.partition_point-ended.result refl refl
    (IsPartitionedBy-leb (λ (s : Stop). s.end) stops t c.requires.ends) c.partition_point-ended.ensures.bound
    (λ parted. IsPartitionPoint-from_clause (λ (s : Stop). nat_le s.end t) stops c.partition_point-ended.result c.partition_point-ended.ensures.partitioned parted (λ a r q k. search rules)))
