use Rattle.std.proofs.Common.{ltb, rules}
use Rattle.std.proofs.lemmas.List.Sorted.{IsPartitionPoint-from_clause, IsPartitionedBy-ltb}
use Rattle.pf_scenario.specs.declared.event.Numbered.{Numbered}
use Rattle.pf_picture.proofs.Owners.{non_decreasing, parted}
use Rattle.pf_picture.proofs.denials.place_of.Goals as goal

pub returns : goal.returns
returns c =
    let xs = c.args.events.now in
    let at = c.partition_point.result in
    let id = c.args.id in
    let point = parted xs id at (
    IsPartitionPoint-from_clause (λ (x : Numbered). ltb x.id id) xs at c.partition_point.ensures.partitioned
    (IsPartitionedBy-ltb (λ (x : Numbered). x.id) xs id (non_decreasing xs c.requires)) (λ a r g h. search rules)) in
    record { within = c.partition_point.ensures.bound; below = point.0; others = point.1 }
