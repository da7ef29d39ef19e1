use Rattle.std.proofs.Common.{◌≡◌, ◌-◌, nat_le, length, get_or, ap, rules, arith}
use Rattle.std.proofs.lemmas.Bool.{leb-true, leb-false}
use Rattle.std.proofs.lemmas.List.Sorted.{IsPartitionPoint-from_clause, IsPartitionedBy-leb}
use Rattle.pf_desk.specs.declared.run.Run.{Run}
use Rattle.pf_desk.proofs.briefs.count_begun.Goals as goal

pub returns-in-Some-clause-begun : goal.returns-in-Some-clause-begun
returns-in-Some-clause-begun c m d l =
    let runs = c.args.runs.now in
    let run = c.in-Some.run'.now in
    let at : get_or runs (length runs - 1) d ≡ run = search rules in
    omega (arith, c.if-run-k.true, c.requires m (length runs - 1) d (omega arith) (omega arith), ap (λ (r : Run). r.start) at)

pub returns-in_default-clause-begun : goal.returns-in_default-clause-begun
returns-in_default-clause-begun c m d l =
    let runs = c.args.runs.now in
    let cut = IsPartitionPoint-from_clause (λ (r : Run). nat_le r.start c.args.k) runs c.partition_point.result c.partition_point.ensures.partitioned
    (IsPartitionedBy-leb (λ (r : Run). r.start) runs c.args.k c.requires) (λ a r q k. search rules) in
    leb-true (get_or runs m d).start c.args.k (cut.0 m d (omega (arith, c.partition_point.ensures.bound)) l)

pub returns-in_default-clause-later : goal.returns-in_default-clause-later
returns-in_default-clause-later c m d l u =
    let runs = c.args.runs.now in
    let cut = IsPartitionPoint-from_clause (λ (r : Run). nat_le r.start c.args.k) runs c.partition_point.result c.partition_point.ensures.partitioned
    (IsPartitionedBy-leb (λ (r : Run). r.start) runs c.args.k c.requires) (λ a r q k. search rules) in
    leb-false (get_or runs m d).start c.args.k (cut.1 m d l u)
