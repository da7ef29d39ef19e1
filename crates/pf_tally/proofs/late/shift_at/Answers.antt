use Rattle.std.proofs.Common.{nat_le, ◌∙◌, ap, rules, arith}
use Rattle.std.proofs.lemmas.List.Sorted.{IsPartitionPoint-from_clause, IsPartitionedBy-leb}
use Rattle.pf_tally.specs.declared.held.Held.{Held}
use Rattle.pf_tally.proofs.Chains.{chain_rises, shift_none, shift_some}
use Rattle.pf_tally.proofs.late.shift_at.Goals as goal

pub returns-then-count-eq0-clause-value : goal.returns-then-count-eq0-clause-value
returns-then-count-eq0-clause-value c =
    let delays = c.args.delays.now in
    let cut = IsPartitionPoint-from_clause (λ (h : Held). nat_le h.sub c.args.i) delays c.partition_point-count.result c.partition_point-count.ensures.partitioned
    (IsPartitionedBy-leb (λ (h : Held). h.sub) delays c.args.i (chain_rises 0 c.args.task.slot delays c.requires.chain)) (λ a r q k. search rules) in
    ap (λ j. j.slot) c.task.view_is ∙ shift_none c.args.task.slot c.args.i c.partition_point-count.result delays c.requires.chain (omega arith) (λ m d above below. cut.1 m d above below)

pub returns-clause-value : goal.returns-clause-value
returns-clause-value c =
    let delays = c.args.delays.now in
    let cut = IsPartitionPoint-from_clause (λ (h : Held). nat_le h.sub c.args.i) delays c.partition_point-count.result c.partition_point-count.ensures.partitioned
    (IsPartitionedBy-leb (λ (h : Held). h.sub) delays c.args.i (chain_rises 0 c.args.task.slot delays c.requires.chain)) (λ a r q k. search rules) in
    shift_some c.args.task.slot c.args.i c.partition_point-count.result delays _ c.requires.chain (omega arith) c.partition_point-count.ensures.bound
    (λ m d below. cut.0 m d (omega arith) below) (λ m d above below. cut.1 m d above below)
