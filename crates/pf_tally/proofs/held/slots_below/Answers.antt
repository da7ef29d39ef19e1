use Rattle.std.proofs.Common.{nat_lt, rules, sym, arith, ℕ}
use Rattle.std.proofs.lemmas.List.Sorted.{IsPartitionPoint-from_clause, IsPartitionedBy-ltb}
use Rattle.pf_tally.proofs.Holding.{count_from_cut}
use Rattle.pf_tally.proofs.held.slots_below.Goals as goal

pub returns : goal.returns
returns c =
    let slots = c.args.slots.now in
    let cut = IsPartitionPoint-from_clause (λ (q : ℕ). nat_lt q c.args.t) slots c.partition_point.result c.partition_point.ensures.partitioned
    (IsPartitionedBy-ltb (λ (q : ℕ). q) slots c.args.t c.requires) (λ a r q k. search rules) in
    record {
      value = sym (count_from_cut (λ q. nat_lt q c.args.t) slots c.partition_point.result c.partition_point.ensures.bound
          (λ k d below. cut.0 k d (omega arith) below) (λ k d above below. cut.1 k d above below));
      bound = c.partition_point.ensures.bound;
    }
