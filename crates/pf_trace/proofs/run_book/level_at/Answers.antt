use Rattle.std.proofs.Common.{◌∙◌, nat_lt, rules, sym, ap, arith}
use Rattle.std.proofs.lemmas.List.Sorted.{IsPartitionPoint-from_clause, IsPartitionedBy-ltb}
use Rattle.pf_tally.specs.declared.level.Level.{Level}
use Rattle.pf_trace.specs.Runs.{level_when}
use Rattle.pf_trace.proofs.Levels.{level_found}
use Rattle.pf_trace.proofs.run_book.level_at.Goals as goal

pub returns : goal.returns
returns c =
    let levels = c.args.levels.now in
    let t = c.args.t in
    let k = c.partition_point-at.result in
    let cut = IsPartitionPoint-from_clause (λ (l : Level). nat_lt l.slot t) levels k c.partition_point-at.ensures.partitioned
    (IsPartitionedBy-ltb (λ (l : Level). l.slot) levels t c.requires) (λ a r q k. search rules) in
    c.level_when.ensures ∙ ap (level_when t) c.level_of.ensures
    ∙ sym (level_found t levels k c.requires c.partition_point-at.ensures.bound
    (λ i d less. cut.0 i d (omega arith) less) (λ i d more less. cut.1 i d more less))
