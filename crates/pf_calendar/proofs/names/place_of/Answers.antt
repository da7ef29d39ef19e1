use Rattle.std.proofs.Common.{◌≡◌, ℕ, ◌≤◌, List, length, get_or, true, false, ltb, arith, rules}
use Rattle.std.specs.List.Sorted.{IsPartitionPoint}
use Rattle.std.proofs.lemmas.Bool.{ltb-true, ltb-false}
use Rattle.std.proofs.lemmas.List.Sorted.{IsPartitionPoint-from_clause, IsPartitionedBy-ltb}
use Rattle.pf_calendar.specs.declared.waiting_list.WaitingList.{WaitingList}
use Rattle.pf_calendar.specs.Steps.{IsSlotPlace}
use Rattle.pf_calendar.proofs.names.place_of.Goals as goal

place_from : (es : List WaitingList) (slot at : ℕ) → at ≤ length es → IsPartitionPoint (λ e. ltb e.slot slot ≡ true) (λ e. ltb e.slot slot ≡ false) es at → IsSlotPlace es slot at
place_from es slot at le p = record {
  within = le;
  before = λ k d lt. ltb-true (get_or es k d).slot slot (p.0 k d (omega arith) lt);
  after = λ k d ge lt. ltb-false (get_or es k d).slot slot (p.1 k d ge lt);
}

pub returns : goal.returns
returns c =
    let es = c.args.entries.now in
    let at = c.partition_point.result in
    place_from es c.args.slot at c.partition_point.ensures.bound
    (IsPartitionPoint-from_clause (λ (e : WaitingList). ltb e.slot c.args.slot) es at c.partition_point.ensures.partitioned
    (IsPartitionedBy-ltb (λ (e : WaitingList). e.slot) es c.args.slot c.requires) (λ a r g h. search rules))
