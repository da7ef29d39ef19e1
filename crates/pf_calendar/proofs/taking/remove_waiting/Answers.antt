use Rattle.std.proofs.Common.{ℕ, ◌<◌, ◌*◌, length, get_or, subst, arith}
use Rattle.std.specs.Prelude.{sum_by}
use Rattle.std.specs.FinSet as set
use Rattle.std.proofs.lemmas.List.{get_or_default}
use Rattle.std.proofs.lemmas.List.Sums.{get_or-le-sum_by}
use Rattle.pf_order.specs.Counts.{Compares}
use Rattle.pf_order.proofs.Comparing.{compares_within}
use Rattle.pf_heap.specs.Keys.{list_of}
use Rattle.pf_heap.specs.Digits.{digits}
use Rattle.pf_heap.proofs.Digits.{digits-mono}
use Rattle.pf_calendar.specs.declared.waiting_list.WaitingList.{WaitingList}
use Rattle.pf_calendar.proofs.Naming.{no_entry}
use Rattle.pf_calendar.proofs.taking.remove_waiting.Goals as goal

pub returns-clause-comparisons : goal.returns-clause-comparisons
returns-clause-comparisons c =
    let heaps = c.args.heaps.now in
    let es = c.args.entries.now in
    let at = c.place_of-at.result in
    let lt : at < length es = omega (arith, c.if-at-entries.false) in
    let size : WaitingList → ℕ = λ x. set.len (list_of heaps x.heap) in
    compares_within
    (omega (arith, digits-mono (size (get_or es at no_entry)) (sum_by size es) (get_or-le-sum_by size es at no_entry lt)))
    (subst (λ (x : WaitingList). Compares (2 * digits (size x)) c.args.meter.now c.remove.new.meter) (get_or_default es at c.index-entries-at-2.result no_entry lt)
    c.in_ok-key.ensures.comparisons)
