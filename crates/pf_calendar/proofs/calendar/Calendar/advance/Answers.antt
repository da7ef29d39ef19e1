use Rattle.std.proofs.Common.{◌≡◌, ℕ, ◌++◌, ◌+◌, ◌-◌, ◌*◌, ◌≤◌, List, true, false, leb, length, get_or, take, refl, sym, ap, ◌∙◌, subst, arith, rules}
use Rattle.std.specs.FinSet as set
use Rattle.std.specs.List.Sorted.{IsNonDecreasingBy, IsPartitionPoint}
use Rattle.std.specs.Vec.{vec_capacity}
use Rattle.std.proofs.lemmas.Bool.{leb-true, leb-false}
use Rattle.std.proofs.lemmas.List.Sorted.{IsPartitionPoint-from_clause, IsPartitionedBy-leb}
use Rattle.std.specs.Prelude.{sum_by}
use Rattle.pf_order.specs.Counts.{Compares}
use Rattle.pf_order.proofs.Comparing.{compares_within}
use Rattle.pf_heap.specs.Keys.{list_of}
use Rattle.pf_calendar.specs.Steps.{MergesAll}
use Rattle.pf_calendar.proofs.Merging.{CanMergeAll}
use Rattle.pf_heap.specs.Digits.{digits}
use Rattle.pf_calendar.specs.declared.waiting_list.WaitingList.{WaitingList}
use Rattle.pf_calendar.specs.Queues.{Queues, later, due}
use Rattle.pf_calendar.specs.Invariant.{names_of}
use Rattle.pf_calendar.proofs.Whole.{none_empty, each_task_once, IsCalendarAfter, slots_rise, with_room, held_seen}
use Rattle.pf_calendar.proofs.Notes.{notes_after, waited_later}
use Rattle.pf_calendar.proofs.Advancing.{AreDue, can_merge, merges_cost, advanced}
use Rattle.pf_calendar.proofs.calendar.Calendar.advance.Goals.{After-partition_point-due, After-deref-2, After-drop}
use Rattle.pf_calendar.proofs.calendar.Calendar.advance.Goals as goal

due_from : (es : List WaitingList) (t n : ℕ) → n ≤ length es → IsPartitionPoint (λ e. leb e.slot t ≡ true) (λ e. leb e.slot t ≡ false) es n → AreDue es t n
due_from es t n le p = record {
  within = le;
  front = λ k d lt. leb-true (get_or es k d).slot t (p.0 k d (omega arith) lt);
  back = λ k d ge lt. leb-false (get_or es k d).slot t (p.1 k d ge lt);
}

-- the entries below the partition point are due
are_due : (c : After-partition_point-due) → AreDue c.self.inside.waiting.items c.args.t c.partition_point-due.result
are_due c =
    let n = c.partition_point-due.result in
    let rise = subst (λ l. IsNonDecreasingBy (λ (e : WaitingList). e.slot) l) (sym c.deref.ensures.value) (slots_rise c.self.invariant.0.laid) in
    let p = IsPartitionPoint-from_clause (λ (e : WaitingList). leb e.slot c.args.t) c.deref.result.now n c.partition_point-due.ensures.partitioned
    (IsPartitionedBy-leb (λ (e : WaitingList). e.slot) c.deref.result.now c.args.t rise) (λ a r g h. search rules) in
    subst (λ l. AreDue l c.args.t n) c.deref.ensures.value (due_from c.deref.result.now c.args.t n c.partition_point-due.ensures.bound p)

-- and can be merged, as the slice has them
can : (c : After-deref-2) → AreDue c.self.inside.waiting.items c.args.t c.partition_point-due.result →
    CanMergeAll c.self.inside.heaps (take c.partition_point-due.result c.deref-2.result.now)
can c due = subst (λ l. CanMergeAll c.self.inside.heaps (take c.partition_point-due.result l)) (sym c.deref-2.ensures.value) (can_merge c.self.invariant.0.laid due)

pub merge_all-requires-clause-heaps : goal.merge_all-requires-clause-heaps
merge_all-requires-clause-heaps c = let g = goal.at.merge_all-requires-clause-heaps c in (can g.After-deref-2 (are_due g.After-partition_point-due)).0

pub merge_all-requires-clause-once : goal.merge_all-requires-clause-once
merge_all-requires-clause-once c = let g = goal.at.merge_all-requires-clause-once c in (can g.After-deref-2 (are_due g.After-partition_point-due)).1

-- the calendar after the merges
done : (c : After-drop) → AreDue c.self.inside.waiting.items c.args.t c.partition_point-due.result →
    IsCalendarAfter c.merge_all.new.heaps c.drop.new.self.0.items c.merge_all.new.aside.items c.self.inside.held c.self.inside.limit
    (vec_capacity c.self.inside.waiting) (vec_capacity c.self.inside.unused)
    (record c.args.self.now { ready = set.union c.args.self.now.ready (due c.args.t c.args.self.now.waiting); waiting = later c.args.t c.args.self.now.waiting })
done c due =
    let n = c.partition_point-due.result in
    let merges = subst (λ l. MergesAll c.self.inside.heaps c.merge_all.new.heaps (names_of (take n l))) c.deref-2.ensures.value c.merge_all.ensures.merged in
    advanced c.self.invariant.0.laid due c.merge_all.new.heaps merges c.self.view_is (c.drop.ensures.items ∙ c.drain.ensures.kept)
    (c.merge_all.ensures.aside ∙ ap (λ l. c.self.inside.unused.items ++ names_of (take n l)) c.deref-2.ensures.value) c.self.invariant.0.some

pub invariant_of-self : goal.invariant_of-self
invariant_of-self c =
    let g = goal.at.invariant_of-self c in
    let d = done g.After-drop (are_due g.After-partition_point-due) in (
      with_room _ _ _ _ (c.drop.ensures.capacity ∙ c.drain.ensures.capacity) c.merge_all.ensures.capacity d.calendar,
      notes_after (ap (λ (q : Queues). q.waiting) c.self.view_is) (ap (λ (q : Queues). q.waiting) d.view) c.merge_all.ensures.merged.tasks
          (waited_later c.args.self.now.waiting c.args.t) c.self.invariant.1,
    )

pub returns-clause-advanced : goal.returns-clause-advanced
returns-clause-advanced c = let g = goal.at.returns-clause-advanced c in (done g.After-drop (are_due g.After-partition_point-due)).view

pub returns-clause-comparisons : goal.returns-clause-comparisons
returns-clause-comparisons c =
    let heaps = c.self.inside.heaps in
    let cost = merges_cost c.self.invariant.0.laid (are_due (goal.at.returns-clause-comparisons c).After-partition_point-due) c.self.view_is in
    compares_within cost
    (subst (λ (l : List WaitingList). Compares (length (take c.partition_point-due.result l) * digits (set.len heaps.main
    + sum_by (λ (e : WaitingList). set.len (list_of heaps e.heap)) (take c.partition_point-due.result l))) c.args.meter.now c.merge_all.new.meter)
    c.deref-2.ensures.value c.merge_all.ensures.comparisons)

pub returns-clause-some : goal.returns-clause-some
returns-clause-some c = let g = goal.at.returns-clause-some c in none_empty (done g.After-drop (are_due g.After-partition_point-due)).calendar

pub returns-clause-counted : goal.returns-clause-counted
returns-clause-counted c =
    let g = goal.at.returns-clause-counted c in
    held_seen (c.self.inside.limit - c.self.inside.held) (done g.After-drop (are_due g.After-partition_point-due)).calendar.laid refl
    ∙ sym (held_seen (c.self.inside.limit - c.self.inside.held) c.self.invariant.0.laid c.self.view_is)

pub returns-clause-once : goal.returns-clause-once
returns-clause-once c =
    let g = goal.at.returns-clause-once c in
    each_task_once (done g.After-drop (are_due g.After-partition_point-due)).calendar (c.self.inside.limit - c.self.inside.held)
