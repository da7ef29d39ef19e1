use Rattle.std.proofs.Common.{◌≡◌, ◌+◌, ◌*◌, ◌≤◌, ◌++◌, vec_len, take, drop}
use Rattle.std.specs.Prelude.{sum_by}
use Rattle.std.specs.Vec.{vec_capacity}
use Rattle.std.specs.FinSet as set
use Rattle.pf_order.specs.Counts.{Compares}
use Rattle.pf_heap.specs.Keys.{list_of}
use Rattle.pf_heap.specs.Digits.{digits}
use Rattle.pf_calendar.specs.Invariant.{names_of}
use Rattle.pf_calendar.specs.Steps.{MergesAll}
use Rattle.pf_calendar.proofs.merge.merge_all.Given as goal

abbrev pub invariant-loop-entry : goal.invariant-loop-entry
invariant-loop-entry l = record {
  merges : MergesAll l.initial.heaps l.heaps (names_of (take l.entry-index l.entries));
  aside : l.aside.items ≡ l.initial.aside.items ++ names_of (take l.entry-index l.entries);
  long : vec_len l.aside ≡ vec_len l.initial.aside + l.entry-index;
  capacity : vec_capacity l.aside ≡ vec_capacity l.initial.aside;
  shrinks : set.len l.heaps.main + sum_by (λ e. set.len (list_of l.initial.heaps e.heap)) (drop l.entry-index l.entries)
      ≤ set.len l.initial.heaps.main + sum_by (λ e. set.len (list_of l.initial.heaps e.heap)) l.entries;
  counted : Compares
      (l.entry-index * digits (set.len l.initial.heaps.main + sum_by (λ e. set.len (list_of l.initial.heaps e.heap)) l.entries))
      l.initial.meter l.meter;
}
