use Rattle.std.proofs.Common.{◌≡◌, ◌+◌, ◌-◌, ◌<◌, length, get_or, refl, sym, ap, ◌∙◌, subst, arith, set as set_item}
use Rattle.std.specs.FinSet as set
use Rattle.std.specs.FinMap as map
use Rattle.std.specs.Vec.{vec_capacity}
use Rattle.std.proofs.lemmas.List.{get_or_read}
use Rattle.pf_order.proofs.Comparing.{compares_within}
use Rattle.pf_heap.specs.Keys.{Heaps, list_of}
use Rattle.pf_heap.proofs.Digits.{digits-mono}
use Rattle.pf_calendar.specs.declared.waiting_list.WaitingList.{WaitingList}
use Rattle.pf_calendar.specs.Queues.{Queues, list_at, key_count}
use Rattle.pf_calendar.proofs.Naming.{no_entry}
use Rattle.pf_calendar.proofs.Arranged.{entry_listed}
use Rattle.pf_calendar.proofs.Whole.{none_empty, IsCalendarAfter, has_unused, slots_rise, slots_apart, some_free, absent_from, with_room, count_is, held_seen}
use Rattle.pf_calendar.proofs.Putting.{opened, opened_within, opened_size, put_done}
use Rattle.pf_collections.specs.Table.Grown.{with_value}
use Rattle.pf_calendar.proofs.Notes.{notes_same, notes_put}
use Rattle.pf_calendar.proofs.calendar.Calendar.put.Goals.{After-index-entry, After-index_mut}
use Rattle.pf_calendar.proofs.calendar.Calendar.put.Goals as goal

pub open-at-requires-clause-rise : goal.open-at-requires-clause-rise
open-at-requires-clause-rise c = slots_rise c.self.invariant.0.laid

pub open-at-requires-clause-apart : goal.open-at-requires-clause-apart
open-at-requires-clause-apart c = slots_apart c.self.invariant.0.laid

pub open-at-requires-clause-room : goal.open-at-requires-clause-room
open-at-requires-clause-room c =
    let laid = c.self.invariant.0.laid in
    omega (arith, laid.room_is, has_unused c.self.invariant.0 (some_free laid c.self.view_is c.requires.room), c.self.inside.waiting.ok.0)

pub open-at-requires-clause-some : goal.open-at-requires-clause-some
open-at-requires-clause-some c =
    omega (arith, has_unused c.self.invariant.0 (some_free c.self.invariant.0.laid c.self.view_is c.requires.room), c.self.inside.unused.ok.0)

-- the entry that was read
entry_is : (c : After-index-entry) → c.index-entry.result.now ≡ get_or c.open-at.new.entries.items c.open-at.result no_entry
entry_is c =
    get_or_read c.open-at.new.entries.items c.open-at.result c.index-entry.result.now (opened_within c.self.invariant.0.laid c.open-at.ensures.opened) c.index-entry.ensures
    no_entry

pub insert-requires-clause-heap : goal.insert-requires-clause-heap
insert-requires-clause-heap c =
    let laid = c.self.invariant.0.laid in
    let opens = c.open-at.ensures.opened in
    subst (λ (e : WaitingList). e.heap < length c.self.inside.heaps.lists) (sym (entry_is (goal.at.insert-requires-clause-heap c).After-index-entry))
    (entry_listed (opened laid opens) c.open-at.result (opened_within laid opens))

pub insert-requires-clause-absent : goal.insert-requires-clause-absent
insert-requires-clause-absent c = absent_from c.self.invariant.0.laid c.self.view_is c.args.key.task c.requires.absent

-- the calendar after the put
done : (c : After-index_mut) →
    IsCalendarAfter c.insert.new.self
    (set_item c.open-at.new.entries.items c.open-at.result
    (record { slot = c.index_mut.result.now.slot; heap = c.index_mut.result.now.heap; count = c.index-entry.result.now.count + 1 })) c.open-at.new.unused.items
    (c.self.inside.held + 1) c.self.inside.limit (vec_capacity c.self.inside.waiting) (vec_capacity c.self.inside.unused)
    (record c.args.self.now { waiting = map.insert c.args.self.now.waiting c.args.slot (set.insert (list_at c.args.self.now.waiting c.args.slot) c.args.key); spare = c.args.self.now.spare - 1 })
done c =
    put_done c.self.invariant.0.laid c.open-at.ensures.opened c.self.view_is c.requires.room c.args.key c.requires.absent c.index-entry.ensures c.index_mut.ensures.value
    c.insert.ensures.inserted c.self.invariant.0.some

pub invariant_of-self : goal.invariant_of-self
invariant_of-self c =
    let d = done (goal.at.invariant_of-self c).After-index_mut in (
      with_room _ _ _ _ c.open-at.ensures.capacity c.open-at.ensures.unused_capacity d.calendar,
      notes_same (ap (λ (q : Queues). q.waiting) d.view) (ap (λ (h : Heaps). h.tasks) c.insert.ensures.inserted ∙ ap (λ (q : Queues). q.tasks) c.self.view_is)
          (notes_put c.args.self.now c.args.slot c.args.key (c.set.ensures ∙ ap (λ t. with_value c.self.inside.slots t c.args.slot) c.task.ensures.value) c.requires.placed c.requires.absent
          (notes_same (ap (λ (q : Queues). q.waiting) (sym c.self.view_is)) (ap (λ (q : Queues). q.tasks) (sym c.self.view_is)) c.self.invariant.1) refl),
    )

pub returns-clause-put : goal.returns-clause-put
returns-clause-put c = (done (goal.at.returns-clause-put c).After-index_mut).view

pub returns-clause-comparisons : goal.returns-clause-comparisons
returns-clause-comparisons c =
    let laid = c.self.invariant.0.laid in
    let heaps = c.self.inside.heaps in
    let e = c.index-entry.result.now in
    compares_within
    (
    digits-mono (set.len (list_of heaps e.heap) + 1) (key_count c.args.self.now + 1)
    (omega (
      arith,
      ap (λ (x : WaitingList). set.len (list_of heaps x.heap)) (entry_is (goal.at.returns-clause-comparisons c).After-index-entry),
      opened_size laid c.open-at.ensures.opened,
      ap key_count c.self.view_is,
      count_is laid (c.self.inside.limit - c.self.inside.held),
    ))
    ) c.insert.ensures.comparisons

pub returns-clause-some : goal.returns-clause-some
returns-clause-some c = none_empty (done (goal.at.returns-clause-some c).After-index_mut).calendar

pub insert-requires-clause-placed : goal.insert-requires-clause-placed
insert-requires-clause-placed c = omega (arith, c.requires.placed, ap (λ (q : Queues). q.tasks) c.self.view_is)

pub set-requires : goal.set-requires
set-requires c = omega (arith, c.requires.placed, ap (λ (q : Queues). q.tasks) c.self.view_is, c.self.invariant.1.room, c.task.ensures.value)

pub returns-clause-counted : goal.returns-clause-counted
returns-clause-counted c =
    held_seen (c.self.inside.limit - (c.self.inside.held + 1)) (done (goal.at.returns-clause-counted c).After-index_mut).calendar.laid refl
    ∙ ap (λ n. n + 1) (sym (held_seen (c.self.inside.limit - c.self.inside.held) c.self.invariant.0.laid c.self.view_is))
