use Rattle.std.proofs.Common.{◌≡◌, ℕ, ◌+◌, ◌-◌, ◌*◌, ◌<◌, ◌≤◌, true, Option, None, List, length, get_or, inl, refl, sym, ap, ◌∙◌, subst, arith}
use Rattle.std.specs.Prelude.{sum_by, MatchOption}
use Rattle.std.specs.FinSet as set
use Rattle.std.specs.Vec.{vec_capacity}
use Rattle.std.specs.List.Sorted.{IsNonDecreasingBy}
use Rattle.std.proofs.lemmas.List.{get_or_default}
use Rattle.pf_order.specs.Counts.{Counts, Compares}
use Rattle.pf_order.proofs.Comparing.{compares_none, compares_within}
use Rattle.pf_heap.specs.Keys.{Heaps, list_of, other_keys, HasNone}
use Rattle.pf_collections.specs.Table.Grown.{value_of}
use Rattle.pf_heap.specs.Digits.{digits}
use Rattle.pf_heap.proofs.Digits.{digits-mono}
use Rattle.pf_calendar.specs.Invariant.{waiting_in}
use Rattle.pf_calendar.specs.declared.waiting_list.WaitingList.{WaitingList}
use Rattle.pf_calendar.specs.Queues.{Queues, key_count, IsQueued, TakesOut, EachTaskOnce, NoneEmpty}
use Rattle.pf_calendar.specs.Steps.{HasNoneFor, RemovesAt}
use Rattle.pf_calendar.proofs.Naming.{no_entry}
use Rattle.pf_calendar.proofs.Arranged.{entry_listed}
use Rattle.pf_calendar.proofs.Whole.{none_empty, each_task_once, IsCalendarAfter, ready_digits, waiting_within, slots_rise, popped, seen, with_room, one_fewer}
use Rattle.pf_calendar.proofs.Notes.{notes_after, waited_taken, none_waits}
use Rattle.pf_calendar.proofs.Leaving.{ready_removed, not_held, some_held, discounted_calendar, takes_out}
use Rattle.pf_calendar.proofs.calendar.Calendar.take_out.Goals.{In-Some, In_ok-key, In_err-key}
use Rattle.pf_calendar.proofs.calendar.Calendar.take_out.Goals as goal

pub remove_waiting-requires-clause-rise : goal.remove_waiting-requires-clause-rise
remove_waiting-requires-clause-rise c =
    subst (λ l. IsNonDecreasingBy (λ (e : WaitingList). e.slot) l) (sym c.deref.ensures.value) (slots_rise c.self.invariant.0.laid)

pub remove_waiting-requires-clause-heaps : goal.remove_waiting-requires-clause-heaps
remove_waiting-requires-clause-heaps c = λ k d lt.
    let within : k < length c.self.inside.waiting.items = omega (arith, lt, ap length c.deref.ensures.value) in
    let is : get_or c.deref.result.now k d ≡ get_or c.self.inside.waiting.items k no_entry =
    ap (λ l. get_or l k d) c.deref.ensures.value ∙ get_or_default c.self.inside.waiting.items k d no_entry within in
    subst (λ (e : WaitingList). e.heap < length c.self.inside.heaps.lists) (sym is) (entry_listed c.self.invariant.0.laid k within)

match_none : {T : Type 0} (o : Option T) (P : Type 0) (Q : T → Type 0) → o ≡ None → P → MatchOption o P Q
match_none o P Q e p = subst (λ x. MatchOption x P Q) (sym e) p

-- what the look into one list made
waiting_made : (first second : Counts) (heaps : Heaps) (es lent : List WaitingList) (k : ℕ) → lent ≡ es → sum_by (λ (e : WaitingList). set.len (list_of heaps e.heap)) es ≤ k →
    Compares (2 * digits (sum_by (λ (e : WaitingList). set.len (list_of heaps e.heap)) lent)) first second → Compares (2 * digits k) first second
waiting_made first second heaps es lent k value le made =
    let size : List WaitingList → ℕ = λ l. sum_by (λ (e : WaitingList). set.len (list_of heaps e.heap)) l in
    compares_within (omega (arith, digits-mono (size es) k le)) (subst (λ l. Compares (2 * digits (size l)) first second) value made)

-- ---- the key was waiting

removes : (c : In-Some) → RemovesAt c.self.inside.heaps c.remove_waiting.new.heaps c.self.inside.waiting.items c.args.task c.in-Some.found.0 c.in-Some.found.1
removes c =
    let found = c.in-Some.found in
    subst (λ (l : List WaitingList). RemovesAt c.self.inside.heaps c.remove_waiting.new.heaps l c.args.task found.0 found.1) c.deref.ensures.value
    c.in-Some.ensures.removed

pub overflow_sub-self : goal.overflow_sub-self
overflow_sub-self c =
    some_held c.self.invariant.0.laid c.remove_waiting.new.heaps c.args.task c.in-Some.found.0 c.in-Some.found.1 (removes (goal.at.overflow_sub-self c).In-Some)

pub invariant_of-self : goal.invariant_of-self
invariant_of-self c =
    let laid = c.self.invariant.0.laid in
    let r = removes (goal.at.invariant_of-self c).In-Some in
    let t = takes_out laid c.remove_waiting.new.heaps c.args.task c.in-Some.found.0 c.in-Some.found.1 r c.discount.new.entries.items c.discount.new.unused.items
    c.discount.ensures.discounted in (
      with_room _ _ _ _ c.discount.ensures.capacity c.discount.ensures.unused_capacity
          (discounted_calendar laid c.remove_waiting.new.heaps c.args.task c.in-Some.found.0 c.in-Some.found.1 r c.discount.new.entries.items
          c.discount.new.unused.items c.self.invariant.0.some c.discount.ensures.discounted),
      notes_after refl refl (ap (λ (h : Heaps). h.tasks) (r.removed no_entry)) (waited_taken _ _ c.in-Some.found.1 t) c.self.invariant.1,
    )

pub returns-in-Some-clause-taken : goal.returns-in-Some-clause-taken
returns-in-Some-clause-taken c =
    let r = removes (goal.at.returns-in-Some-clause-taken c).In-Some in (
      r.of_task,
      subst (λ (q : Queues). TakesOut q (seen c.remove_waiting.new.heaps c.discount.new.entries.items (c.self.inside.limit - (c.self.inside.held - 1)))
          c.in-Some.found.1) c.self.view_is
          (takes_out c.self.invariant.0.laid c.remove_waiting.new.heaps c.args.task c.in-Some.found.0 c.in-Some.found.1 r
          c.discount.new.entries.items c.discount.new.unused.items c.discount.ensures.discounted),
    )

pub returns-in-Some-clause-comparisons : goal.returns-in-Some-clause-comparisons
returns-in-Some-clause-comparisons c =
    waiting_made _ c.remove_waiting.new.meter c.self.inside.heaps c.self.inside.waiting.items c.deref.result.now (key_count c.args.self.now) c.deref.ensures.value
    (waiting_within c.self.invariant.0.laid c.self.view_is) c.in-Some.ensures.comparisons

pub returns-in-Some-clause-some : goal.returns-in-Some-clause-some
returns-in-Some-clause-some c =
    none_empty
    (discounted_calendar c.self.invariant.0.laid c.remove_waiting.new.heaps c.args.task c.in-Some.found.0 c.in-Some.found.1
    (removes (goal.at.returns-in-Some-clause-some c).In-Some) c.discount.new.entries.items c.discount.new.unused.items c.self.invariant.0.some
    c.discount.ensures.discounted)

pub returns-in-Some-clause-once : goal.returns-in-Some-clause-once
returns-in-Some-clause-once c = subst EachTaskOnce c.self.view_is (each_task_once c.self.invariant.0 (c.self.inside.limit - c.self.inside.held))

-- ---- the key was ready, or is not held

-- no list has the task
none_held : (c : In_err-key) → ¬ (IsQueued c.args.self.now c.args.task)
none_held c =
    let laid = c.self.invariant.0.laid in
    let heaps = c.self.inside.heaps in
    let es = c.self.inside.waiting.items in
    let none_for : HasNoneFor heaps es (value_of c.self.inside.slots c.args.task) c.args.task =
    subst (λ (n : ℕ). HasNoneFor heaps es n c.args.task) c.get-slot.ensures
    (subst (λ (l : List WaitingList). HasNoneFor heaps l c.get-slot.result c.args.task) c.deref.ensures.value c.in_default.ensures.removed.1) in
    let none_ready : HasNone heaps.main c.args.task =
    subst (λ (h : Heaps). HasNone h.main c.args.task) c.in_default.ensures.removed.0 c.in_err-key.ensures.removed.0 in
    subst (λ (q : Queues). ¬ (IsQueued q c.args.task)) c.self.view_is
    (not_held laid (c.self.inside.limit - c.self.inside.held) c.args.task none_ready (none_waits laid c.self.invariant.1 c.args.task none_for))

-- nothing changed
all_same : (c : In_err-key) → c.remove_main.new.self ≡ c.self.inside.heaps
all_same c = c.in_err-key.ensures.removed.1 ∙ c.in_default.ensures.removed.0

pub returns-in_err-key-clause-taken : goal.returns-in_err-key-clause-taken
returns-in_err-key-clause-taken c =
    let g = (goal.at.returns-in_err-key-clause-taken c).In_err-key in
    match_none c.from_residual.result _ _ c.from_residual.ensures
    (none_held g, ap (λ h. seen h c.self.inside.waiting.items (c.self.inside.limit - c.self.inside.held)) (all_same g) ∙ c.self.view_is)

pub returns-in_err-key-clause-comparisons : goal.returns-in_err-key-clause-comparisons
returns-in_err-key-clause-comparisons c =
    subst (λ (m : Counts). Compares (2 * digits (key_count c.args.self.now)) c.args.meter.now m) (sym (c.in_err-key.ensures.unfound ∙ c.in_default.ensures.unfound))
    (compares_within (omega arith) (compares_none c.args.meter.now))

pub returns-in_err-key-clause-some : goal.returns-in_err-key-clause-some
returns-in_err-key-clause-some c =
    subst (λ (h : Heaps). NoneEmpty (waiting_in h c.self.inside.waiting.items)) (sym (all_same (goal.at.returns-in_err-key-clause-some c).In_err-key)) (none_empty c.self.invariant.0)

pub returns-in_err-key-clause-once : goal.returns-in_err-key-clause-once
returns-in_err-key-clause-once c = subst EachTaskOnce c.self.view_is (each_task_once c.self.invariant.0 (c.self.inside.limit - c.self.inside.held))

-- what was removed from the ready list
removed_ready : (c : In_ok-key) → (set.contains c.self.inside.heaps.main c.in_ok-key.key ≡ true) × (c.in_ok-key.key.task ≡ c.args.task)
    × (c.remove_main.new.self ≡ record c.self.inside.heaps { main = other_keys c.self.inside.heaps.main c.args.task; spare = c.self.inside.heaps.spare + 1 })
removed_ready c =
    subst (λ (h : Heaps). (set.contains h.main c.in_ok-key.key ≡ true) × (c.in_ok-key.key.task ≡ c.args.task)
    × (c.remove_main.new.self ≡ record h { main = other_keys h.main c.args.task; spare = h.spare + 1 }))
    c.in_default.ensures.removed.0 c.in_ok-key.ensures.removed

-- the calendar after a removal from the ready list
from_ready : (c : In_ok-key) → (1 ≤ c.self.inside.held) × IsCalendarAfter c.remove_main.new.self c.self.inside.waiting.items c.self.inside.unused.items
    (c.self.inside.held - 1) c.self.inside.limit (vec_capacity c.self.inside.waiting) (vec_capacity c.self.inside.unused)
    (record c.args.self.now { ready = set.remove c.args.self.now.ready c.in_ok-key.key; spare = c.args.self.now.spare + 1 })
from_ready c =
    let r = removed_ready c in
    popped c.self.invariant.0 c.self.view_is c.in_ok-key.key r.0 (ready_removed c.self.invariant.0.laid c.remove_main.new.self c.args.task c.in_ok-key.key r.1 r.0 r.2)

pub overflow_sub-self-2 : goal.overflow_sub-self-2
overflow_sub-self-2 c = (from_ready (goal.at.overflow_sub-self-2 c).In_ok-key).0

pub invariant_of-self-2 : goal.invariant_of-self-2
invariant_of-self-2 c =
    let g = (goal.at.invariant_of-self-2 c).In_ok-key in
    let d = (from_ready g).1 in (
      d.calendar,
      notes_after (ap (λ (q : Queues). q.waiting) c.self.view_is) (ap (λ (q : Queues). q.waiting) d.view) (ap (λ (h : Heaps). h.tasks) (removed_ready g).2)
          (λ s q h. h) c.self.invariant.1,
    )

pub returns-clause-taken : goal.returns-clause-taken
returns-clause-taken c =
    let g = (goal.at.returns-clause-taken c).In_ok-key in
    let r = removed_ready g in
    (r.1, inl (ap (λ (q : Queues). set.contains q.ready c.in_ok-key.key) (sym c.self.view_is) ∙ r.0, (from_ready g).1.view))

pub returns-clause-once : goal.returns-clause-once
returns-clause-once c = subst EachTaskOnce c.self.view_is (each_task_once c.self.invariant.0 (c.self.inside.limit - c.self.inside.held))

pub returns-clause-some : goal.returns-clause-some
returns-clause-some c = none_empty (from_ready (goal.at.returns-clause-some c).In_ok-key).1.calendar

pub returns-clause-comparisons : goal.returns-clause-comparisons
returns-clause-comparisons c =
    let start : Compares (2 * digits (set.len c.self.inside.heaps.main)) c.args.meter.now c.remove_main.new.meter =
    subst (λ (a : Counts × Heaps). Compares (2 * digits (set.len a.1.main)) a.0 c.remove_main.new.meter)
    (λ i. (c.in_default.ensures.unfound i, c.in_default.ensures.removed.0 i)) c.in_ok-key.ensures.comparisons in
    compares_within (omega (arith, ready_digits c.self.invariant.0.laid c.self.view_is)) start

pub returns-in-Some-clause-counted : goal.returns-in-Some-clause-counted
returns-in-Some-clause-counted c =
    let laid = c.self.invariant.0.laid in
    let r = removes (goal.at.returns-in-Some-clause-counted c).In-Some in
    one_fewer (c.self.inside.limit - c.self.inside.held) (c.self.inside.limit - (c.self.inside.held - 1)) laid c.self.view_is
    (some_held laid c.remove_waiting.new.heaps c.args.task c.in-Some.found.0 c.in-Some.found.1 r)
    (discounted_calendar laid c.remove_waiting.new.heaps c.args.task c.in-Some.found.0 c.in-Some.found.1 r c.discount.new.entries.items c.discount.new.unused.items
    c.self.invariant.0.some c.discount.ensures.discounted).laid refl

pub returns-clause-counted : goal.returns-clause-counted
returns-clause-counted c =
    let f = from_ready (goal.at.returns-clause-counted c).In_ok-key in
    one_fewer (c.self.inside.limit - c.self.inside.held) (c.self.inside.limit - (c.self.inside.held - 1)) c.self.invariant.0.laid c.self.view_is f.0 f.1.calendar.laid refl
