use Rattle.std.proofs.Common.{◌≡◌, ℕ, ◌+◌, ◌-◌, ◌^◌, ◌≤◌, length, ◌++◌, sym, ap, ◌∙◌, arith, rules}
use Rattle.std.specs.Prelude.{replicate}
use Rattle.std.specs.FinSet as set
use Rattle.std.specs.Vec.{vec_capacity}
use Rattle.std.proofs.lemmas.List.{append-nil}
use Rattle.pf_lemmas.proofs.Options.{anyway}
use Rattle.pf_calendar.specs.Queues.{Queues, key_count}
use Rattle.pf_calendar.specs.Invariant.{waiting_in, IsCalendar, NotesSlots}
use Rattle.pf_calendar.specs.Steps.{AddsHeaps}
use Rattle.pf_calendar.proofs.Whole.{seen, count_is}
use Rattle.pf_calendar.proofs.Notes.{notes_same}
use Rattle.pf_calendar.proofs.Growing.{reserved_seen, reserved}
use Rattle.pf_calendar.proofs.calendar.Calendar.reserve_room.Goals.{After-reserve, After-add_heaps}
use Rattle.pf_calendar.proofs.calendar.Calendar.reserve_room.Goals as goal

-- what contracts see is as before, with more room and with more empty heaps
roomier : (c : After-reserve) → seen c.reserve_room.new.self c.reserve.new.self.items (c.self.inside.limit - c.self.inside.held) ≡ c.args.self.now
roomier c =
    reserved_seen c.self.invariant.0.laid c.reserve_room.new.self c.reserve.new.self.items 0 (c.self.inside.limit - c.self.inside.held)
    c.in_ok-reserve_room.ensures.main (c.in_ok-reserve_room.ensures.lists ∙ sym (append-nil c.self.inside.heaps.lists)) c.in_ok-reserve_room.ensures.tasks c.reserve.ensures.items ∙ c.self.view_is

grown : (c : After-add_heaps) → seen c.add_heaps.new.heaps c.reserve.new.self.items (c.self.inside.limit - c.self.inside.held) ≡ c.args.self.now
grown c =
    let a = c.add_heaps.ensures.added in
    reserved_seen c.self.invariant.0.laid c.add_heaps.new.heaps c.reserve.new.self.items a.0 (c.self.inside.limit - c.self.inside.held)
    (a.2.main ∙ c.in_ok-reserve_room.ensures.main) (a.2.lists ∙ ap (λ l. l ++ replicate a.0 set.empty) c.in_ok-reserve_room.ensures.lists) (a.2.tasks ∙ c.in_ok-reserve_room.ensures.tasks)
    c.reserve.ensures.items ∙ c.self.view_is

roomier_notes : (c : After-reserve) → NotesSlots c.self.inside.slots c.reserve_room.new.self.tasks (waiting_in c.reserve_room.new.self c.reserve.new.self.items)
roomier_notes c =
    notes_same (ap (λ (q : Queues). q.waiting) (roomier c) ∙ sym (ap (λ (q : Queues). q.waiting) c.self.view_is)) c.in_ok-reserve_room.ensures.tasks c.self.invariant.1

grown_notes : (c : After-add_heaps) → NotesSlots c.self.inside.slots c.add_heaps.new.heaps.tasks (waiting_in c.add_heaps.new.heaps c.reserve.new.self.items)
grown_notes c =
    notes_same (ap (λ (q : Queues). q.waiting) (grown c) ∙ sym (ap (λ (q : Queues). q.waiting) c.self.view_is))
    (c.add_heaps.ensures.added.2.tasks ∙ c.in_ok-reserve_room.ensures.tasks) c.self.invariant.1

-- with the keys held, no more than can be named
fits : (c : After-add_heaps) → c.self.inside.held + c.args.n ≤ 2 ^ 32 - 3
fits c =
    let laid = c.self.invariant.0.laid in
    omega (arith, c.requires, laid.held_is, ap key_count c.self.view_is, count_is laid (c.self.inside.limit - c.self.inside.held))

-- the calendar with n more heaps, under a limit that they are enough for
enough : (c : After-add_heaps) (n limit : ℕ) → n ≤ c.saturating_sub-more.result → AddsHeaps c.reserve_room.new.self c.add_heaps.new.heaps c.reserve-2.new.self.items c.add_heaps.new.names.items n →
    c.self.inside.held ≤ limit → limit ≤ length c.self.inside.waiting.items + length c.self.inside.unused.items + n → limit ≤ c.self.inside.held + c.reserve_room.new.self.spare →
    IsCalendar c.add_heaps.new.heaps c.reserve.new.self.items c.add_heaps.new.names.items c.self.inside.held limit
    (vec_capacity c.reserve.new.self) (vec_capacity c.add_heaps.new.names)
enough c n limit made adds within few spare =
    let laid = c.self.invariant.0.laid in
    reserved c.self.invariant.0 c.reserve_room.new.self c.add_heaps.new.heaps c.reserve.new.self.items c.reserve-2.new.self.items c.add_heaps.new.names.items n limit _ _
    c.in_ok-reserve_room.ensures.main c.in_ok-reserve_room.ensures.lists c.reserve.ensures.items c.reserve-2.ensures.items adds within few spare
    (omega (arith, made, c.self.inside.waiting.ok.0, c.self.inside.unused.ok.0, c.len.ensures, c.len-2.ensures, c.saturating_sub-more.ensures, laid.small, laid.within, fits c))
    (omega (arith, made, c.self.inside.waiting.ok.0, c.self.inside.unused.ok.0, c.len.ensures, c.len-2.ensures, c.saturating_sub-more.ensures, c.len-3.ensures, c.in_ok-reserve.ensures.ok, c.reserve.ensures.len))
    (omega (arith, made, c.self.inside.waiting.ok.0, c.self.inside.unused.ok.0, c.len.ensures, c.len-2.ensures, c.saturating_sub-more.ensures, c.len-4.ensures, c.in_ok-reserve-2.ensures.ok, c.reserve-2.ensures.len, c.reserve.ensures.len, c.add_heaps.ensures.capacity))

pub returns-in_err-reserve-clause-waiting : goal.returns-in_err-reserve-clause-waiting
returns-in_err-reserve-clause-waiting c = ap (λ (q : Queues). q.waiting) (roomier (goal.at.returns-in_err-reserve-clause-waiting c).After-reserve)

pub returns-in_err-reserve-clause-err : goal.returns-in_err-reserve-clause-err
returns-in_err-reserve-clause-err c = anyway _ _ (roomier (goal.at.returns-in_err-reserve-clause-err c).After-reserve)

pub returns-in_err-reserve-2-clause-waiting : goal.returns-in_err-reserve-2-clause-waiting
returns-in_err-reserve-2-clause-waiting c = ap (λ (q : Queues). q.waiting) (roomier (goal.at.returns-in_err-reserve-2-clause-waiting c).After-reserve)

pub returns-in_err-reserve-2-clause-err : goal.returns-in_err-reserve-2-clause-err
returns-in_err-reserve-2-clause-err c = anyway _ _ (roomier (goal.at.returns-in_err-reserve-2-clause-err c).After-reserve)

pub invariant_of-self-in_err-reserve : goal.invariant_of-self-in_err-reserve
invariant_of-self-in_err-reserve c =
    (search rules, roomier_notes (goal.at.invariant_of-self-in_err-reserve c).After-reserve)

pub invariant_of-self-in_err-reserve-2 : goal.invariant_of-self-in_err-reserve-2
invariant_of-self-in_err-reserve-2 c = (search rules, roomier_notes (goal.at.invariant_of-self-in_err-reserve-2 c).After-reserve)

pub invariant_of-self-in_err-add_heaps : goal.invariant_of-self-in_err-add_heaps
invariant_of-self-in_err-add_heaps c =
    let laid = c.self.invariant.0.laid in
    let a = c.add_heaps.ensures.added in
    let g = (goal.at.invariant_of-self-in_err-add_heaps c).After-add_heaps in (
      enough g a.0 c.self.inside.limit a.1 a.2 laid.within (omega (arith, laid.enough)) (omega (arith, laid.spare, c.in_ok-reserve_room.ensures.grows)),
      grown_notes g,
    )

pub returns-in_err-add_heaps-clause-waiting : goal.returns-in_err-add_heaps-clause-waiting
returns-in_err-add_heaps-clause-waiting c = ap (λ (q : Queues). q.waiting) (grown (goal.at.returns-in_err-add_heaps-clause-waiting c).After-add_heaps)

pub returns-in_err-add_heaps-clause-err : goal.returns-in_err-add_heaps-clause-err
returns-in_err-add_heaps-clause-err c = anyway _ _ (grown (goal.at.returns-in_err-add_heaps-clause-err c).After-add_heaps)

pub invariant_of-self-2 : goal.invariant_of-self-2
invariant_of-self-2 c =
    let a = c.in_ok-add_heaps.ensures.added in
    let g = (goal.at.invariant_of-self-2 c).After-add_heaps in (
      enough g a.0 (c.self.inside.held + c.args.n) a.1 a.2 (omega arith)
          (omega (arith, a.3, c.self.inside.waiting.ok.0, c.self.inside.unused.ok.0, c.len.ensures, c.len-2.ensures, c.saturating_sub-more.ensures))
          (omega (arith, c.in_ok-reserve_room.ensures.ok)),
      grown_notes g,
    )

pub returns-clause-waiting : goal.returns-clause-waiting
returns-clause-waiting c = ap (λ (q : Queues). q.waiting) (grown (goal.at.returns-clause-waiting c).After-add_heaps)

pub add_heaps-requires-clause-few : goal.add_heaps-requires-clause-few
add_heaps-requires-clause-few c =
    let laid = c.self.invariant.0.laid in
    omega (
      arith,
      c.requires,
      laid.held_is,
      ap key_count c.self.view_is,
      count_is laid (c.self.inside.limit - c.self.inside.held),
      laid.many,
      laid.small,
      ap length c.in_ok-reserve_room.ensures.lists,
      c.self.inside.waiting.ok.0,
      c.self.inside.unused.ok.0,
      c.len.ensures,
      c.len-2.ensures,
      c.saturating_sub-more.ensures,
    )
