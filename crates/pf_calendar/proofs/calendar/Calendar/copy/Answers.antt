use Rattle.std.proofs.Common.{ℕ, ◌-◌, refl, sym, ap, ◌∙◌, subst, arith, length}
use Rattle.pf_calendar.specs.Queues.{Queues}
use Rattle.pf_collections.specs.Table.Grown.{Grown}
use Rattle.pf_heap.specs.Keys.{Heaps}
use Rattle.pf_calendar.specs.Invariant.{waiting_in, NotesSlots}
use Rattle.pf_calendar.proofs.Notes.{notes_same}
use Rattle.pf_calendar.proofs.Leaving.{copied, copied_seen}
use Rattle.pf_calendar.proofs.calendar.Calendar.copy.Goals as goal

pub returns : goal.returns
returns c =
    copied_seen c.self.inside.heaps c.in_ok-heaps.heaps c.self.inside.waiting.items c.reserve.new.self.items
    (c.self.inside.limit - c.self.inside.held) (c.self.inside.held - c.self.inside.held) c.in_ok-heaps.ensures
    (c.reserve.ensures.items ∙ c.in_ok-waiting.ensures.items ∙ c.deref.ensures.value) (omega arith)
    ∙ ap (λ (q : Queues). record q { spare = 0 }) c.self.view_is

pub invariant_of-result : goal.invariant_of-result
invariant_of-result c = (
  copied c.self.invariant.0 c.in_ok-heaps.heaps c.reserve.new.self.items c.reserve-2.new.self.items _ _ c.in_ok-heaps.ensures
      (c.reserve.ensures.items ∙ c.in_ok-waiting.ensures.items ∙ c.deref.ensures.value) (c.reserve-2.ensures.items ∙ c.in_ok-unused.ensures.items ∙ c.deref-2.ensures.value)
      (omega (
        arith,
        c.in_ok-reserve.ensures.ok,
        c.len.ensures,
        c.self.inside.unused.ok.0,
        c.in_ok-waiting.waiting.ok.0,
        ap length (c.in_ok-waiting.ensures.items ∙ c.deref.ensures.value),
      ))
      (omega (
        arith,
        c.in_ok-reserve-2.ensures.ok,
        c.len-2.ensures,
        c.self.inside.waiting.ok.0,
        c.in_ok-unused.unused.ok.0,
        ap length (c.in_ok-unused.ensures.items ∙ c.deref-2.ensures.value),
      )),
  subst (λ (g : Grown ℕ). NotesSlots g c.in_ok-heaps.heaps.tasks (waiting_in c.in_ok-heaps.heaps c.reserve.new.self.items)) (sym c.in_ok-slots.ensures)
      (notes_same
      (ap (λ (q : Queues). q.waiting) (copied_seen c.self.inside.heaps c.in_ok-heaps.heaps c.self.inside.waiting.items c.reserve.new.self.items 0 0 c.in_ok-heaps.ensures
      (c.reserve.ensures.items ∙ c.in_ok-waiting.ensures.items ∙ c.deref.ensures.value) refl))
      (ap (λ (h : Heaps). h.tasks) c.in_ok-heaps.ensures) c.self.invariant.1),
)
