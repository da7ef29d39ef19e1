use Rattle.std.proofs.Common.{◌≡◌, ℕ, ◌<◌, inl, inr, List, length, refl, sym, ap, ◌∙◌, subst, arith}
use Rattle.std.proofs.lemmas.List.{get_or_read}
use Rattle.pf_calendar.specs.declared.waiting_list.WaitingList.{WaitingList}
use Rattle.std.specs.List.Sorted.{IsNonDecreasingBy}
use Rattle.pf_calendar.specs.Steps.{SlotsRise, IsSlotPlace, HasEntry}
use Rattle.pf_calendar.proofs.names.open.Goals as goal
use Rattle.pf_calendar.proofs.names.open.Goals.{else-at-len-via-then-at-len+else-index-slot, else-at-len-via-else-at-len}

-- the place that was found, in the Vec
place : (es lent : List WaitingList) (slot at : ℕ) → lent ≡ es → IsSlotPlace lent slot at → IsSlotPlace es slot at
place es lent slot at value p = subst (λ l. IsSlotPlace l slot at) value p

pub place_near-at-requires-clause-rise : goal.place_near-at-requires-clause-rise
place_near-at-requires-clause-rise c = subst (λ l. IsNonDecreasingBy (λ (e : WaitingList). e.slot) l) (sym c.deref.ensures.value) c.requires.rise

pub place_near-at-requires-clause-apart : goal.place_near-at-requires-clause-apart
place_near-at-requires-clause-apart c = subst (λ l. SlotsRise l) (sym c.deref.ensures.value) c.requires.apart

pub returns-then-index-slot-clause-opened : goal.returns-then-index-slot-clause-opened
returns-then-index-slot-clause-opened c =
    let es = c.args.entries.now.items in
    let at = c.place_near-at.result in
    let within : at < length es = omega (arith, c.if-at-len.true, c.len.ensures, c.args.entries.now.ok.0) in
    let here : HasEntry es c.args.slot at = (within, λ d. ap (λ (e : WaitingList). e.slot) (sym (get_or_read es at c.index.result.now within c.index.ensures d)) ∙ c.if-index-slot.true) in
    record { place = place es _ c.args.slot at c.deref.ensures.value c.place_near-at.ensures; ways = inl (here, refl, refl) }

pub returns-clause-opened : goal.returns-clause-opened
returns-clause-opened c =
    let es = c.args.entries.now.items in
    let at = c.place_near-at.result in
    let none : ¬ (HasEntry es c.args.slot at) = λ here.
    elim c.else-at-len.branch [
      | else-at-len-via-then-at-len+else-index-slot w ↦
          w.if-index-slot.false (ap (λ (e : WaitingList). e.slot) (get_or_read es at w.index.result.now here.0 w.index.ensures w.index.result.now) ∙ here.1 w.index.result.now)
      | else-at-len-via-else-at-len w ↦ absurd (omega (arith, here.0, w.if-at-len.false, c.len.ensures, c.args.entries.now.ok.0))
    ] in
    record {
      place = place es _ c.args.slot at c.deref.ensures.value c.place_near-at.ensures;
      ways = inr (c.in-Some.heap, none, c.in-Some.ensures.items, c.in-Ok.ensures.items);
    }
