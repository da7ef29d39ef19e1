use Rattle.std.proofs.Common.{◌≡◌, ◌<◌, ℕ, List, length, get_or, ap, sym, ◌∙◌, arith}
use Rattle.std.specs.List.Sorted.{IsNonDecreasingBy}
use Rattle.std.proofs.lemmas.List.{get_or_default}
use Rattle.pf_calendar.specs.declared.waiting_list.WaitingList.{WaitingList}
use Rattle.pf_calendar.specs.Steps.{SlotsRise, IsSlotPlace}
use Rattle.pf_calendar.proofs.Naming.{no_entry}
use Rattle.pf_calendar.proofs.names.place_near.Goals as goal

-- the place of an entry for the slot
place_of_entry : (es : List WaitingList) (slot at : ℕ) (e : WaitingList) → at < length es → (get_or es at e).slot ≡ slot →
    IsNonDecreasingBy (λ (x : WaitingList). x.slot) es → SlotsRise es → IsSlotPlace es slot at
place_of_entry es slot at e within is rise apart =
    let here : (d : WaitingList) → (get_or es at d).slot ≡ slot =
    λ d. ap (λ (x : WaitingList). x.slot) (get_or_default es at d no_entry within ∙ sym (get_or_default es at e no_entry within)) ∙ is in
    record {
      within = omega (arith, within);
      before = λ k d lt. omega (arith, apart k at d lt within, here d);
      after = λ k d le lt. omega (arith, rise at k d le lt, here d);
    }

pub returns-then-entries-at : goal.returns-then-entries-at
returns-then-entries-at c =
    place_of_entry c.args.entries.now c.args.slot _ _ (omega (arith, c.if-at-entries.true)) c.if-entries-at.true c.requires.rise c.requires.apart
