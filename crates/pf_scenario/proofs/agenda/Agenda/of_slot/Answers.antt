use Rattle.std.proofs.Common.{◌≡◌, List, sym, arith, subst}
use Rattle.std.specs.Prelude.{IfOk}
use Rattle.pf_scenario.specs.declared.event.Numbered.{Numbered}
use Rattle.pf_scenario.proofs.Slots.{far_slot, between_next}
use Rattle.pf_scenario.proofs.agenda.Agenda.of_slot.Goals as goal

pub returns-then-t-ge-WIDE_HORIZON : goal.returns-then-t-ge-WIDE_HORIZON
returns-then-t-ge-WIDE_HORIZON c =
    rw (c.new.ensures.items, ← c.self.view_is) (sym (far_slot c.args.t c.self.inside.events (omega arith) c.self.invariant.placeable))

pub returns : goal.returns
returns c =
    let P : List Numbered → Type 0 = λ xs. IfOk c.of_slots.result (λ v. v.items ≡ xs) in
    subst P (between_next c.args.t c.args.self.now) c.of_slots.ensures.value
