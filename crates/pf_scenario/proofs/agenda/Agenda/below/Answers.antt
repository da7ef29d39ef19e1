use Rattle.std.proofs.Common.{◌≡◌, List, subst}
use Rattle.std.specs.Prelude.{IfOk}
use Rattle.pf_scenario.specs.declared.event.Numbered.{Numbered}
use Rattle.pf_scenario.proofs.Slots.{all_before}
use Rattle.pf_scenario.proofs.agenda.Agenda.below.Goals as goal

pub returns : goal.returns
returns c =
    let P : List Numbered → Type 0 = λ xs. IfOk c.of_slots.result (λ v. v.items ≡ xs) in
    subst P (all_before c.args.t _ c.args.self.now c.min.ensures c.of_slots.ensures.near) c.of_slots.ensures.value
