use Rattle.std.proofs.Common.{subst}
use Rattle.pf_scenario.specs.Edit.{IsEvent}
use Rattle.pf_scenario.specs.declared.event.Event.{Event}
use Rattle.pf_scenario.specs.declared.event.Event.TheVariants.{Join}
use Rattle.pf_fit_command.proofs.Asked.{period_some}
use Rattle.pf_fit_command.proofs.joins.join_units.Goals as goal

pub units_of-requires : goal.units_of-requires
units_of-requires c =
    let join : Event = Join c.in-Join.slot c.in-Join.task c.in-Join.cost c.in-Join.period c.in-Join.early in
    let is : IsEvent c.args.settings join = subst (λ (e : Event). IsEvent c.args.settings e) c.in-Join.is c.requires in
    period_some c.args.settings c.in-Join.slot c.in-Join.task c.in-Join.cost c.in-Join.period c.in-Join.early is
