use Rattle.pf_scenario.specs.Scenario.{events_without}
use Rattle.std.proofs.Common.{refl, sym}
use Rattle.pf_scenario.proofs.Indexing.{joins_beside, none_joins, is_no_join}
use Rattle.pf_scenario.proofs.agenda.Agenda.joins_beside.Goals as goal

pub returns-in-Join : goal.returns-in-Join
returns-in-Join c =
    let told = joins_beside _ _ c.self.inside.joins.items _ c.args.id c.in-Join.slot c.in-Join.task c.in-Join.cost c.in-Join.period c.in-Join.early _ c.self.invariant refl in
    rw (c.notes_other.ensures, c.deref.ensures.value, c.in-Join.is, ← c.self.view_is) (sym told)

pub returns-in-Leave : goal.returns-in-Leave
returns-in-Leave c = sym (none_joins c.args.event.now (events_without c.args.id c.args.self.now) (λ t. is_no_join c.args.event.now t c.in-Leave.is))
