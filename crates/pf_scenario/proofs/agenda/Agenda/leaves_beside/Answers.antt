use Rattle.pf_scenario.specs.Scenario.{events_without}
use Rattle.std.proofs.Common.{refl, sym}
use Rattle.pf_scenario.proofs.Indexing.{leaves_beside, none_leaves, is_no_leave}
use Rattle.pf_scenario.proofs.agenda.Agenda.leaves_beside.Goals as goal

pub returns-in-Leave : goal.returns-in-Leave
returns-in-Leave c =
    let told = leaves_beside _ _ _ c.self.inside.leaves.items c.args.id c.in-Leave.slot c.in-Leave.task _ c.self.invariant refl in
    rw (c.notes_other.ensures, c.deref.ensures.value, c.in-Leave.is, ← c.self.view_is) (sym told)

pub returns-in-Join : goal.returns-in-Join
returns-in-Join c = sym (none_leaves c.args.event.now (events_without c.args.id c.args.self.now) (λ t. is_no_leave c.args.event.now t c.in-Join.is))
