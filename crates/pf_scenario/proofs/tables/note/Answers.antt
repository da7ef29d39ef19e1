use Rattle.std.proofs.Common.{refl, ap, ◌∙◌, arith}
use Rattle.std.proofs.lemmas.Bool.{eq-eqb}
use Rattle.pf_scenario.specs.Event.{is_join_of, is_leave_of}
use Rattle.pf_scenario.proofs.tables.note.Goals as goal

pub index_mut-requires : goal.index_mut-requires
index_mut-requires c =
    let here = c.requires.join_place c.in-Join.task (ap (is_join_of c.in-Join.task) c.in-Join.is ∙ eq-eqb c.in-Join.task c.in-Join.task refl) in
    omega (arith, c.args.joins.now.ok.0)

pub index_mut-requires-in-Leave : goal.index_mut-requires-in-Leave
index_mut-requires-in-Leave c =
    let here = c.requires.leave_place c.in-Leave.task (ap (is_leave_of c.in-Leave.task) c.in-Leave.is ∙ eq-eqb c.in-Leave.task c.in-Leave.task refl) in
    omega (arith, c.args.leaves.now.ok.0)
