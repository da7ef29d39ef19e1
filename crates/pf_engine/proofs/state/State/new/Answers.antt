use Rattle.std.proofs.Common.{rules}
use Rattle.pf_engine.proofs.Agendas.{agenda_none}
use Rattle.pf_engine.proofs.state.State.new.Goals as goal

pub invariant_of-result : goal.invariant_of-result
invariant_of-result c = record {
  engine = search rules;
  agenda = agenda_none c.in_ok-new.field-0 0 c.new.result.tasks c.in_ok-new.ensures c.new.ensures;
}
