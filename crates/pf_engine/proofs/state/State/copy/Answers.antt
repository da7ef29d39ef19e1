use Rattle.std.proofs.Common.{refl, arith}
use Rattle.pf_engine.proofs.Agendas.{agenda_seen}
use Rattle.pf_engine.proofs.state.State.copy.Goals as goal

pub invariant_of-result : goal.invariant_of-result
invariant_of-result c = record {
  engine = rw c.in_ok-copy.ensures c.self.invariant.engine;
  agenda = rw (c.in_ok-copy.ensures, c.in_ok-copy-2.ensures) (agenda_seen refl refl (omega arith) c.self.invariant.agenda);
}
