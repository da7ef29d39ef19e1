use Rattle.pf_drill.proofs.Gated.{arrived, arrived_not}
use Rattle.pf_drill.proofs.worker.Worker.work.Goals as goal
use Rattle.pf_drill.proofs.worker.Worker.work.Goals.{in-Some, in-None}

pub returns-clause-arrives : goal.returns-clause-arrives
returns-clause-arrives g c = elim c.match-self.branch [
  | in-Some w ↦ arrived (g.G.Gate.lets_in c.args.gate.now) (g.G.Gate.shuts_out c.args.gate.now) c.args.self.now.pass c.take_quantum-self.new.pass c.take_quantum-self.result
      c.args.self.now.is_shut c.match-self.self w.arrive.result w.in-Some.quantum w.in-Some.is c.take_quantum-self.ensures.some w.self-is w.arrive.ensures.let_in w.arrive.ensures.shut_out
  | in-None w ↦ arrived_not (g.G.Gate.lets_in c.args.gate.now) (g.G.Gate.shuts_out c.args.gate.now) c.take_quantum-self.new.pass c.take_quantum-self.result c.match-self.self
      w.in-None.is w.self-is
]
