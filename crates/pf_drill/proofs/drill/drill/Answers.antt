use Rattle.pf_drill.specs.Gates.{SomeArrived}
use Rattle.pf_drill.proofs.Ends.{stops_unwritten}
use Rattle.pf_drill.proofs.drill.drill.Goals as goal

pub returns-in-Err-clause-unwritten : goal.returns-in-Err-clause-unwritten
returns-in-Err-clause-unwritten g c = stops_unwritten (SomeArrived (g.G.Gate.shuts_out c.args.gate.now)) _ c.in-Err.fault c.in-Err.ensures.stopped
