use Rattle.pf_code.proofs.Differing.{symbols_differ}
use Rattle.pf_code.proofs.laws.symbols_differ.Goals as goal

pub returns : goal.returns
returns c = symbols_differ
