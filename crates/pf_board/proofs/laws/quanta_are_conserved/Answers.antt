use Rattle.pf_board.proofs.Conserving.{quanta_conserved}
use Rattle.pf_board.proofs.laws.quanta_are_conserved.Goals as goal

pub returns : goal.returns
returns g c = quanta_conserved g.I.Issues.quanta g.I.Issues.steps (g.I.Issues.legal c.args.terms.now)
