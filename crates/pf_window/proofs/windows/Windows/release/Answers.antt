use Rattle.std.proofs.Common.{◌-◌, sym, arith}
use Rattle.pf_window.specs.Window.{release_of}
use Rattle.pf_window.proofs.Advancing.{quotient_small}
use Rattle.pf_window.proofs.windows.Windows.release.Goals as goal

pub returns-clause-value : goal.returns-clause-value
unfolding release_of
returns-clause-value c = rw (← c.self.view_is) (sym c.self.invariant.released)

pub returns-clause-bound : goal.returns-clause-bound
returns-clause-bound c =
    omega (arith, quotient_small c.self.inside.weight (c.self.inside.sub - 1) c.self.invariant.share (omega (arith, c.self.invariant.last)), c.self.invariant.released)
