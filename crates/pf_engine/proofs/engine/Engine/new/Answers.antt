use Rattle.std.proofs.Common.{[], sym, ap, ◌∙◌}
use Rattle.pf_scenario.specs.System.{System}
use Rattle.pf_run.specs.Record.{in_force}
use Rattle.pf_engine.specs.Fits.{kept_after}
use Rattle.pf_run.proofs.Judged.{run_none}
use Rattle.pf_engine.proofs.engine.Engine.new.Goals as goal

pub returns-clause-fits : goal.returns-clause-fits
unfolding in_force
returns-clause-fits c = λ s same. record {
  is_run = run_none s;
  keeps = c.in_ok-new.ensures ∙ ap (λ (t : System). kept_after t [] []) (sym same);
}
