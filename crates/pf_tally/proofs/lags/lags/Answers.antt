use Rattle.pf_tally.proofs.lags.lags.Goals as goal

pub lags-requires : goal.lags-requires
lags-requires c = record { scenario = c.args.scenario.now; rows = c.args.rows.now; denials = c.args.denials.now; is = c.in_ok-run.ensures }

pub returns : goal.returns
returns c = c.lags.ensures _ _ _ c.in_ok-run.ensures
