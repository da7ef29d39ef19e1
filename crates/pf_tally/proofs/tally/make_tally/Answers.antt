use Rattle.pf_tally.proofs.tally.make_tally.Goals as goal

pub lags-requires : goal.lags-requires
lags-requires c = record { scenario = c.args.scenario.now; rows = c.args.rows.now; denials = c.args.denials.now; is = c.in_ok-run.ensures }

pub misses-requires : goal.misses-requires
misses-requires c = record { scenario = c.args.scenario.now; rows = c.args.rows.now; denials = c.args.denials.now; is = c.in_ok-run.ensures }

pub returns-clause-lags : goal.returns-clause-lags
returns-clause-lags c = c.in_ok-lags.ensures _ _ _ c.in_ok-run.ensures

pub returns-clause-misses : goal.returns-clause-misses
returns-clause-misses c = c.in_ok-misses.ensures _ _ _ c.in_ok-run.ensures
