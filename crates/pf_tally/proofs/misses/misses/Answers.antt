use Rattle.pf_tally.proofs.misses.misses.Goals as goal

pub misses-requires : goal.misses-requires
misses-requires c = record { scenario = c.args.scenario.now; rows = c.args.rows.now; denials = c.args.denials.now; is = c.in_ok-run.ensures }

pub returns : goal.returns
returns c = c.misses.ensures _ _ _ c.in_ok-run.ensures
