use Rattle.pf_tally.proofs.Ranges.{stops_apart}
use Rattle.pf_tally.proofs.clock.lag_after.Goals as goal

pub clock_at-requires-clause-apart : goal.clock_at-requires-clause-apart
clock_at-requires-clause-apart c = stops_apart c.args.task c.args.delays.now c.requires.share c.requires.chain c.args.t c.requires.joined
