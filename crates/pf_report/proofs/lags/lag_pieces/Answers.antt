use Rattle.std.proofs.Common.{rules}
use Rattle.pf_report.specs.Tables.{lags_text}
use Rattle.pf_report.proofs.lags.lag_pieces.Goals as goal

pub returns : goal.returns
unfolding lags_text
returns c = search rules
