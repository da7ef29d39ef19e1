use Rattle.std.proofs.Common.{rules}
use Rattle.pf_report.specs.Tables.{misses_text}
use Rattle.pf_report.proofs.misses.miss_pieces.Goals as goal

pub returns : goal.returns
unfolding misses_text
returns c = search rules
