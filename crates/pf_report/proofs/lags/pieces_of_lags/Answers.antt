use Rattle.std.proofs.Common.{rules}
use Rattle.csv.specs.Writing.{fields_text, is_blank}
use Rattle.pf_report.proofs.lags.pieces_of_lags.Goals as goal

pub returns : goal.returns
unfolding fields_text is_blank
returns c = search rules
