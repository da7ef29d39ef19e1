use Rattle.std.proofs.Common.{rules}
use Rattle.pf_report.specs.Tables.{denials_text}
use Rattle.pf_report.proofs.denials.denial_pieces.Goals as goal

pub returns : goal.returns
unfolding denials_text
returns c = search rules
