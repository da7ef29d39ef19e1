use Rattle.std.proofs.Common.{rules}
use Rattle.pf_diff.specs.Diff.{diff_text_of}
use Rattle.pf_diff.proofs.diff.diff_pieces.Goals as goal

pub returns : goal.returns
unfolding diff_text_of
returns c = search rules
