use Rattle.std.proofs.Common.{rules}
use Rattle.pf_jobs.specs.Load.{load_text}
use Rattle.pf_jobs.proofs.load.load_pieces.Goals as goal

pub returns : goal.returns
unfolding load_text
returns c = search rules
