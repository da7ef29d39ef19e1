use Rattle.std.proofs.Common.{rules}
use Rattle.csv.specs.Writing.{fields_text, is_blank}
use Rattle.pf_jobs.specs.Jobs.{jobs_text}
use Rattle.pf_jobs.proofs.jobs.job_pieces.Goals as goal

pub returns : goal.returns
unfolding jobs_text fields_text is_blank
returns c = search rules
