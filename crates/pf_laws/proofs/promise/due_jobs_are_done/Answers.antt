use Rattle.pf_laws.proofs.PromiseLemmas.Responses as responses
use Rattle.pf_laws.proofs.promise.due_jobs_are_done.Goals as goal

pub returns : goal.returns
returns c = responses.due_jobs_are_done
