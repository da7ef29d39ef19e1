use Rattle.pf_laws.proofs.PromiseLemmas.Responses as responses
use Rattle.pf_laws.proofs.promise.jobs_are_in_time.Goals as goal

pub returns : goal.returns
returns c = responses.jobs_are_in_time
