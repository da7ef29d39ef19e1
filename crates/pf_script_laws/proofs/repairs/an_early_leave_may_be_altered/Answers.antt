use Rattle.pf_script_laws.proofs.RepairsLemmas.Early.{early_leaves_may_be_altered}
use Rattle.pf_script_laws.proofs.repairs.an_early_leave_may_be_altered.Goals as goal

pub returns : goal.returns
returns c = early_leaves_may_be_altered c.next_leave_is_first.ensures
