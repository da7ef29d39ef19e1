use Rattle.pf_laws.proofs.StaticSetsLemmas.Timely as timely
use Rattle.pf_laws.proofs.static_sets.each_subtask_runs_in_its_window.Goals as goal

pub returns : goal.returns
returns c = timely.each_runs_in_its_window
