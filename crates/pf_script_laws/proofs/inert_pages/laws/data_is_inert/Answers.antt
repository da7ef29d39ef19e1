use Rattle.pf_script_laws.proofs.InertPagesLemmas.Whole.{data_is_inert}
use Rattle.pf_script_laws.proofs.inert_pages.laws.data_is_inert.Goals as goal

pub returns : goal.returns
returns c = data_is_inert
