use Rattle.pf_script_laws.proofs.InertPagesLemmas.Pages.{pages_are_inert}
use Rattle.pf_script_laws.proofs.inert_pages.laws.pages_are_inert.Goals as goal

pub returns : goal.returns
returns c = pages_are_inert c.titles_are_told.ensures
