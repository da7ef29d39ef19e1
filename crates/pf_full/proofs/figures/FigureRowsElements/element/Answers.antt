use Rattle.pf_full.specs.Full.{figures_data}
use Rattle.pf_full.proofs.Plain.{figures_plain, shown_plain}
use Rattle.pf_full.proofs.figures.FigureRowsElements.element.Goals as goal

pub returns-clause-plain : goal.returns-clause-plain
returns-clause-plain c = shown_plain figures_data figures_plain c.figures_value.result c.get.result c.figures_value.ensures
