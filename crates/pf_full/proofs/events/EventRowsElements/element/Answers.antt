use Rattle.pf_full.specs.Full.{event_data}
use Rattle.pf_full.proofs.Plain.{event_plain, shown_plain}
use Rattle.pf_full.proofs.events.EventRowsElements.element.Goals as goal

pub returns-clause-plain : goal.returns-clause-plain
returns-clause-plain c = shown_plain event_data event_plain c.event_value.result c.get.result c.event_value.ensures
