use Rattle.pf_laws.proofs.ExamplesLemmas.Calendars.{worked_calendar}
use Rattle.pf_laws.proofs.examples.laws.worked_calendar_is_told.Goals as goal

pub returns : goal.returns
returns c = worked_calendar
