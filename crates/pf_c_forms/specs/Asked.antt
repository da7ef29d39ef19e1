-- What C's numbers ask for.
use Rattle.std.specs.Prelude.{◌==◌, if◌then◌else◌, Option, None, Some}
use Rattle.std.specs.Option.{option_map}
use Rattle.pf_scenario.specs.declared.change.Change.{Change}
use Rattle.pf_scenario.specs.declared.change.Change.TheVariants.{Insert, Alter, Strike}
use Rattle.pf_scenario.specs.declared.event.Event.{Event}
use Rattle.pf_scenario.specs.declared.event.Event.TheVariants.{Join, Leave, Delay, Limit}
use Rattle.pf_c_forms.specs.declared.raw_event.RawEvent.{RawEvent}
use Rattle.pf_c_forms.specs.declared.raw_event.TheConstants.{LIMIT, LEAVE, JOIN, DELAY}
use Rattle.pf_c_forms.specs.declared.raw_change.RawChange.{RawChange}
use Rattle.pf_c_forms.specs.declared.raw_change.TheConstants.{INSERT, ALTER, STRIKE}

-- the event that is meant, where its kind is known
abbrev pub event_in : RawEvent → Option Event
event_in r =
    if r.kind == LIMIT then Some (Limit r.slot r.count) else
    if r.kind == LEAVE then Some (Leave r.slot r.task) else
    if r.kind == JOIN then Some (Join r.slot r.task r.cost r.period r.early) else
    if r.kind == DELAY then Some (Delay r.slot r.task r.by) else None

-- the change that is meant, where its kind and that of its event are known
abbrev pub change_in : RawChange → Option Change
change_in r =
    if r.kind == INSERT then option_map Insert (event_in r.event) else
    if r.kind == ALTER then option_map (Alter r.id) (event_in r.event) else
    if r.kind == STRIKE then Some (Strike r.id) else None
