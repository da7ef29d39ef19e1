-- Events, as C gets them.
use Rattle.pf_scenario.specs.declared.event.Event.{Event}
use Rattle.pf_scenario.specs.declared.event.Event.TheVariants.{Join, Leave, Delay, Limit}
use Rattle.pf_c_forms.specs.declared.raw_event.RawEvent.{RawEvent}
use Rattle.pf_c_forms.specs.declared.raw_event.TheConstants.{LIMIT, LEAVE, JOIN, DELAY}

-- what its kind does not have is 0
abbrev pub raw_event : Event → RawEvent
raw_event (Limit slot count) =
    record { kind = LIMIT; slot = slot; task = 0; cost = 0; period = 0; early = 0; by = 0; count = count }
raw_event (Leave slot task) =
    record { kind = LEAVE; slot = slot; task = task; cost = 0; period = 0; early = 0; by = 0; count = 0 }
raw_event (Join slot task cost period early) =
    record { kind = JOIN; slot = slot; task = task; cost = cost; period = period; early = early; by = 0; count = 0 }
raw_event (Delay slot task by) =
    record { kind = DELAY; slot = slot; task = task; cost = 0; period = 0; early = 0; by = by; count = 0 }
