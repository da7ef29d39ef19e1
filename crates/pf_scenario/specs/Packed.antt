-- Events in small numbers.
use Rattle.std.specs.Prelude.{Bool, ◌&&◌, ◌^◌, nat_lt}
use Rattle.pf_scenario.specs.declared.event.Event.{Event}
use Rattle.pf_scenario.specs.declared.event.Event.TheVariants.{Join, Leave, Delay, Limit}
use Rattle.pf_scenario.specs.declared.packed_event.PackedEvent.{PackedEvent}
use Rattle.pf_scenario.specs.declared.packed_event.PackedEvent.TheVariants as packed

-- the event that is packed so
abbrev pub unpacked : PackedEvent → Event
unpacked (packed.Join task slot cost period early) = Join slot task cost period early
unpacked (packed.Leave task slot) = Leave slot task
unpacked (packed.Delay task slot by) = Delay slot task by
unpacked (packed.Limit slot count) = Limit slot count

-- the numbers of the event are so small that it has a packed form: those of every event within its limits are
abbrev pub has_packed : Event → Bool
has_packed (Join slot task cost period early) =
    nat_lt task (2 ^ 16) && nat_lt slot (2 ^ 32) && nat_lt cost (2 ^ 32) && nat_lt period (2 ^ 32) && nat_lt early (2 ^ 32)
has_packed (Leave slot task) = nat_lt task (2 ^ 16) && nat_lt slot (2 ^ 32)
has_packed (Delay slot task by) = nat_lt task (2 ^ 16) && nat_lt slot (2 ^ 32) && nat_lt by (2 ^ 32)
has_packed (Limit slot count) = nat_lt slot (2 ^ 32) && nat_lt count (2 ^ 32)
