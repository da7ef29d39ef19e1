-- Whether the processors in use carry the cap, whatever joins.
use Rattle.std.specs.Prelude.{◌*◌, Bool, true, ◌&&◌, nat_le}
use Rattle.std.specs.List.{list_all}
use Rattle.pf_scenario.specs.System.{System}
use Rattle.pf_scenario.specs.Scenario.{Plan}
use Rattle.pf_scenario.specs.declared.event.Event.{Event}
use Rattle.pf_scenario.specs.declared.event.Event.TheVariants.{Limit}

-- where an event is a limit, the processors that it leaves in use do
abbrev pub carries_with : System → Event → Bool
carries_with settings (Limit slot count) = nat_le settings.cap (settings.base * count)
carries_with settings event = true

-- all processors do, and those that each limit leaves
abbrev pub carries_cap : Plan → Bool
carries_cap s =
    nat_le s.settings.cap (s.settings.base * s.settings.processors) && list_all (λ x. carries_with s.settings x.event) s.events
