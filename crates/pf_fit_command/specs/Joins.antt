-- What all joins held ask for together.
use Rattle.std.specs.Prelude.{ℕ, Bool, true, false, if◌then◌else◌, Option, None, Some, sum_by}
use Rattle.std.specs.List.{list_any}
use Rattle.pf_weight.specs.Share.{share_of}
use Rattle.pf_scenario.specs.Scenario.{Plan}
use Rattle.pf_scenario.specs.declared.event.Event.{Event}
use Rattle.pf_scenario.specs.declared.event.Event.TheVariants.{Join}
use Rattle.pf_admit.specs.declared.denial.Denial.{Denial}
use Rattle.pf_admit.specs.declared.denial.Denial.TheVariants.{OverCapacity}
use Rattle.pf_desk.specs.Desk.{Seen}

-- the units that an event asks for, none where it is no join
abbrev pub join_units : ℕ → Event → ℕ
join_units base (Join slot task cost period early) = (share_of base cost period).units
join_units base event = 0

-- those of all events held
abbrev pub joins_units : Plan → ℕ
joins_units s = sum_by (λ x. join_units s.settings.base x.event) s.events

abbrev pub is_over_capacity : Denial → Bool
is_over_capacity OverCapacity = true
is_over_capacity denial = false

-- the same where one of what was seen is denied as it asks for more than the cap leaves
abbrev pub joins_asked : Seen → Option ℕ
joins_asked seen =
    if list_any (λ d. is_over_capacity d.denial) seen.denials then Some (joins_units seen.state.plan) else None
