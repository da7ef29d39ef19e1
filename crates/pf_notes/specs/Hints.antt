-- What would be right in place of a change that was refused, or of an event that was denied; nothing where nothing can be said.
use Rattle.std.specs.Prelude.{ℕ, ◌==◌, if◌then◌else◌, List, [], ◌++◌, codes}
use Rattle.std.specs.Option.{option_map_or}
use Rattle.std.specs.Fmt.{decimal}
use Rattle.pf_weight.specs.declared.fault.WeightFault.TheVariants.{PeriodNotInBase}
use Rattle.pf_scenario.specs.Scenario.{Plan}
use Rattle.pf_scenario.specs.declared.change.Change.{Change}
use Rattle.pf_scenario.specs.declared.event.Event.{Event}
use Rattle.pf_scenario.specs.declared.event.Event.TheVariants.{Join}
use Rattle.pf_scenario.specs.declared.fault.EditFault.{EditFault}
use Rattle.pf_scenario.specs.declared.fault.EditFault.TheVariants.{BadWeight, JoinTwice, LeaveTwice}
use Rattle.pf_desk.specs.declared.reply.Fault.{Fault}
use Rattle.pf_desk.specs.declared.reply.Fault.TheVariants.{BadEdit}
use Rattle.pf_notes.specs.Periods.{period_hint}
use Rattle.pf_notes.specs.Refusal.{brought_by, other_of}
use Rattle.pf_notes.specs.declared.grounds.Grounds.{Grounds}
use Rattle.pf_notes.specs.declared.grounds.Grounds.TheVariants.{OverCapacity}

-- another event that a change may make of its task, with these words
abbrev pub change_hint : List ℕ → ℕ → List ℕ
change_hint words id = codes "alter," ++ decimal id ++ words

-- an event with a period that does not divide the base
abbrev pub weight_hint : ℕ → Event → List ℕ
weight_hint base (Join slot task cost period early) = period_hint base period
weight_hint base event = []

-- a change that brings this event and has this fault
abbrev pub event_hint : Plan → Change → Event → EditFault → List ℕ
event_hint s change event JoinTwice = option_map_or (change_hint (codes ",join,.. changes that join")) (other_of s change event) []
event_hint s change event LeaveTwice = option_map_or (change_hint (codes ",leave,.. changes that leave")) (other_of s change event) []
event_hint s change event (BadWeight PeriodNotInBase) = weight_hint s.settings.base event
event_hint s change event fault = []

-- a change that the scenario s refused
abbrev pub refusal_hint : Plan → Change → Fault → List ℕ
refusal_hint s change (BadEdit fault) = option_map_or (λ event. event_hint s change event fault) (brought_by change) []
refusal_hint s change fault = []

-- a denial that rests on these grounds
abbrev pub grounds_hint : Grounds → List ℕ
grounds_hint (OverCapacity asked free base cost) =
    if cost == 0 then [] else codes "a cost of " ++ decimal cost ++ codes " would be let in"
grounds_hint grounds = []
