-- The events of a scenario, inserted anew.
use Rattle.std.specs.Prelude.{⊤, ℕ, ◌≡◌, ◌+◌, None, List, [], ◌∷◌, length, map}
use Rattle.pf_scenario.specs.Scenario.{Plan, opening_plan, plan_after, with_number}
use Rattle.pf_scenario.specs.Edit.{IsScenario, edit_fault}
use Rattle.pf_scenario.specs.declared.event.Event.{Event}
use Rattle.pf_scenario.specs.declared.event.Numbered.{Numbered}
use Rattle.pf_scenario.specs.declared.change.Change.TheVariants.{Insert}

-- a scenario with these events inserted, one after another
abbrev pub inserted : Plan → List Event → Plan
inserted s [] = s
inserted s (x ∷ xs) = inserted (plan_after s (Insert x)) xs

-- none of these inserts is refused
abbrev pub AreTaken : Plan → List Event → Type 0
AreTaken s [] = ⊤
AreTaken s (x ∷ xs) = (edit_fault s (Insert x) ≡ None) × AreTaken (plan_after s (Insert x)) xs

-- the events held, without their numbers
abbrev pub events_held : List Numbered → List Event
events_held events = map (λ x. x.event) events

-- these events, numbered from n on
abbrev pub numbered_from : ℕ → List Event → List Numbered
numbered_from n [] = []
numbered_from n (x ∷ xs) = with_number n x ∷ numbered_from (n + 1) xs

-- a scenario with its events numbered from 1 on, in the same order
abbrev pub renumbered : Plan → Plan
renumbered s = record { settings = s.settings; events = numbered_from 1 (events_held s.events); next = 1 + length s.events }

-- the events of any scenario can be inserted anew, by number: none is refused, and the scenario is the same but for the
-- numbers
abbrev pub EventsAreTakenAgain : Type 0
EventsAreTakenAgain =
    (s : Plan) → IsScenario s
    → AreTaken (opening_plan s.settings) (events_held s.events) × (inserted (opening_plan s.settings) (events_held s.events) ≡ renumbered s)
