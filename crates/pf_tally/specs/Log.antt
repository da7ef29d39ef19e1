-- What is known of the events that were in force in a run.
use Rattle.std.specs.Prelude.{◌≡◌, ℕ, ◌<◌, ◌≤◌, false, List, [], ◌∷◌, length, All, AllPairs}
use Rattle.pf_scenario.specs.System.{System, IsSystem}
use Rattle.pf_scenario.specs.Event.{slot_of}
use Rattle.pf_scenario.specs.Edit.{IsEvent, join_alike}
use Rattle.pf_scenario.specs.declared.event.Numbered.{Numbered}

-- events of slots from u on, in the order of their slots
abbrev pub RiseFrom : ℕ → List Numbered → Type 0
RiseFrom u [] = Unit {0}
RiseFrom u (x ∷ xs) = (u ≤ slot_of x.event) × RiseFrom (slot_of x.event) xs

-- these may be the events in force of a run over n slots: their slots rise and are below n, each is within its
-- limits, there are at most 65,535, and no task joins twice
pub record IsLog (system : System) (n : ℕ) (xs : List Numbered) : Type 0 where
  pub settings : IsSystem system
  pub within : n ≤ system.horizon
  pub rise : RiseFrom 0 xs
  pub limits : All (λ x. IsEvent system x.event) xs
  pub below : All (λ x. slot_of x.event < n) xs
  pub few : length xs ≤ 65535
  pub joins_once : AllPairs (λ x y. join_alike x.event y.event ≡ false) xs
