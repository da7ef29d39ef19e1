-- Scenarios in which tasks only join, and what they ask for.
use Rattle.std.specs.Prelude.{⊤, ◌≡◌, ◌↔◌, ℕ, ◌*◌, ◌<◌, ◌≤◌, List, [], All, sum_by}
use Rattle.pf_weight.specs.Share.{share_of}
use Rattle.pf_scenario.specs.Event.{slot_of}
use Rattle.pf_scenario.specs.Scenario.{Plan}
use Rattle.pf_scenario.specs.Edit.{IsScenario}
use Rattle.pf_scenario.specs.declared.event.Event.{Event}
use Rattle.pf_scenario.specs.declared.event.Event.TheVariants.{Join, Leave, Delay, Limit}
use Rattle.pf_scenario.specs.declared.event.Numbered.{Numbered}
use Rattle.pf_run.specs.Computed.{run_of}
use Rattle.pf_run.specs.RunRows.{denials_in}
use Rattle.pf_laws.specs.Promise.Laws.{IsWithinRoom}

-- a task joins
abbrev pub IsJoin : Event → Type 0
IsJoin (Join slot task cost period early) = ⊤
IsJoin (Leave slot task) = ⊥
IsJoin (Delay slot task by) = ⊥
IsJoin (Limit slot count) = ⊥

-- the units that a join asks for
abbrev pub units_asked : ℕ → Event → ℕ
units_asked base (Join slot task cost period early) = (share_of base cost period).units
units_asked base event = 0

-- and some together
abbrev pub units_of : ℕ → List Numbered → ℕ
units_of base xs = sum_by (λ x. units_asked base x.event) xs

-- in the scenario tasks only join, each in a slot below n
pub record HasJoinsAlone (s : Plan) (n : ℕ) : Type 0 where
  pub scenario : IsScenario s
  pub joins : All (λ x. IsJoin x.event) s.events
  pub reached : All (λ x. slot_of x.event < n) s.events

-- none is denied just where they ask together for no more than the cap
abbrev pub JoinsAreLetIn : Type 0
JoinsAreLetIn = (s : Plan) (n : ℕ) → HasJoinsAlone s n → (denials_in s n ≡ []) ↔ (units_of s.settings.base s.events ≤ s.settings.cap)

-- and then no slot is asked for more than its processors in use, where the processors carry the cap
abbrev pub JoinsStayWithinRoom : Type 0
JoinsStayWithinRoom =
    (s : Plan) (n : ℕ) → HasJoinsAlone s n → units_of s.settings.base s.events ≤ s.settings.cap → s.settings.cap ≤ s.settings.base * s.settings.processors
    → IsWithinRoom s (run_of s n)
