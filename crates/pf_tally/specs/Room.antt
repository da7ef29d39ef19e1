-- Scenarios whose settings are enough: the processors in use carry whatever is planned.
use Rattle.std.specs.Prelude.{◌≡◌, ℕ, ◌*◌, ◌≤◌, List, [], All}
use Rattle.pf_scenario.specs.System.{System}
use Rattle.pf_scenario.specs.Scenario.{Plan}
use Rattle.pf_scenario.specs.declared.event.Event.{Event}
use Rattle.pf_scenario.specs.declared.event.Event.TheVariants.{Limit}
use Rattle.pf_run.specs.Record.{Slot}
use Rattle.pf_run.specs.Run.{IsRun}
use Rattle.pf_tally.specs.Misses.{misses_of}

-- where an event is a limit, the processors that it leaves in use carry the cap
abbrev pub LeavesRoom : System → Event → Type 0
LeavesRoom settings (Limit slot count) = settings.cap ≤ settings.base * count
LeavesRoom settings event = Unit {0}

-- the processors carry the cap, with each limit that is held
pub record CarriesCap (s : Plan) : Type 0 where
  pub carries : s.settings.cap ≤ s.settings.base * s.settings.processors
  pub leaves : All (λ x. LeavesRoom s.settings x.event) s.events

-- no run of the scenario, over any number of slots, misses a window
abbrev pub MissesNone : Plan → Type 0
MissesNone s = (n : ℕ) (r : List Slot) → IsRun s n r → misses_of s r ≡ []
