-- How long a switch may take.
use Rattle.std.specs.Prelude.{ℕ, ◌-◌, ◌<◌, ◌≤◌, List, map}
use Rattle.std.specs.List.{zip}
use Rattle.std.specs.Int.{div_ceil}
use Rattle.pf_convert.specs.declared.plan.Plan.{Plan}
use Rattle.pf_convert.specs.declared.slotted.Slotted.{Slotted}
use Rattle.pf_convert.specs.declared.timed.Timed.{Timed}
use Rattle.pf_convert.specs.Margins.Fitting.{FitOver}
use Rattle.pf_convert.specs.Margins.Works.{with_cost}

-- the tasks with the costs of their work where a quantum leaves so much for it
abbrev pub with_costs : ℕ → List Timed → List Slotted → List Slotted
with_costs part times tasks = map (λ (p : Timed × Slotted). with_cost p.1 (div_ceil p.0.work part)) (zip times tasks)

-- there is room for switches that take so much of each quantum, where the tasks have these times
pub record HasRoomForSwitch (processors quantum : ℕ) (times : List Timed) (plan : Plan) (switch : ℕ) : Type 0 where
  pub within : switch < quantum
  pub fit : FitOver processors plan.base (with_costs (quantum - switch) times plan.tasks.items)

-- there is room for this switch, and for none longer
pub record IsMostSwitch (processors quantum : ℕ) (times : List Timed) (plan : Plan) (switch : ℕ) : Type 0 where
  pub room : HasRoomForSwitch processors quantum times plan switch
  pub most : (c : ℕ) → HasRoomForSwitch processors quantum times plan c → c ≤ switch

-- there is room for no switch, and for none that takes no time
abbrev pub HasNoSwitch : ℕ → ℕ → List Timed → Plan → Type 0
HasNoSwitch processors quantum times plan = (c : ℕ) → HasRoomForSwitch processors quantum times plan c → ⊥
