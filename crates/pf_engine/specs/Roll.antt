-- What a roster is seen as.
use Rattle.std.specs.Prelude.{◌≡◌, ℕ, ◌<◌, true, List, All}
use Rattle.pf_scenario.specs.Event.{is_join_of}
use Rattle.pf_scenario.specs.declared.event.Event.{Event}
use Rattle.pf_scenario.specs.declared.event.Numbered.{Numbered}
use Rattle.pf_engine.specs.Fits.{KeptTask}

-- the tasks inside, in the order of their joins, how many more there is room for, and below what their numbers must be
pub record Roll : Type 0 where
  pub tasks : List KeptTask
  pub spare : ℕ
  pub numbers : ℕ

-- a task that the event joins is of a number below this
abbrev pub JoinsBelow : ℕ → Event → Type 0
JoinsBelow numbers event = (task : ℕ) → is_join_of task event ≡ true → task < numbers

-- each of these events joins a task of a number below this, or none
abbrev pub AllJoinBelow : ℕ → List Numbered → Type 0
AllJoinBelow numbers events = All (λ x. JoinsBelow numbers x.event) events
