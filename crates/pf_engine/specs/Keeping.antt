-- What an engine's state is seen as, what a slot and an event ask of it, and what they make of it.
use Rattle.std.specs.Prelude.{◌≡◌, ℕ, ◌+◌, ◌≤◌, Option, List, length}
use Rattle.pf_scenario.specs.declared.event.Event.{Event}
use Rattle.pf_scenario.specs.declared.event.Event.TheVariants.{Join, Leave, Delay, Limit}
use Rattle.pf_scenario.specs.declared.event.Numbered.{Numbered}
use Rattle.pf_admit.specs.declared.denial.Denial.{Denial}
use Rattle.pf_engine.specs.Fits.{Kept}
use Rattle.pf_engine.specs.Kept.{denial_at, kept_after_event}
use Rattle.pf_engine.specs.Roll.{JoinsBelow, AllJoinBelow}
use Rattle.pf_engine.specs.Taking.{CanTakeEvent}

-- what an engine keeps, for how many tasks more there is room, and below what their numbers must be
pub record Keeping : Type 0 where
  pub kept : Kept
  pub spare : ℕ
  pub numbers : ℕ

-- how many tasks an event brings
abbrev pub join_count : Event → ℕ
join_count (Join slot task cost period early) = 1
join_count (Leave slot task) = 0
join_count (Delay slot task by) = 0
join_count (Limit slot count) = 0

-- the event can be taken, and there is room for the task that it brings
pub record CanTakeNext (s : Keeping) (event : Event) : Type 0 where
  pub can : CanTakeEvent s.kept event
  pub room : join_count event ≤ s.spare
  pub number : JoinsBelow s.numbers event

-- the event was taken, or denied as its rule says, and no room is gone but that of the task that it brought
pub record TakesEvent (s : Keeping) (event : Event) (verdict : Option Denial) (s' : Keeping) : Type 0 where
  pub denial : verdict ≡ denial_at s.kept event
  pub kept : s'.kept ≡ kept_after_event s.kept event
  pub spare : s.spare ≤ s'.spare + join_count event
  pub numbers : s'.numbers ≡ s.numbers

-- there is room for as many tasks as these events can bring
pub record HasRoomFor (s : Keeping) (events : List Numbered) : Type 0 where
  pub spare : length events ≤ s.spare
  pub numbers : AllJoinBelow s.numbers events
