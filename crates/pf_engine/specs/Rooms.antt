-- The memory of a slot.
use Rattle.std.specs.Prelude.{◌≡◌, ℕ, ◌≤◌, List, [], length, vec_capacity}
use Rattle.pf_scenario.specs.declared.event.Numbered.{Numbered}
use Rattle.pf_engine.specs.declared.room.Room.{Room}
use Rattle.pf_engine.specs.Keeping.{Keeping, HasRoomFor}

-- empty lists with room for this many denials and picks
pub record HasSlotRoom (denials picks : ℕ) (room : Room) : Type 0 where
  pub no_denials : room.denials.items ≡ []
  pub no_picks : room.picks.items ≡ []
  pub denials_fit : denials ≤ vec_capacity room.denials
  pub picks_fit : picks ≤ vec_capacity room.picks

-- all memory that a slot of these events takes is there
pub record IsReadyFor (s : Keeping) (events : List Numbered) (room : Room) : Type 0 where
  pub tasks : HasRoomFor s events
  pub slot : HasSlotRoom (length events) s.kept.settings.processors room
