-- An engine's state, as what it is seen as, and what always holds of it.
use Rattle.std.specs.Prelude.{[], min}
use Rattle.pf_engine.specs.declared.state.State.TheInside.{Inside}
use Rattle.pf_engine.specs.Fits.{Kept}
use Rattle.pf_engine.specs.Engines.{IsEngine}
use Rattle.pf_engine.specs.Agenda.{IsAgenda}
use Rattle.pf_engine.specs.Keeping.{Keeping}

abbrev pub kept_of : Inside → Kept
kept_of s = record { settings = s.settings; now = s.slots; tasks = s.tasks.tasks; load = s.load; count = s.count }

-- room for a task is room in its roster and for its key
abbrev pub keeping_of : Inside → Keeping
keeping_of s = record { kept = kept_of s; spare = min s.tasks.spare s.calendar.spare; numbers = min s.tasks.numbers s.calendar.tasks }

-- what it keeps is an engine's, and its calendar has the next keys of the tasks inside
pub record IsSound (s : Inside) : Type 0 where
  pub engine : IsEngine (kept_of s)
  pub agenda : IsAgenda s.calendar s.slots s.tasks.tasks []
