-- How tight the slots of a run are. The free units of a slot are its room less its load, and may be below 0.
use Rattle.std.specs.Prelude.{◌≡◌, ℕ, zero, suc, ◌+◌, ◌-◌, ◌<◌, ◌≤◌, Bool, nat_lt, if◌then◌else◌, Option, None, Some, List}
use Rattle.pf_scenario.specs.Scenario.{Plan}
use Rattle.pf_run.specs.Record.{Slot}
use Rattle.pf_tally.specs.Load.{load_in, room_in}
use Rattle.pf_tally.specs.declared.level.Level.{Level}
use Rattle.pf_tally.specs.Fit.{or_slot}
use Rattle.pf_tally.specs.Levels.{level_in}
use Rattle.pf_verdict.specs.declared.strain.Strain.{Strain}
use Rattle.pf_verdict.specs.declared.stretch.Stretch.{Stretch}

-- b has fewer free units than a
abbrev pub has_fewer_free : Level → Level → Bool
has_fewer_free a b = nat_lt (b.room + a.load) (a.room + b.load)

-- the tighter one of both, the first where they are equal
abbrev pub tighter : Option Level → Level → Option Level
tighter None b = Some b
tighter (Some a) b = Some (if has_fewer_free a b then b else a)

-- the slot with the least free units of those below t, the first of several
unfoldable pub tightest_of : Plan → List Slot → ℕ → Option Level
tightest_of s r zero = None
tightest_of s r (suc t) = tighter (tightest_of s r t) (level_in s r t)

abbrev pub is_above : Plan → List Slot → ℕ → Bool
is_above s r t = nat_lt (room_in s r t) (load_in s r t)

-- the first of the slots below t whose load is above its room, and how many there are
unfoldable pub first_above : Plan → List Slot → ℕ → Option ℕ
first_above s r zero = None
first_above s r (suc t) = if is_above s r t then or_slot (first_above s r t) t else first_above s r t

unfoldable pub above_of : Plan → List Slot → ℕ → ℕ
above_of s r zero = 0
above_of s r (suc t) = above_of s r t + (if is_above s r t then 1 else 0)

abbrev pub strain_of : Plan → List Slot → ℕ → Strain
strain_of s r t = record { tightest = tightest_of s r t; first = first_above s r t; above = above_of s r t }

-- with the slots of a stretch more
abbrev pub strain_with : Strain → Stretch → Strain
strain_with strain x = record {
  tightest = tighter strain.tightest (record { slot = x.from; load = x.load; room = x.room });
  first = if nat_lt x.room x.load then or_slot strain.first x.from else strain.first;
  above = if nat_lt x.room x.load then strain.above + (x.to - x.from) else strain.above;
}

-- a slot of those below n, none of which has fewer free units, and each one before it has more
pub record IsTightest (s : Plan) (r : List Slot) (n : ℕ) (level : Level) : Type 0 where
  pub below : level.slot < n
  pub is : level ≡ level_in s r level.slot
  pub least : (t : ℕ) → t < n → level.room + load_in s r t ≤ room_in s r t + level.load
  pub first : (t : ℕ) → t < level.slot → level.room + load_in s r t < room_in s r t + level.load

abbrev pub IsTightestOrNone : Plan → List Slot → ℕ → Option Level → Type 0
IsTightestOrNone s r n None = n ≡ 0
IsTightestOrNone s r n (Some level) = IsTightest s r n level

-- The first tightest slot is told.
abbrev pub FirstTightestIsTold : Type 0
FirstTightestIsTold = (s : Plan) (r : List Slot) (n : ℕ) → IsTightestOrNone s r n (tightest_of s r n)
