-- What a timeline keeps.
use Rattle.std.specs.Prelude.{◌≡◌, ◌⊎◌, ℕ, ◌+◌, ◌-◌, ◌*◌, ◌/◌, ◌<◌, ◌≤◌, nat_lt, if◌then◌else◌, Option, List, [], length, take, drop}
use Rattle.std.specs.List.{slice_index_or}
use Rattle.pf_order.specs.declared.pick.Pick.{Pick}
use Rattle.pf_scenario.specs.Scenario.{Plan}
use Rattle.pf_run.specs.declared.denied.Denied.{Denied}
use Rattle.pf_run.specs.Computed.{run_of}
use Rattle.pf_run.specs.RunRows.{AreOfRun, denials_in}
use Rattle.pf_engine.specs.Fits.{Kept, Fits}
use Rattle.pf_timeline.specs.declared.checkpoint.Checkpoint.{Checkpoint}
use Rattle.pf_timeline.specs.Checkpoints.{most_near, near_distance, near_slots}
use Rattle.pf_timeline.specs.Timeline.{KeptRun, past_below}

-- checkpoints: the slot of the first one, and how far they lie apart in slots
pub record Points : Type 0 where
  pub start : ℕ
  pub every : ℕ
  pub points : List Checkpoint

-- the slot of number k of them
abbrev pub slot_at : Points → ℕ → ℕ
slot_at c k = c.start + k * c.every

-- the slot of the next one
abbrev pub next_due : Points → ℕ
next_due c = slot_at c (length c.points)

-- the number of the last one not after a slot
abbrev pub last_at : Points → ℕ → ℕ
last_at c t = (t - c.start) / c.every

-- those up to a slot; none, from it on, where it is before the first one
abbrev pub points_up_to : ℕ → Points → Points
points_up_to t c =
    if nat_lt t c.start then record { start = t; every = c.every; points = [] } else record c { points = take (last_at c t + 1) c.points }

-- checkpoints without the first ones, which reach back 256 slots before the last one
pub record IsTrimmed (old new : Points) : Type 0 where
  pub dropped : ℕ
  pub few : dropped ≤ length old.points
  pub new_is : new ≡ record { start = slot_at old dropped; every = old.every; points = drop dropped old.points }
  pub back : slot_at old dropped + near_slots + old.every ≤ next_due old

-- they are as they were, or without the first ones
abbrev pub Trims : Points → Points → Type 0
Trims old new = (new ≡ old) ⊎ IsTrimmed old new

-- what these rows and denials of a scenario show, with this engine after them, checkpoints so far apart, and near ones from
-- this slot on
abbrev pub kept_run : Plan → ℕ → ℕ → List (List (Option Pick)) → List Denied → Kept → KeptRun
kept_run s every near rows denials e =
    record { now = e.now; rows = rows; denials = denials; past = past_below e.now s; every = every; near = near }

-- the rows and the denials are those of the scenario's run over n slots, and the engine fits that run
pub record KeepsRun (s : Plan) (n : ℕ) (rows : List (List (Option Pick))) (denials : List Denied) (e : Kept) : Type 0 where
  pub of_run : AreOfRun s n rows denials
  pub engine : Fits s (run_of s n) e

-- the checkpoint of slot t fits the run up to it, and counts its denials
pub record IsCheckpoint (s : Plan) (t : ℕ) (c : Checkpoint) : Type 0 where
  pub engine : Fits s (run_of s t) c.engine
  pub denials : c.denials ≡ length (denials_in s t)

-- each checkpoint fits the run up to its own slot, and none is of a slot after n; there is one of each slot below n that is due
pub record FitRun (s : Plan) (n : ℕ) (c : Points) : Type 0 where
  pub apart : 1 ≤ c.every
  pub each : (i : ℕ) (d : Checkpoint) → i < length c.points → IsCheckpoint s (slot_at c i) (slice_index_or c.points i d)
  pub not_behind : (i : ℕ) → i < length c.points → slot_at c i ≤ n
  pub begun : c.start ≤ n
  pub reach : n ≤ next_due c

-- they are few, and one less where one is due at slot n
pub record AreFew (n : ℕ) (c : Points) : Type 0 where
  pub few : length c.points ≤ most_near
  pub room : next_due c ≤ n → length c.points < most_near

-- the run is kept, and the checkpoints fit it, those from slot 0 on and the near ones, which are the second
pub record KeepsTimeline (s : Plan) (n : ℕ) (rows : List (List (Option Pick))) (denials : List Denied) (e : Kept) (c d : Points) : Type 0 where
  pub run : KeepsRun s n rows denials e
  pub points : FitRun s n c
  pub near : FitRun s n d
  pub few : AreFew n d
  pub from_start : c.start ≡ 0

-- number k of these checkpoints is the last one not after slot `from`
pub record IsLastAt (c : Points) (from k : ℕ) (p : Checkpoint) : Type 0 where
  pub some : k < length c.points
  pub is : p ≡ slice_index_or c.points k p
  pub not_after : slot_at c k ≤ from
  pub near : from < slot_at c k + c.every

-- this checkpoint is the last one not after slot `from` of one of the two; where the second reach back so far, of the closer ones
pub record IsLastOf (c d : Points) (from : ℕ) (p : Checkpoint) : Type 0 where
  pub among : Points
  pub one : (among ≡ c) ⊎ (among ≡ d)
  pub number : ℕ
  pub last : IsLastAt among from number p
  pub within : among.every ≤ c.every
  pub close : d.start ≤ from → among.every ≤ near_distance
