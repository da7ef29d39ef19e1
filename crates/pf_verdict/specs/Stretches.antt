-- Stretches of a run's slots, in each of which load and room stay as they are.
use Rattle.std.specs.Prelude.{◌≡◌, ℕ, ◌<◌, ◌≤◌, List, [], ◌∷◌, All}
use Rattle.pf_scenario.specs.Scenario.{Plan}
use Rattle.pf_run.specs.Record.{Slot}
use Rattle.pf_tally.specs.Load.{load_in, room_in}
use Rattle.pf_tally.specs.declared.level.Level.{Level}
use Rattle.pf_verdict.specs.declared.stretch.Stretch.{Stretch}

-- one after another they are the slots from `from` on and below `to`, and none is empty
abbrev pub Cover : ℕ → ℕ → List Stretch → Type 0
Cover from to [] = from ≡ to
Cover from to (x ∷ xs) = (x.from ≡ from) × (x.from < x.to) × Cover x.to to xs

-- load and room of each of its slots are the stretch's
abbrev pub IsEven : Plan → List Slot → Stretch → Type 0
IsEven s r x = (t : ℕ) → x.from ≤ t → t < x.to → (load_in s r t ≡ x.load) × (room_in s r t ≡ x.room)

-- the stretches of the first n slots of the run
pub record AreStretches (s : Plan) (r : List Slot) (n : ℕ) (xs : List Stretch) : Type 0 where
  pub cover : Cover 0 n xs
  pub even : All (IsEven s r) xs

-- the slot of the first of these levels, or n
abbrev pub next_slot : List Level → ℕ → ℕ
next_slot [] n = n
next_slot (x ∷ xs) n = x.slot

-- from each of these levels to the next, and from the last to n
abbrev pub stretches_of : List Level → ℕ → List Stretch
stretches_of [] n = []
stretches_of (x ∷ xs) n =
    record { from = x.slot; to = next_slot xs n; load = x.load; room = x.room } ∷ stretches_of xs n
