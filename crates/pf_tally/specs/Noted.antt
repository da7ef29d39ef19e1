-- How a schedule's rows are noted by task: of each task the slots in which it runs.
use Rattle.std.specs.Prelude.{◌≡◌, ℕ, cond, Option, List, [], ◌∷◌, ◌++◌}
use Rattle.pf_order.specs.declared.pick.Pick.{Pick}
use Rattle.pf_place.specs.Occupancy.{is_seated}
pub use Rattle.pf_place.specs.Turns.{IsRow}
use Rattle.pf_collections.specs.Table.Lists.{noted_of}
use Rattle.pf_tally.specs.Quanta.{slots_in}

-- the slot t was noted of those tasks that sit on these places
pub record AreNoted (old new : List (List ℕ)) (places : List (Option Pick)) (t : ℕ) : Type 0 where
  pub each : (task : ℕ) → noted_of new task ≡ noted_of old task ++ cond (is_seated places task) (t ∷ []) []

-- of each task the table has the slots in whose row it sits
pub record IsTableOf (rows : List (List (Option Pick))) (table : List (List ℕ)) : Type 0 where
  pub each : (task : ℕ) → noted_of table task ≡ slots_in rows task
