-- The slots in which a task runs.
use Rattle.std.specs.Prelude.{ℕ, ◌+◌, Bool, cond, Option, List, [], ◌∷◌}
use Rattle.pf_order.specs.declared.pick.Pick.{Pick}
use Rattle.pf_place.specs.Occupancy.{is_seated}
use Rattle.pf_run.specs.Record.{Slot, runs}

-- the places of those elements that pass the test, where the first element stands at t
abbrev pub places_from : {X : Type 0} → (X → Bool) → ℕ → List X → List ℕ
places_from test t [] = []
places_from test t (x ∷ xs) = cond (test x) (t ∷ places_from test (t + 1) xs) (places_from test (t + 1) xs)

-- the slots of a record in which the task runs
abbrev pub slots_of : List Slot → ℕ → List ℕ
slots_of r task = places_from (runs task) 0 r

-- the slots in whose row the task sits
abbrev pub slots_in : List (List (Option Pick)) → ℕ → List ℕ
slots_in rows task = places_from (λ row. is_seated row task) 0 rows
